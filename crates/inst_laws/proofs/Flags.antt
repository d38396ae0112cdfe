-- An operator without flags asks for what it asks for with them, where that can be done.
use Rattle.std.proofs.Common.{ℕ, ◌≡◌, List, Option, Some, None, Bool, true, false, nat_le, ◌||◌, refl}
use Rattle.std.proofs.lemmas.Bool.{or_parts}
use Rattle.ir_core.specs.declared.instruction.BinOp.{BinOp}
use Rattle.ir_core.specs.declared.instruction.BinOp.TheVariants.{Shl, Lshr, Ashr}
use Rattle.ir_core.specs.declared.instruction.Flags.{Flags}
use Rattle.ir_core.specs.declared.instruction.Inst.{Inst}
use Rattle.ir_core.specs.declared.instruction.Inst.TheVariants as insts
use Rattle.op_table.specs.Operators.{bits, binary, is_divide, is_poison}
use Rattle.ir_layout.specs.Memory.{LayoutParts}
use Rattle.inst_meaning.specs.declared.actions.Callee.{Callee}
use Rattle.inst_meaning.specs.Operands.{word_at}
use Rattle.inst_meaning.specs.Action.{action_of, on_word, operated}
use Rattle.inst_laws.specs.Agreement.{IsDefined, with_flags}

abbrev plain : Flags
plain = record { nuw = false; nsw = false; exact = false }

first_part : (x y : Bool) → x ≡ false → y ≡ false → (x || y) ≡ false
first_part x y e f = rw (e, f) refl

-- where a result isn't poison, it isn't poison without flags
poison-plain : (op : BinOp) (flags : Flags) (w a b : ℕ) → is_poison op flags w a b ≡ false → is_poison op plain w a b ≡ false
poison-plain Shl flags w a b e = first_part (nat_le w b || false) _ (first_part (nat_le w b) _ (or_parts (nat_le w b) _ (or_parts (nat_le w b || _) _ e).0).0 refl) refl
poison-plain Lshr flags w a b e = first_part (nat_le w b) _ (or_parts (nat_le w b) _ e).0 refl
poison-plain Ashr flags w a b e = first_part (nat_le w b) _ (or_parts (nat_le w b) _ e).0 refl
poison-plain op flags w a b e = refl

operated-plain : (op : BinOp) (flags : Flags) (w a b : ℕ) (divide poison : Bool) → is_divide op w a b ≡ divide → is_poison op flags w a b ≡ poison
    → IsDefined (operated (binary op flags w a b)) → operated (binary op plain w a b) ≡ operated (binary op flags w a b)
unfolding binary
operated-plain op flags w a b true poison d p is = absurd (rw d at is)
operated-plain op flags w a b false true d p is = absurd (rw (d, p) at is)
operated-plain op flags w a b false false d p is = rw (d, poison-plain op flags w a b p, p) refl

operation-plain : (left right : Option ℕ) (op : BinOp) (flags : Flags) (w : ℕ) → IsDefined (on_word left (λ x. on_word right (λ y. operated (binary op flags w x y))))
    → on_word left (λ x. on_word right (λ y. operated (binary op plain w x y))) ≡ on_word left (λ x. on_word right (λ y. operated (binary op flags w x y)))
operation-plain None right op flags w is = absurd is
operation-plain (Some x) None op flags w is = absurd is
operation-plain (Some x) (Some y) op flags w is = operated-plain op flags w x y (is_divide op w x y) (is_poison op flags w x y) refl refl is

pub action-plain : (l : LayoutParts) (callees : List Callee) (registers : List (Option ℕ)) (inst : Inst) → IsDefined (action_of l callees registers inst)
    → action_of l callees registers (with_flags plain inst) ≡ action_of l callees registers inst
action-plain l callees registers (insts.Bin dst op flags w x y) is = operation-plain (word_at l registers w x) (word_at l registers w y) op flags (bits w) is
action-plain l callees registers inst is = refl
