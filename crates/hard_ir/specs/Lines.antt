-- The lines of hardened text inside functions: what their tokens stand for.
--
-- Choices: hardened text is the tool's own. A line that does an instruction of the source is that instruction's ordinary line (LLVM
-- Language Reference, 'Instruction Reference'), in which the side of each register is written before its name, `%m.x` or `%s.x`, and
-- with a `*` after all else where it retires. So the ordinary line says what the hardened one stands for. Labels and named types are
-- written as they are. In what a line stands for, a name is given by the place where it begins: in an instruction by its place in the
-- ordinary line, in a line of hardened text's own by the place after the side. What stands after a side is a name as it is after `%`: a
-- word or a numeral.
use Rattle.std.specs.Prelude.{ℕ, ◌≡◌, ◌+◌, ◌^◌, ◌&&◌, nat_eq, Bool, true, false, List, [], ◌∷◌, ◌++◌, drop, map, codes, Option, Some, None, is_some, if◌then◌else◌}
use Rattle.std.specs.Str.{bytes_eq}
use Rattle.std.specs.List.{AllByRecursion, flat_map, list_any, starts_with}
use Rattle.ir_core.specs.declared.text.TokKind.TheVariants.{Local}
use Rattle.ir_core.specs.declared.types.Loc.{Loc}
use Rattle.ir_core.specs.declared.types.Ty.{Ty}
use Rattle.ir_core.specs.declared.types.Ty.TheVariants as types
use Rattle.ir_core.specs.declared.values.Val.{Val}
use Rattle.ir_core.specs.declared.values.Side.{Side}
use Rattle.ir_core.specs.declared.values.Side.TheVariants.{M, S}
use Rattle.ir_core.specs.declared.instruction.Inst.{Inst}
use Rattle.ir_flow.specs.Uses.{reg_in, regs_in, arms_in}
use Rattle.ir_grammar.specs.Parts.{Tok, Part, gives, ends, one, ◌>>=◌, either, seen, IsOptional, heads as starts}
use Rattle.ir_grammar.specs.Tokens.{is_word, is_punct, is_local, name_place, known, keyword, punct, comma}
use Rattle.ir_grammar.specs.Numbers.{count}
use Rattle.ir_grammar.specs.Words.{entry, in_table}
use Rattle.ir_grammar.specs.Types.{memory_type, any_type}
use Rattle.ir_grammar.specs.Values.{constant_head, value_rest}
use Rattle.ir_grammar.specs.Fitting.{IsInstruction}
use Rattle.ir_core.specs.Instructions.{result_of}
use Rattle.ir_core.specs.Tokens.{is_name, IsToken}
use Rattle.hard_ir.specs.declared.instruction.When.{When}
use Rattle.hard_ir.specs.declared.instruction.When.TheVariants.{Always, Plain, Tx}
use Rattle.hard_ir.specs.declared.instruction.HVal.{HVal}
use Rattle.hard_ir.specs.declared.instruction.HVal.TheVariants as operands
use Rattle.hard_ir.specs.declared.instruction.HInst.{HInst}
use Rattle.hard_ir.specs.declared.instruction.HInst.TheVariants.{Cut, Begin, End, Tick, Chk, ChkMem, Mov}

-- ---- tokens

-- the token has a text of its kind
abbrev pub HasKind : Tok → Type 0
HasKind t = IsToken true t.kind t.text

abbrev pub AreTokens : List Tok → Type 0
AreTokens = AllByRecursion HasKind

-- ---- sides

-- what stands before the name of a register of a side
abbrev pub mark : Side → List ℕ
mark M = codes "%m."
mark S = codes "%s."

abbrev pub in_option : Option Loc → List Loc
in_option None = []
in_option (Some reg) = reg ∷ []

abbrev pub in_arm : Val × Loc → List Loc
in_arm arm = reg_in arm.0

-- the registers of an instruction: its result, what it reads, and the values of a phi; no labels
abbrev pub registers_of : Inst → List Loc
registers_of inst = in_option (result_of inst) ++ (regs_in inst ++ flat_map in_arm (arms_in inst))

-- the name of a register of the instruction begins at the place
abbrev pub is_register_at : Inst → ℕ → Bool
is_register_at inst at = list_any (λ (reg : Loc). nat_eq reg.0 at) (registers_of inst)

-- a `%` token with a side before its name
abbrev pub on_side : Side → Tok → Tok
on_side side t = record t { text = mark side ++ drop 1 t.text }

-- a token of the instruction's ordinary line, with the side where it is a register
abbrev pub sided : Side → Inst → Tok → Tok
sided side inst t = elim t.kind as (λ _. Tok) [ Local ↦ if is_register_at inst (name_place t) then on_side side t else t | _ ↦ t ]

-- ---- instructions of the source

-- `*`
abbrev pub asterisk : ℕ
asterisk = 42

-- the tokens do the instruction on a side, and retire it or don't; those of the ordinary line have texts of their kinds, so that a name stands after each `%`
pub record DoesInst (side : Side) (inst : Inst) (retires : Bool) (tokens : List Tok) : Type 0 where
  pub line : List Tok
  pub back : List Tok
  pub kinds : AreTokens line
  pub ordinary : IsInstruction line inst
  pub end : IsOptional (is_punct asterisk) back retires
  pub whole : tokens ≡ map (sided side inst) line ++ back

-- ---- registers in hardened text's own lines

-- the text is a side and a name
abbrev pub is_sided_name : Side → List ℕ → Bool
is_sided_name side text = starts_with nat_eq text (mark side) && is_name (drop 3 text)

-- a register of a side, by the place where its name begins, with its name
abbrev pub register_on : Side → Tok → Option (Loc × List ℕ)
register_on side t = elim t.kind as (λ _. Option (Loc × List ℕ)) [ Local ↦ if is_sided_name side t.text then Some (record { 0 = t.at + 3 }, drop 3 t.text) else None | _ ↦ None ]

-- the register of this name of a side
abbrev pub is_named_on : Side → List ℕ → Tok → Bool
is_named_on side name t = elim t.kind as (λ _. Bool) [ Local ↦ bytes_eq t.text (mark side ++ name) | _ ↦ false ]

-- `%m.x , %s.x` or `%s.x , %m.x`: a register of the one side, and that of the same name of the other
unfoldable pub register_pair : Side → Side → Part Loc
register_pair a b = one (register_on a) >>= λ reg. punct comma >>= λ _. one (λ t. known (is_named_on b reg.1 t)) >>= λ _. gives reg.0

abbrev pub shadow : Loc × List ℕ → HVal
shadow reg = operands.Reg (record { side = S; loc = reg.0 })

-- a register of the shadow's side, or a constant of the type
unfoldable pub shadow_or_constant : Ty → Part HVal
shadow_or_constant ty = either (starts is_local) (seen shadow (one (register_on S))) (seen operands.Const (one (constant_head ty) >>= value_rest))

-- ---- hardened text's own lines

-- `cut`, `begin`, `end`
unfoldable pub bare_line : Part HInst
bare_line = one (in_table (entry ((codes "cut", Cut) ∷ (codes "begin", Begin) ∷ (codes "end", End) ∷ []))) >>= λ item. ends item

-- `tick N`
unfoldable pub tick_line : Part HInst
tick_line = keyword (codes "tick") >>= λ _. count (2 ^ 32) >>= λ n. ends (Tick n)

abbrev pub check_word : List ℕ → Option When
check_word = entry ((codes "chk", Always) ∷ (codes "chk.plain", Plain) ∷ (codes "chk.tx", Tx) ∷ [])

-- `chk T %m.x, %s.x`
unfoldable pub check_line : Part HInst
check_line = one (in_table check_word) >>= λ when. any_type >>= λ ty. register_pair M S >>= λ reg. ends (Chk when ty reg)

-- `chkmem.tx T P, V`
unfoldable pub memory_check_line : Part HInst
memory_check_line =
    keyword (codes "chkmem.tx") >>= λ _. memory_type >>= λ ty. shadow_or_constant types.Ptr >>= λ ptr. punct comma >>= λ _. shadow_or_constant ty >>= λ val.
    ends (ChkMem ty ptr val)

-- `mov T %s.x, %m.x`
unfoldable pub copy_line : Part HInst
copy_line = keyword (codes "mov") >>= λ _. any_type >>= λ ty. register_pair S M >>= λ reg. ends (Mov ty reg)

-- any of these
unfoldable pub own_line : Part HInst
own_line =
    either (starts (is_word (codes "mov"))) copy_line
    (either (starts (is_word (codes "tick"))) tick_line
    (either (starts (is_word (codes "chkmem.tx"))) memory_check_line
    (either (starts (λ t. is_some (in_table check_word t))) check_line bare_line)))
