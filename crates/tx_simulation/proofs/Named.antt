-- Files of registers that agree in the names of a function; which registers those are; and that no two of its blocks have one label.
use Rattle.std.proofs.Common.{ℕ, ◌≡◌, ◌≢◌, ◌∙◌, Bool, true, false, List, [], ◌∷◌, ◌++◌, map, Option, Some, slice_get, refl, ap, sym, subst}
use Rattle.std.specs.Prelude.{nat_eq}
use Rattle.std.specs.List.{flat_map}
use Rattle.std.specs.Option.{option_map_or}
use Rattle.std.proofs.lemmas.Bool.{eqb-true, eqb-false, eq-eqb}
use Rattle.ir_core.specs.declared.types.Loc.{Loc}
use Rattle.ir_core.specs.declared.instruction.Inst.{Inst}
use Rattle.ir_core.specs.declared.instruction.Block.{Block}
use Rattle.ir_core.specs.Instructions.{result_of}
use Rattle.ir_core.specs.Module.{ModuleParts, FuncParts}
use Rattle.ir_flow.specs.Uses.{reg_in, regs_in, arms_in}
use Rattle.ir_check.proofs.Members.{IsIn, next-in, in-front, in-back, in-flat, any-in}
use Rattle.inst_meaning.specs.Registers.{get, put}
use Rattle.inst_meaning.specs.Phis.{all_assigned}
use Rattle.inst_meaning.proofs.Puts.{put-here, put-elsewhere}
use Rattle.hard_ir.specs.Images.{names_in, names_of, is_named}
use Rattle.hard_ir.specs.Lines.{in_option, registers_of}
use Rattle.tx_simulation.proofs.Points.{names_at, AgreeIn}

-- ---- files

pub agree-refl : (names : ℕ → Bool) (a : List (Option ℕ)) → AgreeIn names a a
agree-refl names a = record { same = λ at e. refl }

-- both take a word
pub put-agrees : (names : ℕ → Bool) (a b : List (Option ℕ)) (at word : ℕ) → AgreeIn names a b → AgreeIn names (put a at word) (put b at word)
put-agrees names a b at word h = record { same = λ k e. by_name k (nat_eq at k) refl e }
  where
    by_name : (k : ℕ) (same : Bool) → nat_eq at k ≡ same → names k ≡ true → get (put a at word) k ≡ get (put b at word) k
    by_name k true f e =
        let is : at ≡ k = eqb-true at k f in
        subst (λ (j : ℕ). get (put a at word) j ≡ get (put b at word) j) is (put-here a at word ∙ sym (put-here b at word))
    by_name k false f e =
        let other : at ≢ k = eqb-false at k f in
        put-elsewhere a at word k other ∙ h.same k e ∙ sym (put-elsewhere b at word k other)

-- a register that is none of the names takes a word
pub put-outside : (names : ℕ → Bool) (a b : List (Option ℕ)) (at word : ℕ) → names at ≡ false → AgreeIn names a b → AgreeIn names (put a at word) b
put-outside names a b at word new h = record { same = λ k e. put-elsewhere a at word k (other k e) ∙ h.same k e }
  where
    other : (k : ℕ) → names k ≡ true → at ≢ k
    other k e is = let clash : true ≡ false = sym e ∙ ap names (sym is) ∙ new in cc

pub all-agree : (names : ℕ → Bool) (words : List (Loc × ℕ)) (a b : List (Option ℕ)) → AgreeIn names a b
    → AgreeIn names (all_assigned words a) (all_assigned words b)
all-agree names [] a b h = h
all-agree names (word ∷ words) a b h = all-agree names words (put a word.0.0 word.1) (put b word.0.0 word.1) (put-agrees names a b word.0.0 word.1 h)

-- words go to their registers one after another
pub assigned-append : (xs ys : List (Loc × ℕ)) (file : List (Option ℕ)) → all_assigned (xs ++ ys) file ≡ all_assigned ys (all_assigned xs file)
assigned-append [] ys file = refl
assigned-append (x ∷ xs) ys file = assigned-append xs ys (put file x.0.0 x.1)

-- ---- the names of a function

pub any-named : (f : FuncParts) (at : Loc) → IsIn at (names_of f) → is_named f at ≡ true
any-named f at h = any-in (λ name. nat_eq name.0 at.0) at (names_of f) h (eq-eqb at.0 at.0 refl)

in-function : (f : FuncParts) (b : ℕ) (block : Block) (at : Loc) → slice_get f.blocks b ≡ Some block → IsIn at (names_in block) → is_named f at ≡ true
in-function f b block at there h =
    any-named f at (in-back at (map (λ param. param.1) f.params) (flat_map names_in f.blocks) (in-flat names_in block at f.blocks (b, there) h))

-- a register of an instruction
pub register-named : (f : FuncParts) (b i : ℕ) (block : Block) (inst : Inst) (at : Loc) → slice_get f.blocks b ≡ Some block → slice_get block.insts i ≡ Some inst
    → IsIn at (registers_of inst) → is_named f at ≡ true
register-named f b i block inst at there stands h =
    in-function f b block at there (next-in at block.label (flat_map registers_of block.insts) (in-flat registers_of inst at block.insts (i, stands) h))

-- that it reads, or that one of its arms does
pub read-in : (inst : Inst) (at : Loc) → IsIn at (regs_in inst) → IsIn at (registers_of inst)
read-in inst at h = in-back at (in_option (result_of inst)) (regs_in inst ++ flat_map (λ arm. reg_in arm.0) (arms_in inst))
    (in-front at (regs_in inst) (flat_map (λ arm. reg_in arm.0) (arms_in inst)) h)

pub arm-in : (inst : Inst) (at : Loc) → IsIn at (flat_map (λ arm. reg_in arm.0) (arms_in inst)) → IsIn at (registers_of inst)
arm-in inst at h = in-back at (in_option (result_of inst)) (regs_in inst ++ flat_map (λ arm. reg_in arm.0) (arms_in inst))
    (in-back at (regs_in inst) (flat_map (λ arm. reg_in arm.0) (arms_in inst)) h)

pub names-are : (m : ModuleParts) (n : ℕ) (f : FuncParts) (at : Loc) → slice_get m.funcs n ≡ Some f → names_at m n at.0 ≡ is_named f at
names-are m n f at e = ap (λ (o : Option FuncParts). option_map_or (λ (f : FuncParts). is_named f at) o false) e
