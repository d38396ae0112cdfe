-- The types of the lines of a hardened module fit.
use Rattle.std.proofs.Common.{ℕ, ◌≡◌, ◌∙◌, Bool, true, false, ◌||◌, ◌&&◌, List, [], ◌∷◌, find, slice_get, Option, Some, None, refl, ap, sym, subst, ◌⊎◌, inl, inr}
use mathlib.Core.Path.{fun_ext}
use Rattle.std.specs.Prelude.{nat_eq, if◌then◌else◌}
use Rattle.std.specs.List.{list_all, list_any}
use Rattle.std.specs.Option.{option_map, option_map_or}
use Rattle.ir_core.proofs.Lengths.{both_true}
use Rattle.ir_core.specs.declared.types.Ty.{Ty}
use Rattle.ir_core.specs.declared.types.Ty.TheVariants as types
use Rattle.ir_core.specs.declared.types.TypeId.{TypeId}
use Rattle.ir_core.specs.declared.types.Loc.{Loc}
use Rattle.ir_core.specs.declared.values.Val.{Val}
use Rattle.ir_core.specs.declared.values.Val.TheVariants as values
use Rattle.ir_core.specs.declared.instruction.Inst.{Inst}
use Rattle.ir_core.specs.declared.instruction.Inst.TheVariants as insts
use Rattle.ir_core.specs.declared.instruction.Block.{Block}
use Rattle.ir_core.specs.Module.{ModuleParts, FuncParts}
use Rattle.ir_lines.specs.Lines.{HeadLine, BlockLine, InstLine}
use Rattle.ir_types.specs.Firsts.{first_of}
use Rattle.ir_types.specs.Meanings.{Meaning, Label, Register, Pair, meanings, result_of}
use Rattle.ir_types.specs.Types.{types_keep, inst_fits, operand_fits, names_label, is_label, form_fits, is_register_of, is_pair_of, typed_operands, labels_in}
use Rattle.ir_check.specs.Blocks.{ends_well, begins_well}
use Rattle.hard_ir.specs.declared.instruction.HVal.{HVal}
use Rattle.hard_ir.specs.declared.instruction.HInst.{HInst}
use Rattle.hard_ir.specs.declared.instruction.HInst.TheVariants.{Chk, ChkMem, Mov, Do}
use Rattle.hard_ir.specs.Image.{Table, unflagged, single_result, pair_of, on_shadow}
use Rattle.hard_ir.specs.Hardened.{hardened_by}
use Rattle.hard_ir.specs.Fit.{HardFunc, hard_meanings, has_type, operand_has_type, meaning_fits, result_fits, is_pair_at, uses_fit, source_fits, hard_inst_fits, hard_types_keep, outer_lines}
use Rattle.ir_check.proofs.Members.{IsIn, all-in, of-all}
use Rattle.hard_laws.proofs.Images.{is_quiet, IsPart, IsTable}
use Rattle.hard_laws.proofs.HardLines.{EachKeeps, IsBlockOf, hard_of, both}
use Rattle.hard_laws.proofs.Accepted.{Sound, head-line, block-line, inst-line, of-code, outer-line}
use Rattle.hard_laws.proofs.SameTypes.{type-same}
use Rattle.hard_laws.proofs.Meanings.{meaning-same}
use Rattle.hard_laws.proofs.Results.{result-stands, param-stands}

-- ---- the same by names that stand for the same

module _ (named : List (TypeId × Ty)) (xs ys : List (Loc × Meaning)) (same : (at : Loc) → first_of xs at ≡ first_of ys at) where
  operand-same : operand_fits named xs ≡ operand_fits named ys
  operand-same = fun_ext by_operand
    where
      by_operand : (x : Ty × Val) → operand_fits named xs x ≡ operand_fits named ys x
      by_operand (ty, values.Reg at) = ap (is_register_of ty) (same at)
      by_operand (ty, val) = refl

  label-same : names_label xs ≡ names_label ys
  label-same = fun_ext (λ at. ap is_label (same at))

  form-same : (ret : Ty) (inst : Inst) → form_fits named xs ret inst ≡ form_fits named ys ret inst
  form-same ret (insts.Extract dst elem pair index) = ap (is_pair_of elem) (same pair)
  form-same ret inst = refl

  fits-same : (ret : Ty) (inst : Inst) → inst_fits named xs ret inst ≡ inst_fits named ys ret inst
  fits-same ret inst =
      ap (λ (test : Ty × Val → Bool). list_all test (typed_operands inst) && list_all (names_label xs) (labels_in inst) && form_fits named xs ret inst) operand-same
      ∙ ap (λ (test : Loc → Bool). list_all (operand_fits named ys) (typed_operands inst) && list_all test (labels_in inst) && form_fits named xs ret inst) label-same
      ∙ ap (λ (b : Bool). list_all (operand_fits named ys) (typed_operands inst) && list_all (names_label ys) (labels_in inst) && b) (form-same ret inst)

fits-unflagged : (named : List (TypeId × Ty)) (names : List (Loc × Meaning)) (ret : Ty) (inst : Inst) → inst_fits named names ret (unflagged inst) ≡ inst_fits named names ret inst
fits-unflagged named names ret (insts.Bin dst op flags w a b) = refl
fits-unflagged named names ret inst = refl

result-unflagged : (inst : Inst) → result_of (unflagged inst) ≡ result_of inst
result-unflagged (insts.Bin dst op flags w a b) = refl
result-unflagged inst = refl

uses-unflagged : (named : List (TypeId × Ty)) (f : HardFunc) (inst : Inst) → uses_fit named f (unflagged inst) ≡ uses_fit named f inst
uses-unflagged named f (insts.Bin dst op flags w a b) = refl
uses-unflagged named f inst = refl

-- the first of a name is one of them
pair-there : (elem : Ty) (pair : Loc) (xs : List (Loc × Meaning)) → is_pair_of elem (first_of xs pair) ≡ true → list_any (is_pair_at elem pair) xs ≡ true
pair-there elem pair [] e = cc
pair-there elem pair (x ∷ xs) e = by_test (nat_eq x.0.0 pair.0) e (pair-there elem pair xs)
  where
    by_test : (b : Bool) → is_pair_of elem (option_map (λ (entry : Loc × Meaning). entry.1) (if b then Some x else find (λ (entry : Loc × Meaning). nat_eq entry.0.0 pair.0) xs)) ≡ true
        → (is_pair_of elem (first_of xs pair) ≡ true → list_any (is_pair_at elem pair) xs ≡ true) → ((b && is_pair_of elem (Some x.1)) || list_any (is_pair_at elem pair) xs) ≡ true
    by_test true e rest = rw e refl
    by_test false e rest = rest e

some-same : {A : Type 0} (x y : A) → Some x ≡ Some y → x ≡ y
some-same x y e = cc

-- what is copied has the type of the result
copied-result : (inst : Inst) (ty : Ty) (reg : Loc) (test : Loc × Meaning → Bool) → single_result inst ≡ Some (ty, reg) → option_map_or test (result_of inst) true ≡ true → (test (reg, Register ty) ≡ true) ⊎ ((elem : Ty) × (ty ≡ pair_of elem) × (test (reg, Pair elem) ≡ true))
copied-result (insts.Alloca dst own) ty reg test s e =
    let same : (types.Ptr, dst) ≡ (ty, reg) = some-same (types.Ptr, dst) (ty, reg) s in
    inl (subst (λ (x : Ty × Loc). test (x.1, Register x.0) ≡ true) same e)
copied-result (insts.Load dst own ptr atomic) ty reg test s e =
    let same : (own, dst) ≡ (ty, reg) = some-same (own, dst) (ty, reg) s in
    inl (subst (λ (x : Ty × Loc). test (x.1, Register x.0) ≡ true) same e)
copied-result (insts.Rmw dst op ptr own val) ty reg test s e =
    let same : (own, dst) ≡ (ty, reg) = some-same (own, dst) (ty, reg) s in
    inl (subst (λ (x : Ty × Loc). test (x.1, Register x.0) ≡ true) same e)
copied-result (insts.CmpXchg dst ptr own old new) ty reg test s e =
    let same : (pair_of own, dst) ≡ (ty, reg) = some-same (pair_of own, dst) (ty, reg) s in
    inr (own, sym (ap (λ (x : Ty × Loc). x.0) same), subst (λ (x : Ty × Loc). test (x.1, Pair own) ≡ true) same e)
copied-result (insts.Call (Some dst) own callee args) ty reg test s e =
    let same : (own, dst) ≡ (ty, reg) = some-same (own, dst) (ty, reg) s in
    inl (subst (λ (x : Ty × Loc). test (x.1, Register x.0) ≡ true) same e)
copied-result (insts.Call None own callee args) ty reg test s e = absurd cc
copied-result inst ty reg test s e = absurd cc

-- an operand on the shadow's side fits where the operand does
shadow-fits : (named : List (TypeId × Ty)) (f : HardFunc) (ty : Ty) (val : Val) → operand_fits named (hard_meanings f) (ty, val) ≡ true → operand_has_type named f ty (on_shadow val) ≡ true
shadow-fits named f ty (values.Reg reg) e = e
shadow-fits named f ty (values.Int n) e = e
shadow-fits named f ty values.Null e = e
shadow-fits named f ty (values.Global sym) e = e
shadow-fits named f ty (values.Gep gep) e = e

-- ---- the lines of a module

module _ (table : Table) (is : IsTable table) (m : ModuleParts) (sound : Sound m) where
  stands-for : (n : ℕ) (f : FuncParts) → slice_get m.funcs n ≡ Some f → (at : Loc) → first_of (hard_meanings (hard_of table f)) at ≡ first_of (meanings f) at
  stands-for n f stands at =
      meaning-same table is at f (λ i block there. (both_true (ends_well block.insts) (begins_well block.insts) (sound.terminators (BlockLine n f i block) (of-code m (BlockLine n f i block) (block-line m n i f block (stands, there))))).1)

  source-types : (n b : ℕ) (f : FuncParts) (block : Block) (inst : Inst) → IsBlockOf m n f b block → IsIn inst block.insts → inst_fits m.types (meanings f) f.ret inst ≡ true
  source-types n b f block inst at h = sound.types (InstLine n f b h.0 inst) (of-code m (InstLine n f b h.0 inst) (inst-line m n b f block inst at h))

  own-fits : (n b : ℕ) (f : FuncParts) (block : Block) (inst : Inst) → IsBlockOf m n f b block → IsIn inst block.insts → result_fits (hard_of table f) inst ≡ true
  own-fits n b f block inst at h = by_result (result_of inst) refl
    where
      by_meaning : (dst : Loc) (mean : Meaning) → first_of (hard_meanings (hard_of table f)) dst ≡ Some mean → meaning_fits (hard_of table f) (dst, mean) ≡ true
      by_meaning dst Label e = refl
      by_meaning dst (Register ty) e = ap (is_register_of ty) e ∙ type-same ty
      by_meaning dst (Pair ty) e = ap (is_register_of (pair_of ty)) e ∙ type-same (pair_of ty)

      by_result : (o : Option (Loc × Meaning)) → result_of inst ≡ o → option_map_or (meaning_fits (hard_of table f)) o true ≡ true
      by_result None e = refl
      by_result (Some (dst, mean)) e = by_meaning dst mean (stands-for n f at.0 dst ∙ result-stands m sound n b f block inst dst mean at h e)

  uses-fit : (n b : ℕ) (f : FuncParts) (block : Block) (inst : Inst) → IsBlockOf m n f b block → IsIn inst block.insts → uses_fit m.types (hard_of table f) inst ≡ true
  uses-fit n b f block inst at h = by_inst inst (fits-same m.types (hard_meanings (hard_of table f)) (meanings f) (stands-for n f at.0) f.ret inst ∙ source-types n b f block inst at h)
    where
      by_inst : (inst : Inst) → inst_fits m.types (hard_meanings (hard_of table f)) f.ret inst ≡ true → uses_fit m.types (hard_of table f) inst ≡ true
      by_inst (insts.Extract dst elem pair index) e = pair-there elem pair (hard_meanings (hard_of table f)) e
      by_inst inst e = e

  source-fit : (n b : ℕ) (f : FuncParts) (block : Block) (inst : Inst) → IsBlockOf m n f b block → IsIn inst block.insts → source_fits m.types (hard_of table f) inst ≡ true
  source-fit n b f block inst at h = both (own-fits n b f block inst at h) (uses-fit n b f block inst at h)

  copy-fits : (n b : ℕ) (f : FuncParts) (block : Block) (inst : Inst) (ty : Ty) (reg : Loc) → IsBlockOf m n f b block → IsIn inst block.insts → single_result inst ≡ Some (ty, reg) → has_type (hard_of table f) ty reg ≡ true
  copy-fits n b f block inst ty reg at h s =
      elim (copied-result inst ty reg (meaning_fits (hard_of table f)) s (own-fits n b f block inst at h)) as (λ _. has_type (hard_of table f) ty reg ≡ true) [
        | inl e ↦ e
        | inr (elem, is, e) ↦ subst (λ t. has_type (hard_of table f) t reg ≡ true) (sym is) e
      ]

  check-fits : (n b : ℕ) (f : FuncParts) (block : Block) (inst : Inst) (ty : Ty) (reg : Loc) → IsBlockOf m n f b block → IsIn inst block.insts → IsIn (ty, values.Reg reg) (typed_operands inst) → has_type (hard_of table f) ty reg ≡ true
  check-fits n b f block inst ty reg at h o =
      let operands = both_true (list_all (operand_fits m.types (meanings f)) (typed_operands inst)) _ (first _ _ (source-types n b f block inst at h)) in
      ap (is_register_of ty) (stands-for n f at.0 reg) ∙ of-all (operand_fits m.types (meanings f)) (ty, values.Reg reg) (typed_operands inst) operands.0 o
    where
      first : (a b : Bool) → (a && b) ≡ true → a ≡ true
      first true b e = refl
      first false b e = cc

  -- the operands of a store fit
  stored-operands : (n b : ℕ) (f : FuncParts) (block : Block) (inst : Inst) → IsBlockOf m n f b block → IsIn inst block.insts → (ty : Ty) (v p : Val) → inst ≡ insts.Store ty v p false
      → list_all (operand_fits m.types (hard_meanings (hard_of table f))) ((ty, v) ∷ (types.Ptr, p) ∷ []) ≡ true
  stored-operands n b f block inst at h ty v p store =
      let fits : inst_fits m.types (hard_meanings (hard_of table f)) f.ret (insts.Store ty v p false) ≡ true =
      ap (inst_fits m.types (hard_meanings (hard_of table f)) f.ret) (sym store)
      ∙ fits-same m.types (hard_meanings (hard_of table f)) (meanings f) (stands-for n f at.0) f.ret inst ∙ source-types n b f block inst at h in
      first _ _ (first _ _ fits)
    where
      first : (a b : Bool) → (a && b) ≡ true → a ≡ true
      first true b e = refl
      first false b e = cc

  type-part : (n b i : ℕ) (f : FuncParts) (block : Block) (inst : Inst) (item : HInst) → IsBlockOf m n f b block → IsIn inst block.insts → IsPart inst item → hard_inst_fits m.types (hard_of table f) item ≡ true
  type-part n b i f block inst (Do side other retires) at h (same, retire) =
      ap (λ (x : Inst). source_fits m.types (hard_of table f) x) same
      ∙ ap (λ (o : Option (Loc × Meaning)). option_map_or (meaning_fits (hard_of table f)) o true && uses_fit m.types (hard_of table f) (unflagged inst)) (result-unflagged inst)
      ∙ ap (λ (x : Bool). result_fits (hard_of table f) inst && x) (uses-unflagged m.types (hard_of table f) inst) ∙ source-fit n b f block inst at h
  type-part n b i f block inst (Mov ty reg) at h part = copy-fits n b f block inst ty reg at h part
  type-part n b i f block inst (Chk when ty reg) at h part = check-fits n b f block inst ty reg at h part
  type-part n b i f block inst (ChkMem ty ptr val) at h (p, v, of_ptr, of_val, store) =
      let all = stored-operands n b f block inst at h ty v p store in
      let word = both_true (operand_fits m.types (hard_meanings (hard_of table f)) (ty, v)) _ all in
      let pointer = both_true (operand_fits m.types (hard_meanings (hard_of table f)) (types.Ptr, p)) true word.1 in
      both
      (ap (λ (x : HVal). operand_has_type m.types (hard_of table f) types.Ptr x) of_ptr ∙ shadow-fits m.types (hard_of table f) types.Ptr p pointer.0)
      (ap (λ (x : HVal). operand_has_type m.types (hard_of table f) ty x) of_val ∙ shadow-fits m.types (hard_of table f) ty v word.0)
  type-part n b i f block inst item at h part = refl

  type-quiet : (f : HardFunc) (item : HInst) → is_quiet item ≡ true → hard_inst_fits m.types f item ≡ true
  type-quiet f (Do side other retires) e = cc
  type-quiet f (Mov ty reg) e = cc
  type-quiet f (Chk when ty reg) e = cc
  type-quiet f (ChkMem ty ptr val) e = cc
  type-quiet f item e = refl

  pub types-each : EachKeeps table m (hard_types_keep (hardened_by table m))
  types-each = record {
    outer = all-in (types_keep m) (outer_lines m) (λ line h. sound.types line (outer-line m line h));
    head = λ n f at. sound.types (HeadLine n f) (of-code m (HeadLine n f) (head-line m n f at));
    block = λ n b f block at. refl;
    phi = λ n b i f block inst side at h e. source-fit n b f block inst at h;
    part = λ n b i f block inst item at h e part. type-part n b i f block inst item at h part;
    param = λ n b i f block param at h. ap (is_register_of param.0) (stands-for n f at.0 param.1 ∙ param-stands m sound n f param at.0 h) ∙ type-same param.0;
    quiet = λ n b i f item e. type-quiet (hard_of table f) item e;
  }
