-- The lines of a hardened module keep the limits, and have their forms.
use Rattle.std.proofs.Common.{ℕ, zero, suc, ◌≡◌, ◌∙◌, ◌+◌, Bool, true, false, ◌||◌, ◌&&◌, not, List, [], ◌∷◌, ◌++◌, map, slice_get, Option, Some, None, refl, ap, sym, subst, ◌⊎◌, inl, inr}
use Rattle.std.specs.Prelude.{if◌then◌else◌, is_none}
use Rattle.std.specs.List.{flat_map, list_all}
use Rattle.std.specs.Option.{option_or}
use Rattle.ir_core.proofs.Lengths.{both_true}
use Rattle.ir_core.specs.declared.types.Ty.{Ty}
use Rattle.ir_core.specs.declared.types.Ty.TheVariants as types
use Rattle.ir_core.specs.declared.types.TypeId.{TypeId}
use Rattle.ir_core.specs.declared.types.Loc.{Loc}
use Rattle.ir_core.specs.declared.types.Width.{Width}
use Rattle.ir_core.specs.declared.types.Width.TheVariants.{W1}
use Rattle.ir_core.specs.declared.values.Val.{Val}
use Rattle.ir_core.specs.declared.values.Val.TheVariants as values
use Rattle.ir_core.specs.declared.instruction.Inst.{Inst}
use Rattle.ir_core.specs.declared.instruction.Inst.TheVariants as insts
use Rattle.ir_core.specs.Module.{ModuleParts, FuncParts}
use Rattle.ir_layout.specs.declared.limits.LimitKind.{LimitKind}
use Rattle.ir_layout.specs.Limits.{limit_among, limit_of, is_too_large, is_too_deep}
use Rattle.ir_layout.specs.declared.limits.LimitKind.TheVariants.{TypeSize, TypeDepth}
use Rattle.ir_layout.specs.WrittenTypes.{types_in_inst, types_in_val, types_in_arg}
use Rattle.ir_lines.specs.Lines.{Line, TypeLine, GlobalLine, DeclareLine, HeadLine, InstLine, funcs_lines}
use Rattle.ir_types.specs.Types.{typed_operands, typed_index}
use Rattle.ir_core.specs.Instructions.{is_phi}
use Rattle.ir_check.specs.CodeLimits.{limit_in}
use Rattle.hard_ir.specs.declared.instruction.HVal.{HVal}
use Rattle.hard_ir.specs.declared.instruction.HInst.{HInst}
use Rattle.hard_ir.specs.declared.instruction.HInst.TheVariants.{Chk, ChkMem, Mov, Do}
use Rattle.hard_ir.specs.Image.{Table, unflagged, single_result, pair_of, on_shadow}
use Rattle.std.proofs.lemmas.List.Folds.{list_all-append}
use Rattle.hard_ir.specs.Hardened.{hardened_by}
use Rattle.hard_ir.specs.Fit.{HardFunc, HardLine, HInstLine, pair_part, keeps_as_part, types_in_operand, limit_of_register, limits_keep, forms_keep, must_retire, outer_lines}
use Rattle.ir_check.proofs.Members.{IsIn, of-append, of-map, in-map, in-front, next-in, all-in}
use Rattle.hard_laws.proofs.Images.{phi-unflagged, is_quiet, IsPart}
use Rattle.hard_laws.proofs.Scalars.{int-limit, ptr-limit, pair-part}
use Rattle.hard_laws.proofs.HardLines.{EachKeeps, hard_of}
use Rattle.hard_laws.proofs.Accepted.{Sound, head-line, inst-line}

-- ---- forms

retire-unflagged : (inst : Inst) → must_retire (unflagged inst) ≡ must_retire inst
retire-unflagged (insts.Bin dst op flags w a b) = refl
retire-unflagged inst = refl

form-part : (n b i : ℕ) (f : HardFunc) (inst : Inst) (item : HInst) → is_phi inst ≡ false → IsPart inst item → forms_keep (HInstLine n f b i item) ≡ true
form-part n b i f inst (Do side other retires) e (same, retire) =
    ap (λ (x : Inst). not (is_phi x) && (retires || not (must_retire x))) same
    ∙ ap (λ (x : Bool). not x && (retires || not (must_retire (unflagged inst)))) (phi-unflagged inst ∙ e)
    ∙ ap (λ (x : Bool). retires || not x) (retire-unflagged inst) ∙ retire
form-part n b i f inst item e part = refl

form-quiet : (n b i : ℕ) (f : HardFunc) (item : HInst) → is_quiet item ≡ true → forms_keep (HInstLine n f b i item) ≡ true
form-quiet n b i f (Do side other retires) e = cc
form-quiet n b i f item e = refl

pub forms-each : (table : Table) (m : ModuleParts) → EachKeeps table m forms_keep
forms-each table m = record {
  outer = all-in (λ line. true) (outer_lines m) (λ line h. refl);
  head = λ n f at. refl;
  block = λ n b f block at. refl;
  phi = λ n b i f block inst side at h e. e;
  part = λ n b i f block inst item at h e part. form-part n b i (hard_of table f) inst item e part;
  param = λ n b i f block param at h. refl;
  quiet = λ n b i f item e. form-quiet n b i (hard_of table f) item e;
}

-- ---- limits

module _ (named : List (TypeId × Ty)) where
  abbrev IsKept : Ty → Type 0
  IsKept ty = limit_among named (ty ∷ []) ≡ None

  one-of : (test : Ty → Bool) (ty : Ty) (written : List Ty) → list_all test written ≡ true → IsIn ty written → list_all test (ty ∷ []) ≡ true
  one-of test ty [] e (k, at) = absurd cc
  one-of test ty (x ∷ xs) e (zero, at) = let same : x ≡ ty = cc in rw (← same, (both_true (test x) (list_all test xs) e).0) refl
  one-of test ty (x ∷ xs) e (suc k, at) = one-of test ty xs (both_true (test x) (list_all test xs) e).1 (k, at)

  -- each type of a line keeps the limits
  kept-in : (ty : Ty) (written : List Ty) → limit_among named written ≡ None → IsIn ty written → IsKept ty
  kept-in ty written e h =
      by_tests (list_all (λ t. not (is_too_large (limit_of named t))) written) (list_all (λ t. not (is_too_deep (limit_of named t))) written) refl refl e
    where
      by_tests : (a b : Bool) → list_all (λ t. not (is_too_large (limit_of named t))) written ≡ a → list_all (λ t. not (is_too_deep (limit_of named t))) written ≡ b
          → (if not a then Some TypeSize else if not b then Some TypeDepth else None) ≡ None → IsKept ty
      by_tests false b p q none = cc
      by_tests true false p q none = cc
      by_tests true true p q none =
          ap (λ (x : Bool). if not x then Some TypeSize else if not (list_all (λ t. not (is_too_deep (limit_of named t))) (ty ∷ [])) then Some TypeDepth else None) (one-of (λ t. not (is_too_large (limit_of named t))) ty written p h)
          ∙ ap (λ (x : Bool). if not x then Some TypeDepth else None) (one-of (λ t. not (is_too_deep (limit_of named t))) ty written q h)

  int-kept : (w : Width) → IsKept (types.Int w)
  int-kept w = int-limit named w

  ptr-kept : IsKept types.Ptr
  ptr-kept = ptr-limit named

  register-kept : (ty : Ty) → IsKept ty → limit_of_register named ty ≡ None
  register-kept ty kept = by_test (keeps_as_part named (pair_part ty))
    where
      by_test : (b : Bool) → (if b then None else limit_among named (ty ∷ [])) ≡ None
      by_test true = refl
      by_test false = kept

  pair-kept : (ty : Ty) → IsKept ty → limit_of_register named (pair_of ty) ≡ None
  pair-kept ty kept =
      ap (λ (x : Option Ty). if keeps_as_part named x then None else limit_among named (pair_of ty ∷ [])) (pair-part ty)
      ∙ ap (λ (x : Option LimitKind). if is_none x then None else limit_among named (pair_of ty ∷ [])) kept

  -- the types of operands are written, integers or `ptr`
  abbrev AreKept : List (Ty × Val) → Type 0
  AreKept [] = Unit {0}
  AreKept (x ∷ xs) = IsKept x.0 × AreKept xs

  index-kept : (index : List (Width × Val)) → AreKept (map typed_index index)
  index-kept [] = tt
  index-kept (x ∷ xs) = (int-kept x.0, index-kept xs)

  args-kept : (args : List (Ty × Val)) → ((ty : Ty) → IsIn ty (flat_map types_in_arg args) → IsKept ty) → AreKept args
  args-kept [] all = tt
  args-kept (x ∷ xs) all = (all x.0 (0, refl), args-kept xs (λ ty h. all ty (next-in ty x.0 (types_in_val x.1 ++ flat_map types_in_arg xs) (in-behind ty (types_in_val x.1) (flat_map types_in_arg xs) h))))
    where
      in-behind : (ty : Ty) (xs ys : List Ty) → IsIn ty ys → IsIn ty (xs ++ ys)
      in-behind ty [] ys h = h
      in-behind ty (x ∷ xs) ys h = next-in ty x (xs ++ ys) (in-behind ty xs ys h)

  operands-kept : (inst : Inst) → is_phi inst ≡ false → ((ty : Ty) → IsIn ty (types_in_inst inst) → IsKept ty) → AreKept (typed_operands inst)
  operands-kept (insts.Bin dst op flags w a b) e l = (int-kept w, (int-kept w, tt))
  operands-kept (insts.Cmp dst pred ty a b) e l = (l ty (0, refl), (l ty (0, refl), tt))
  operands-kept (insts.Select dst cond ty a b) e l = (int-kept W1, (l ty (0, refl), (l ty (0, refl), tt)))
  operands-kept (insts.Cast dst op from a to) e l = (l from (0, refl), tt)
  operands-kept (insts.Gep dst base ptr index) e l = (ptr-kept, index-kept index)
  operands-kept (insts.Load dst ty ptr atomic) e l = (ptr-kept, tt)
  operands-kept (insts.Store ty val ptr atomic) e l = (l ty (0, refl), (ptr-kept, tt))
  operands-kept (insts.Rmw dst op ptr ty val) e l = (ptr-kept, (l ty (0, refl), tt))
  operands-kept (insts.CmpXchg dst ptr ty old new) e l = (ptr-kept, (l ty (0, refl), (l ty (0, refl), tt)))
  operands-kept (insts.Call dst ret callee args) e l = args-kept args (λ ty h. l ty (next-in ty ret (flat_map types_in_arg args) h))
  operands-kept (insts.CondBr cond on_true on_false) e l = (int-kept W1, tt)
  operands-kept (insts.Switch ty on default cases) e l = (l ty (0, refl), tt)
  operands-kept (insts.Ret ty None) e l = tt
  operands-kept (insts.Ret ty (Some val)) e l = (l ty (0, refl), tt)
  operands-kept (insts.Phi dst ty arms) e l = absurd cc
  operands-kept inst e l = tt

  of-kept : (x : Ty × Val) (xs : List (Ty × Val)) → AreKept xs → IsIn x xs → IsKept x.0
  of-kept x [] all (k, at) = absurd cc
  of-kept x (y ∷ ys) all (zero, at) = let same : y ≡ x = cc in subst (λ (z : Ty × Val). IsKept z.0) same all.0
  of-kept x (y ∷ ys) all (suc k, at) = of-kept x ys all.1 (k, at)

  -- so is the type of a result that is copied
  copied-kept : (inst : Inst) (reg : Ty × Loc) → ((ty : Ty) → IsIn ty (types_in_inst inst) → IsKept ty) → single_result inst ≡ Some reg → limit_of_register named reg.0 ≡ None
  copied-kept (insts.Alloca dst ty) reg l e = let same : (types.Ptr, dst) ≡ reg = cc in subst (λ (x : Ty × Loc). limit_of_register named x.0 ≡ None) same (register-kept types.Ptr ptr-kept)
  copied-kept (insts.Load dst ty ptr atomic) reg l e = let same : (ty, dst) ≡ reg = cc in subst (λ (x : Ty × Loc). limit_of_register named x.0 ≡ None) same (register-kept ty (l ty (0, refl)))
  copied-kept (insts.Rmw dst op ptr ty val) reg l e = let same : (ty, dst) ≡ reg = cc in subst (λ (x : Ty × Loc). limit_of_register named x.0 ≡ None) same (register-kept ty (l ty (0, refl)))
  copied-kept (insts.CmpXchg dst ptr ty old new) reg l e =
      let same : (pair_of ty, dst) ≡ reg = cc in subst (λ (x : Ty × Loc). limit_of_register named x.0 ≡ None) same (pair-kept ty (l ty (0, refl)))
  copied-kept (insts.Call (Some dst) ret callee args) reg l e = let same : (ret, dst) ≡ reg = cc in subst (λ (x : Ty × Loc). limit_of_register named x.0 ≡ None) same (register-kept ret (l ret (0, refl)))
  copied-kept (insts.Call None ret callee args) reg l e = cc
  copied-kept inst reg l e = cc

-- a shadow's operand writes the types that the operand does
shadow-types : (val : Val) → types_in_operand (on_shadow val) ≡ types_in_val val
shadow-types (values.Reg reg) = refl
shadow-types (values.Int n) = refl
shadow-types values.Null = refl
shadow-types (values.Global sym) = refl
shadow-types (values.Gep gep) = refl

-- in whatever order types are written
all-turned : (p : Ty → Bool) (xs ys : List Ty) → list_all p (xs ++ ys) ≡ list_all p (ys ++ xs)
all-turned p xs ys = list_all-append p xs ys ∙ by_tests (list_all p xs) (list_all p ys) ∙ sym (list_all-append p ys xs)
  where
    by_tests : (a b : Bool) → (a && b) ≡ (b && a)
    by_tests true true = refl
    by_tests true false = refl
    by_tests false true = refl
    by_tests false false = refl

turned-kept : (named : List (TypeId × Ty)) (ty : Ty) (xs ys : List Ty) → limit_among named (ty ∷ xs ++ ys) ≡ limit_among named (ty ∷ ys ++ xs)
turned-kept named ty xs ys =
    ap (λ (b : Bool). if not (not (is_too_large (limit_of named ty)) && b) then Some TypeSize else if not (not (is_too_deep (limit_of named ty)) && list_all (λ t. not (is_too_deep (limit_of named t))) (xs ++ ys)) then Some TypeDepth else None) (all-turned (λ t. not (is_too_large (limit_of named t))) xs ys)
    ∙ ap (λ (b : Bool). if not (not (is_too_large (limit_of named ty)) && list_all (λ t. not (is_too_large (limit_of named t))) (ys ++ xs)) then Some TypeSize else if not (not (is_too_deep (limit_of named ty)) && b) then Some TypeDepth else None) (all-turned (λ t. not (is_too_deep (limit_of named t))) xs ys)

types-unflagged : (inst : Inst) → types_in_inst (unflagged inst) ≡ types_in_inst inst
types-unflagged (insts.Bin dst op flags w a b) = refl
types-unflagged inst = refl

module _ (table : Table) (m : ModuleParts) (sound : Sound m) where
  limits-rule : HardLine → Bool
  limits-rule = limits_keep (hardened_by table m)

  limit-outer : (line : Line) → IsIn line (outer_lines m) → limit_in m.types line ≡ None
  limit-outer line h = by_part (of-append line (map TypeLine m.types ++ map GlobalLine m.globals) (map DeclareLine m.declares) h)
    where
      by_two : IsIn line (map TypeLine m.types) ⊎ IsIn line (map GlobalLine m.globals) → limit_in m.types line ≡ None
      by_two (inl h) = let x = of-map TypeLine line m.types h in subst (λ (l : Line). limit_in m.types l ≡ None) x.2 refl
      by_two (inr h) = let x = of-map GlobalLine line m.globals h in subst (λ (l : Line). limit_in m.types l ≡ None) x.2 refl

      by_part : IsIn line (map TypeLine m.types ++ map GlobalLine m.globals) ⊎ IsIn line (map DeclareLine m.declares) → limit_in m.types line ≡ None
      by_part (inl h) = by_two (of-append line (map TypeLine m.types) (map GlobalLine m.globals) h)
      by_part (inr h) = sound.code_limits line (in-front line (map DeclareLine m.declares) (funcs_lines 0 m.funcs) h)

  limit-part : (n b i : ℕ) (f : HardFunc) (inst : Inst) (item : HInst) → is_phi inst ≡ false → limit_among m.types (types_in_inst inst) ≡ None → IsPart inst item
      → limits_keep (hardened_by table m) (HInstLine n f b i item) ≡ true
  limit-part n b i f inst (Do side other retires) e l (same, retire) = ap is_none (ap (λ (x : Inst). limit_among m.types (types_in_inst x)) same ∙ ap (limit_among m.types) (types-unflagged inst) ∙ l)
  limit-part n b i f inst (Mov ty reg) e l part = ap is_none (copied-kept m.types inst (ty, reg) (λ t h. kept-in m.types t (types_in_inst inst) l h) part)
  limit-part n b i f inst (Chk when ty reg) e l part = ap is_none (register-kept m.types ty (of-kept m.types (ty, values.Reg reg) (typed_operands inst) (operands-kept m.types inst e (λ t h. kept-in m.types t (types_in_inst inst) l h)) part))
  limit-part n b i f inst (ChkMem ty ptr val) e l (p, v, of_ptr, of_val, store) =
      ap is_none
      (ap (λ (x : HVal). limit_among m.types (ty ∷ types_in_operand x ++ types_in_operand val)) of_ptr
      ∙ ap (λ (x : HVal). limit_among m.types (ty ∷ types_in_operand (on_shadow p) ++ types_in_operand x)) of_val
      ∙ ap (λ (x : List Ty). limit_among m.types (ty ∷ x ++ types_in_operand (on_shadow v))) (shadow-types p)
      ∙ ap (λ (x : List Ty). limit_among m.types (ty ∷ types_in_val p ++ x)) (shadow-types v)
      ∙ turned-kept m.types ty (types_in_val p) (types_in_val v) ∙ ap (λ (x : Inst). limit_among m.types (types_in_inst x)) (sym store) ∙ l)
  limit-part n b i f inst item e l part = refl

  limit-quiet : (n b i : ℕ) (f : HardFunc) (item : HInst) → is_quiet item ≡ true → limits_keep (hardened_by table m) (HInstLine n f b i item) ≡ true
  limit-quiet n b i f (Do side other retires) e = cc
  limit-quiet n b i f (Mov ty reg) e = cc
  limit-quiet n b i f (Chk when ty reg) e = cc
  limit-quiet n b i f (ChkMem ty ptr val) e = cc
  limit-quiet n b i f item e = refl

  limit-param : (n : ℕ) (f : FuncParts) (param : Ty × Loc) → slice_get m.funcs n ≡ Some f → IsIn param f.params → limit_of_register m.types param.0 ≡ None
  limit-param n f param at h = register-kept m.types param.0 (kept-in m.types param.0 (f.ret ∷ map (λ (p : Ty × Loc). p.0) f.params) (first _ _ (sound.code_limits (HeadLine n f) (head-line m n f at))) (next-in param.0 f.ret (map (λ (p : Ty × Loc). p.0) f.params) (in-map (λ (p : Ty × Loc). p.0) param f.params h)))
    where
      first : (x y : Option LimitKind) → option_or x y ≡ None → x ≡ None
      first None y e = refl
      first (Some z) y e = cc

  pub limits-each : EachKeeps table m (limits_keep (hardened_by table m))
  limits-each = record {
    outer = all-in (λ line. is_none (limit_in m.types line)) (outer_lines m) (λ line h. ap is_none (limit-outer line h));
    head = λ n f at. ap is_none (sound.code_limits (HeadLine n f) (head-line m n f at));
    block = λ n b f block at. refl;
    phi = λ n b i f block inst side at h e. ap is_none (sound.code_limits (InstLine n f b h.0 inst) (inst-line m n b f block inst at h));
    part = λ n b i f block inst item at h e part. limit-part n b i (hard_of table f) inst item e (sound.code_limits (InstLine n f b h.0 inst) (inst-line m n b f block inst at h)) part;
    param = λ n b i f block param at h. ap is_none (limit-param n f param at.0 h);
    quiet = λ n b i f item e. limit-quiet n b i (hard_of table f) item e;
  }
