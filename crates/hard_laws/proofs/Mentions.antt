-- Each name that a line of a hardened module mentions is known.
use Rattle.std.proofs.Common.{ℕ, zero, suc, ◌≡◌, ◌∙◌, ◌+◌, Bool, true, false, List, [], ◌∷◌, ◌++◌, map, slice_get, Some, None, refl, ap, sym, subst}
use Rattle.std.specs.List.{flat_map, list_all}
use Rattle.std.proofs.lemmas.List.Folds.{list_all-append, list_all-map}
use Rattle.ir_core.proofs.Lengths.{both_true}
use Rattle.ir_core.specs.declared.types.Ty.{Ty}
use Rattle.ir_core.specs.declared.types.Ty.TheVariants as types
use Rattle.ir_core.specs.declared.types.Loc.{Loc}
use Rattle.ir_core.specs.declared.types.Width.{Width}
use Rattle.ir_core.specs.declared.types.Width.TheVariants.{W1}
use Rattle.ir_core.specs.declared.values.Side.{Side}
use Rattle.ir_core.specs.declared.values.Side.TheVariants.{M, S}
use Rattle.ir_core.specs.declared.values.Val.{Val}
use Rattle.ir_core.specs.declared.values.Val.TheVariants as values
use Rattle.ir_core.specs.declared.instruction.Inst.{Inst}
use Rattle.ir_core.specs.declared.instruction.Inst.TheVariants as insts
use Rattle.ir_core.specs.declared.instruction.Block.{Block}
use Rattle.ir_core.specs.Module.{ModuleParts, FuncParts}
use Rattle.ir_numbering.specs.declared.places.Place.{Place}
use Rattle.ir_numbering.specs.declared.places.Place.TheVariants.{Local, Struct, Global}
use Rattle.ir_numbering.specs.Places.{places_of_ty, places_of_val, places_of_args, places_of_arms, places_of_cases, places_of_index, places_of_option, places_of_inst, places_of_head}
use Rattle.ir_lines.specs.Lines.{Line, HeadLine, InstLine, lines_of}
use Rattle.ir_lines.specs.declared.site.Named.{Named}
use Rattle.ir_lines.specs.declared.site.Named.TheVariants as names
use Rattle.ir_names.specs.Names.{is_defined, name_at, mentions_in}
use Rattle.ir_types.specs.Types.{typed_operands, typed_index}
use Rattle.ir_core.specs.Instructions.{is_phi}
use Rattle.hard_ir.specs.declared.instruction.HVal.{HVal}
use Rattle.hard_ir.specs.declared.instruction.HInst.{HInst}
use Rattle.hard_ir.specs.declared.instruction.HInst.TheVariants.{Chk, ChkMem, Mov, Do}
use Rattle.hard_ir.specs.Image.{Table, unflagged, single_result, pair_of, on_shadow}
use Rattle.hard_ir.specs.Hardened.{hardened_by}
use Rattle.hard_ir.specs.Fit.{HardFunc, HInstLine, SidedName, outer, label, register, sided, all_sided, mentions_on, mentions_of, names_in_arm, names_in_operand, outer_lines, is_known, names_keep}
use Rattle.ir_check.proofs.Members.{IsIn, all-in, in-map}
use Rattle.hard_laws.proofs.Images.{is_quiet, IsPart, IsTable}
use Rattle.hard_laws.proofs.Scalars.{int-places, ptr-places, pair-places}
use Rattle.hard_laws.proofs.HardLines.{EachKeeps, IsBlockOf, hard_of, both}
use Rattle.hard_laws.proofs.Accepted.{Sound, head-line, inst-line, of-code, outer-line}
use Rattle.hard_laws.proofs.Names.{all-other, master-known, shadow-known, plain-known}

mentions-unflagged : (n : ℕ) (side : Side) (inst : Inst) → mentions_on n side (unflagged inst) ≡ mentions_on n side inst
mentions-unflagged n side (insts.Bin dst op flags w a b) = refl
mentions-unflagged n side inst = refl

-- an operand on the shadow's side has the names of the operand
shadow-names : (n : ℕ) (val : Val) → names_in_operand n (on_shadow val) ≡ all_sided n S (places_of_val val)
shadow-names n (values.Reg reg) = refl
shadow-names n (values.Int k) = refl
shadow-names n values.Null = refl
shadow-names n (values.Global sym) = refl
shadow-names n (values.Gep gep) = refl

-- of two lists of which all pass
front : {A : Type 0} (p : A → Bool) (xs ys : List A) → list_all p (xs ++ ys) ≡ true → list_all p xs ≡ true
front p xs ys e = (both_true (list_all p xs) (list_all p ys) (sym (list_all-append p xs ys) ∙ e)).0

back : {A : Type 0} (p : A → Bool) (xs ys : List A) → list_all p (xs ++ ys) ≡ true → list_all p ys ≡ true
back p xs ys e = (both_true (list_all p xs) (list_all p ys) (sym (list_all-append p xs ys) ∙ e)).1

joined : {A : Type 0} (p : A → Bool) (xs ys : List A) → list_all p xs ≡ true → list_all p ys ≡ true → list_all p (xs ++ ys) ≡ true
joined p xs ys e f = list_all-append p xs ys ∙ both e f

first-of : {A : Type 0} (p : A → Bool) (x : A) (xs : List A) → list_all p (x ∷ xs) ≡ true → p x ≡ true
first-of p x xs e = (both_true (p x) (list_all p xs) e).0

rest-of : {A : Type 0} (p : A → Bool) (x : A) (xs : List A) → list_all p (x ∷ xs) ≡ true → list_all p xs ≡ true
rest-of p x xs e = (both_true (p x) (list_all p xs) e).1

-- ---- where the places of a line are defined, and what is defined is known

module _ (known : SidedName → Bool) (n : ℕ) (defined : Place → Bool) (at_side : (side : Side) (place : Place) → defined place ≡ true → known (sided n side place) ≡ true)
    (at_label : (at : Loc) → defined (Local at) ≡ true → known (label n at) ≡ true) where
  places-known : (side : Side) (places : List Place) → list_all defined places ≡ true → list_all known (all_sided n side places) ≡ true
  places-known side places e = list_all-map known (sided n side) places ∙ all-other defined (λ place. known (sided n side place)) places (λ place d. at_side side place d) e

  arms-known : (side : Side) (arms : List (Val × Loc)) → list_all defined (places_of_arms arms) ≡ true → list_all known (flat_map (names_in_arm n side) arms) ≡ true
  arms-known side [] e = refl
  arms-known side (arm ∷ arms) e =
      let own = front defined (places_of_val arm.0 ++ Local arm.1 ∷ []) (places_of_arms arms) e in
      let at = back defined (places_of_val arm.0) (Local arm.1 ∷ []) own in
      joined known (all_sided n side (places_of_val arm.0) ++ label n arm.1 ∷ []) (flat_map (names_in_arm n side) arms)
      (joined known (all_sided n side (places_of_val arm.0)) (label n arm.1 ∷ []) (places-known side (places_of_val arm.0) (front defined (places_of_val arm.0) (Local arm.1 ∷ []) own)) (both (at_label arm.1 (first-of defined (Local arm.1) [] at)) refl))
      (arms-known side arms (back defined (places_of_val arm.0 ++ Local arm.1 ∷ []) (places_of_arms arms) e))

  cases-known : (cases : List (ℕ × Loc)) → list_all defined (places_of_cases cases) ≡ true → list_all known (map (λ case. label n case.1) cases) ≡ true
  cases-known [] e = refl
  cases-known (x ∷ xs) e = both (at_label x.1 (first-of defined (Local x.1) (places_of_cases xs) e)) (cases-known xs (rest-of defined (Local x.1) (places_of_cases xs) e))

  inst-known : (side : Side) (inst : Inst) → list_all defined (places_of_inst inst) ≡ true → list_all known (mentions_on n side inst) ≡ true
  inst-known side (insts.Phi dst ty arms) e =
      let rest = rest-of defined (Local dst) (places_of_ty ty ++ places_of_arms arms) e in
      both (at_side side (Local dst) (first-of defined (Local dst) (places_of_ty ty ++ places_of_arms arms) e))
      (joined known (all_sided n side (places_of_ty ty)) (flat_map (names_in_arm n side) arms) (places-known side (places_of_ty ty) (front defined (places_of_ty ty) (places_of_arms arms) rest)) (arms-known side arms (back defined (places_of_ty ty) (places_of_arms arms) rest)))
  inst-known side (insts.Br to) e = both (at_label to (first-of defined (Local to) [] e)) refl
  inst-known side (insts.CondBr cond on_true on_false) e =
      let one = front defined (places_of_val cond ++ Local on_true ∷ []) (Local on_false ∷ []) e in
      joined known (all_sided n side (places_of_val cond)) (label n on_true ∷ label n on_false ∷ [])
      (places-known side (places_of_val cond) (front defined (places_of_val cond) (Local on_true ∷ []) one))
      (both (at_label on_true (first-of defined (Local on_true) [] (back defined (places_of_val cond) (Local on_true ∷ []) one)))
      (both (at_label on_false (first-of defined (Local on_false) [] (back defined (places_of_val cond ++ Local on_true ∷ []) (Local on_false ∷ []) e))) refl))
  inst-known side (insts.Switch ty on default cases) e =
      let head : List Place = places_of_ty ty ++ places_of_val on in
      let two = front defined (head ++ Local default ∷ []) (places_of_cases cases) e in
      joined known (all_sided n side head) (label n default ∷ map (λ case. label n case.1) cases)
      (places-known side head (front defined head (Local default ∷ []) two))
      (both (at_label default (first-of defined (Local default) [] (back defined head (Local default ∷ []) two))) (cases-known cases (back defined (head ++ Local default ∷ []) (places_of_cases cases) e)))
  inst-known side inst e = places-known side (places_of_inst inst) e

  -- ---- the types and registers that are copied or checked

  abbrev TypeDefined : Ty → Type 0
  TypeDefined ty = list_all defined (places_of_ty ty) ≡ true

  int-defined : (w : Width) → TypeDefined (types.Int w)
  int-defined w = ap (list_all defined) (int-places w)

  ptr-defined : TypeDefined types.Ptr
  ptr-defined = ap (list_all defined) ptr-places

  abbrev RegDefined : Ty × Loc → Type 0
  RegDefined reg = TypeDefined reg.0 × (defined (Local reg.1) ≡ true)

  pair-known : (own : Side) (reg : Ty × Loc) (a b : Side) → RegDefined reg → list_all known (all_sided n own (places_of_ty reg.0) ++ register n a reg.1 ∷ register n b reg.1 ∷ []) ≡ true
  pair-known own reg a b (ty, at) =
      joined known (all_sided n own (places_of_ty reg.0)) (register n a reg.1 ∷ register n b reg.1 ∷ []) (places-known own (places_of_ty reg.0) ty) (both (at_side a (Local reg.1) at) (both (at_side b (Local reg.1) at) refl))

  result-defined : (inst : Inst) (reg : Ty × Loc) → list_all defined (places_of_inst inst) ≡ true → single_result inst ≡ Some reg → RegDefined reg
  result-defined (insts.Alloca dst ty) reg e s = let same : (types.Ptr, dst) ≡ reg = cc in subst RegDefined same (ptr-defined, first-of defined (Local dst) (places_of_ty ty) e)
  result-defined (insts.Load dst ty ptr atomic) reg e s =
      let same : (ty, dst) ≡ reg = cc in
      let rest = rest-of defined (Local dst) (places_of_ty ty ++ places_of_val ptr) e in
      subst RegDefined same (front defined (places_of_ty ty) (places_of_val ptr) rest, first-of defined (Local dst) (places_of_ty ty ++ places_of_val ptr) e)
  result-defined (insts.Rmw dst op ptr ty val) reg e s =
      let same : (ty, dst) ≡ reg = cc in
      let behind : List Place = (places_of_val ptr ++ places_of_ty ty) ++ places_of_val val in
      let rest = front defined (places_of_val ptr ++ places_of_ty ty) (places_of_val val) (rest-of defined (Local dst) behind e) in
      subst RegDefined same (back defined (places_of_val ptr) (places_of_ty ty) rest, first-of defined (Local dst) behind e)
  result-defined (insts.CmpXchg dst ptr ty old new) reg e s =
      let same : (pair_of ty, dst) ≡ reg = cc in
      let behind : List Place = ((places_of_val ptr ++ places_of_ty ty) ++ places_of_val old) ++ places_of_val new in
      let rest = front defined (places_of_val ptr ++ places_of_ty ty) (places_of_val old) (front defined ((places_of_val ptr ++ places_of_ty ty) ++ places_of_val old) (places_of_val new) (rest-of defined (Local dst) behind e)) in
      subst RegDefined same (ap (list_all defined) (pair-places ty) ∙ back defined (places_of_val ptr) (places_of_ty ty) rest, first-of defined (Local dst) behind e)
  result-defined (insts.Call (Some dst) ret callee args) reg e s =
      let same : (ret, dst) ≡ reg = cc in
      let three = front defined (((Local dst ∷ []) ++ places_of_ty ret) ++ Global callee ∷ []) (places_of_args args) e in
      let two = front defined ((Local dst ∷ []) ++ places_of_ty ret) (Global callee ∷ []) three in
      subst RegDefined same (back defined (Local dst ∷ []) (places_of_ty ret) two, first-of defined (Local dst) [] (front defined (Local dst ∷ []) (places_of_ty ret) two))
  result-defined (insts.Call None ret callee args) reg e s = cc
  result-defined inst reg e s = cc

  -- an operand: where it is a register, its type is defined, and the register
  abbrev OperandDefined : Ty × Val → Type 0
  OperandDefined (ty, values.Reg reg) = RegDefined (ty, reg)
  OperandDefined (ty, val) = Unit {0}

  operand : (ty : Ty) (val : Val) → TypeDefined ty → list_all defined (places_of_val val) ≡ true → OperandDefined (ty, val)
  operand ty (values.Reg reg) t v = (t, first-of defined (Local reg) [] v)
  operand ty val t v = tt

  abbrev AreDefined : List (Ty × Val) → Type 0
  AreDefined [] = Unit {0}
  AreDefined (x ∷ xs) = OperandDefined x × AreDefined xs

  of-defined : (x : Ty × Val) (xs : List (Ty × Val)) → AreDefined xs → IsIn x xs → OperandDefined x
  of-defined x [] all (k, at) = absurd cc
  of-defined x (y ∷ ys) all (zero, at) = let same : y ≡ x = cc in subst OperandDefined same all.0
  of-defined x (y ∷ ys) all (suc k, at) = of-defined x ys all.1 (k, at)

  index-defined : (index : List (Width × Val)) → list_all defined (places_of_index index) ≡ true → AreDefined (map typed_index index)
  index-defined [] e = tt
  index-defined (x ∷ xs) e =
      (operand (types.Int x.0) x.1 (int-defined x.0) (front defined (places_of_val x.1) (places_of_index xs) e), index-defined xs (back defined (places_of_val x.1) (places_of_index xs) e))

  args-defined : (args : List (Ty × Val)) → list_all defined (places_of_args args) ≡ true → AreDefined args
  args-defined [] e = tt
  args-defined (x ∷ xs) e =
      let own = front defined (places_of_ty x.0 ++ places_of_val x.1) (places_of_args xs) e in
      (operand x.0 x.1 (front defined (places_of_ty x.0) (places_of_val x.1) own) (back defined (places_of_ty x.0) (places_of_val x.1) own), args-defined xs (back defined (places_of_ty x.0 ++ places_of_val x.1) (places_of_args xs) e))

  operands-defined : (inst : Inst) → is_phi inst ≡ false → list_all defined (places_of_inst inst) ≡ true → AreDefined (typed_operands inst)
  operands-defined (insts.Bin dst op flags w a b) p e =
      let rest = rest-of defined (Local dst) (places_of_val a ++ places_of_val b) e in
      (operand (types.Int w) a (int-defined w) (front defined (places_of_val a) (places_of_val b) rest), (operand (types.Int w) b (int-defined w) (back defined (places_of_val a) (places_of_val b) rest), tt))
  operands-defined (insts.Cmp dst pred ty a b) p e =
      let rest = rest-of defined (Local dst) ((places_of_ty ty ++ places_of_val a) ++ places_of_val b) e in
      let two = front defined (places_of_ty ty ++ places_of_val a) (places_of_val b) rest in
      let t = front defined (places_of_ty ty) (places_of_val a) two in
      (operand ty a t (back defined (places_of_ty ty) (places_of_val a) two), (operand ty b t (back defined (places_of_ty ty ++ places_of_val a) (places_of_val b) rest), tt))
  operands-defined (insts.Select dst cond ty a b) p e =
      let rest = rest-of defined (Local dst) (((places_of_val cond ++ places_of_ty ty) ++ places_of_val a) ++ places_of_val b) e in
      let three = front defined ((places_of_val cond ++ places_of_ty ty) ++ places_of_val a) (places_of_val b) rest in
      let two = front defined (places_of_val cond ++ places_of_ty ty) (places_of_val a) three in
      let t = back defined (places_of_val cond) (places_of_ty ty) two in
      (operand (types.Int W1) cond (int-defined W1) (front defined (places_of_val cond) (places_of_ty ty) two), (operand ty a t (back defined (places_of_val cond ++ places_of_ty ty) (places_of_val a) three), (operand ty b t (back defined ((places_of_val cond ++ places_of_ty ty) ++ places_of_val a) (places_of_val b) rest), tt)))
  operands-defined (insts.Cast dst op from a to) p e =
      let rest = rest-of defined (Local dst) ((places_of_ty from ++ places_of_val a) ++ places_of_ty to) e in
      let two = front defined (places_of_ty from ++ places_of_val a) (places_of_ty to) rest in
      (operand from a (front defined (places_of_ty from) (places_of_val a) two) (back defined (places_of_ty from) (places_of_val a) two), tt)
  operands-defined (insts.Gep dst base ptr index) p e =
      let rest = rest-of defined (Local dst) ((places_of_ty base ++ places_of_val ptr) ++ places_of_index index) e in
      let two = front defined (places_of_ty base ++ places_of_val ptr) (places_of_index index) rest in
      (operand types.Ptr ptr ptr-defined (back defined (places_of_ty base) (places_of_val ptr) two), index-defined index (back defined (places_of_ty base ++ places_of_val ptr) (places_of_index index) rest))
  operands-defined (insts.Load dst ty ptr atomic) p e =
      let rest = rest-of defined (Local dst) (places_of_ty ty ++ places_of_val ptr) e in
      (operand types.Ptr ptr ptr-defined (back defined (places_of_ty ty) (places_of_val ptr) rest), tt)
  operands-defined (insts.Store ty val ptr atomic) p e =
      let two = front defined (places_of_ty ty ++ places_of_val val) (places_of_val ptr) e in
      (operand ty val (front defined (places_of_ty ty) (places_of_val val) two) (back defined (places_of_ty ty) (places_of_val val) two), (operand types.Ptr ptr ptr-defined (back defined (places_of_ty ty ++ places_of_val val) (places_of_val ptr) e), tt))
  operands-defined (insts.Rmw dst op ptr ty val) p e =
      let rest = rest-of defined (Local dst) ((places_of_val ptr ++ places_of_ty ty) ++ places_of_val val) e in
      let two = front defined (places_of_val ptr ++ places_of_ty ty) (places_of_val val) rest in
      (operand types.Ptr ptr ptr-defined (front defined (places_of_val ptr) (places_of_ty ty) two), (operand ty val (back defined (places_of_val ptr) (places_of_ty ty) two) (back defined (places_of_val ptr ++ places_of_ty ty) (places_of_val val) rest), tt))
  operands-defined (insts.CmpXchg dst ptr ty old new) p e =
      let rest = rest-of defined (Local dst) (((places_of_val ptr ++ places_of_ty ty) ++ places_of_val old) ++ places_of_val new) e in
      let three = front defined ((places_of_val ptr ++ places_of_ty ty) ++ places_of_val old) (places_of_val new) rest in
      let two = front defined (places_of_val ptr ++ places_of_ty ty) (places_of_val old) three in
      let t = back defined (places_of_val ptr) (places_of_ty ty) two in
      (operand types.Ptr ptr ptr-defined (front defined (places_of_val ptr) (places_of_ty ty) two), (operand ty old t (back defined (places_of_val ptr ++ places_of_ty ty) (places_of_val old) three), (operand ty new t (back defined ((places_of_val ptr ++ places_of_ty ty) ++ places_of_val old) (places_of_val new) rest), tt)))
  operands-defined (insts.Call dst ret callee args) p e =
      args-defined args (back defined ((places_of_option (λ at. Local at ∷ []) dst ++ places_of_ty ret) ++ Global callee ∷ []) (places_of_args args) e)
  operands-defined (insts.CondBr cond on_true on_false) p e =
      (operand (types.Int W1) cond (int-defined W1) (front defined (places_of_val cond) (Local on_true ∷ []) (front defined (places_of_val cond ++ Local on_true ∷ []) (Local on_false ∷ []) e)), tt)
  operands-defined (insts.Switch ty on default cases) p e =
      let head = front defined (places_of_ty ty ++ places_of_val on) (Local default ∷ []) (front defined ((places_of_ty ty ++ places_of_val on) ++ Local default ∷ []) (places_of_cases cases) e) in
      (operand ty on (front defined (places_of_ty ty) (places_of_val on) head) (back defined (places_of_ty ty) (places_of_val on) head), tt)
  operands-defined (insts.Ret ty None) p e = tt
  operands-defined (insts.Ret ty (Some val)) p e = (operand ty val (front defined (places_of_ty ty) (places_of_val val) e) (back defined (places_of_ty ty) (places_of_val val) e), tt)
  operands-defined (insts.Phi dst ty arms) p e = absurd cc
  operands-defined inst p e = tt

  part-known : (inst : Inst) (item : HInst) → is_phi inst ≡ false → list_all defined (places_of_inst inst) ≡ true → IsPart inst item → list_all known (mentions_of n item) ≡ true
  part-known inst (Do side other retires) p e (same, retire) = ap (λ (x : Inst). list_all known (mentions_on n side x)) same ∙ ap (list_all known) (mentions-unflagged n side inst) ∙ inst-known side inst e
  part-known inst (Mov ty reg) p e part = pair-known S (ty, reg) S M (result-defined inst (ty, reg) e part)
  part-known inst (Chk when ty reg) p e part = pair-known M (ty, reg) M S (of-defined (ty, values.Reg reg) (typed_operands inst) (operands-defined inst p e) part)
  part-known inst (ChkMem ty ptr val) p e (at, v, of_ptr, of_val, store) =
      let all : list_all defined ((places_of_ty ty ++ places_of_val v) ++ places_of_val at) ≡ true = ap (λ (x : Inst). list_all defined (places_of_inst x)) (sym store) ∙ e in
      let typed = front defined (places_of_ty ty ++ places_of_val v) (places_of_val at) all in
      let types = places-known S (places_of_ty ty) (front defined (places_of_ty ty) (places_of_val v) typed) in
      let pointer = places-known S (places_of_val at) (back defined (places_of_ty ty ++ places_of_val v) (places_of_val at) all) in
      let word = places-known S (places_of_val v) (back defined (places_of_ty ty) (places_of_val v) typed) in
      joined known (all_sided n S (places_of_ty ty) ++ names_in_operand n ptr) (names_in_operand n val)
      (joined known (all_sided n S (places_of_ty ty)) (names_in_operand n ptr) types (ap (λ (x : HVal). list_all known (names_in_operand n x)) of_ptr ∙ ap (list_all known) (shadow-names n at) ∙ pointer))
      (ap (λ (x : HVal). list_all known (names_in_operand n x)) of_val ∙ ap (list_all known) (shadow-names n v) ∙ word)
  part-known inst item p e part = refl

-- ---- the lines of a module

module _ (table : Table) (is : IsTable table) (m : ModuleParts) (sound : Sound m) where
  abbrev defined_place : ℕ → Place → Bool
  defined_place n place = is_defined m (name_at n place)

  side-known : (n b : ℕ) (f : FuncParts) (block : Block) → IsBlockOf m n f b block → (side : Side) (place : Place) → defined_place n place ≡ true → is_known (hardened_by table m) (sided n side place) ≡ true
  side-known n b f block at M (Local reg) e = master-known table is m sound (names.Loc n reg) e
  side-known n b f block at S (Local reg) e = shadow-known table is m sound n b f block reg at e
  side-known n b f block at side (Struct id) e = plain-known table is m sound (names.Type id) e
  side-known n b f block at side (Global sym) e = plain-known table is m sound (names.Sym sym) e

  label-known : (n : ℕ) (at : Loc) → defined_place n (Local at) ≡ true → is_known (hardened_by table m) (label n at) ≡ true
  label-known n at e = plain-known table is m sound (names.Loc n at) e

  outer-known : (name : Named) → is_defined m name ≡ true → is_known (hardened_by table m) (outer name) ≡ true
  outer-known (names.Loc n at) e = master-known table is m sound (names.Loc n at) e
  outer-known (names.Type id) e = plain-known table is m sound (names.Type id) e
  outer-known (names.Sym sym) e = plain-known table is m sound (names.Sym sym) e

  outers-known : (line : Line) → IsIn line (lines_of m) → list_all (is_known (hardened_by table m)) (map outer (mentions_in line)) ≡ true
  outers-known line h =
      list_all-map (is_known (hardened_by table m)) outer (mentions_in line)
      ∙ all-in (λ name. is_known (hardened_by table m) (outer name)) (mentions_in line) (λ name at. outer-known name (sound.known line name h at))

  inst-defined : (n b : ℕ) (f : FuncParts) (block : Block) (inst : Inst) → IsBlockOf m n f b block → IsIn inst block.insts → list_all (defined_place n) (places_of_inst inst) ≡ true
  inst-defined n b f block inst at h =
      all-in (defined_place n) (places_of_inst inst) (λ place p. sound.known (InstLine n f b h.0 inst) (name_at n place) (of-code m (InstLine n f b h.0 inst) (inst-line m n b f block inst at h)) (in-map (name_at n) place (places_of_inst inst) p))

  head-defined : (n : ℕ) (f : FuncParts) → slice_get m.funcs n ≡ Some f → list_all (defined_place n) (places_of_head f) ≡ true
  head-defined n f at = all-in (defined_place n) (places_of_head f) (λ place p. sound.known (HeadLine n f) (name_at n place) (of-code m (HeadLine n f) (head-line m n f at)) (in-map (name_at n) place (places_of_head f) p))

  param-defined : (n : ℕ) (params : List (Ty × Loc)) (param : Ty × Loc) → list_all (defined_place n) (flat_map (λ (p : Ty × Loc). places_of_ty p.0 ++ Local p.1 ∷ []) params) ≡ true → IsIn param params
      → list_all (defined_place n) (places_of_ty param.0 ++ Local param.1 ∷ []) ≡ true
  param-defined n [] param e (k, at) = absurd cc
  param-defined n (x ∷ xs) param e (zero, at) =
      let same : x ≡ param = cc in
      subst (λ (p : Ty × Loc). list_all (defined_place n) (places_of_ty p.0 ++ Local p.1 ∷ []) ≡ true) same (front (defined_place n) (places_of_ty x.0 ++ Local x.1 ∷ []) (flat_map (λ (p : Ty × Loc). places_of_ty p.0 ++ Local p.1 ∷ []) xs) e)
  param-defined n (x ∷ xs) param e (suc k, at) = param-defined n xs param (back (defined_place n) (places_of_ty x.0 ++ Local x.1 ∷ []) (flat_map (λ (p : Ty × Loc). places_of_ty p.0 ++ Local p.1 ∷ []) xs) e) (k, at)

  copy-known : (n b : ℕ) (f : FuncParts) (block : Block) (param : Ty × Loc) → IsBlockOf m n f b block → IsIn param f.params → list_all (is_known (hardened_by table m)) (mentions_of n (Mov param.0 param.1)) ≡ true
  copy-known n b f block param at h =
      let own = param-defined n f.params param (back (defined_place n) (places_of_ty f.ret ++ Global f.sym ∷ []) (flat_map (λ (p : Ty × Loc). places_of_ty p.0 ++ Local p.1 ∷ []) f.params) (head-defined n f at.0)) h in
      pair-known (is_known (hardened_by table m)) n (defined_place n) (side-known n b f block at) (label-known n) S param S M
      (front (defined_place n) (places_of_ty param.0) (Local param.1 ∷ []) own, first-of (defined_place n) (Local param.1) [] (back (defined_place n) (places_of_ty param.0) (Local param.1 ∷ []) own))

  quiet-known : (n b i : ℕ) (f : HardFunc) (item : HInst) → is_quiet item ≡ true → names_keep (hardened_by table m) (HInstLine n f b i item) ≡ true
  quiet-known n b i f (Do side other retires) e = cc
  quiet-known n b i f (Mov ty reg) e = cc
  quiet-known n b i f (Chk when ty reg) e = cc
  quiet-known n b i f (ChkMem ty ptr val) e = cc
  quiet-known n b i f item e = refl

  pub names-each : EachKeeps table m (names_keep (hardened_by table m))
  names-each = record {
    outer = all-in (λ line. list_all (is_known (hardened_by table m)) (map outer (mentions_in line))) (outer_lines m) (λ line h. outers-known line (outer-line m line h));
    head = λ n f at. outers-known (HeadLine n f) (of-code m (HeadLine n f) (head-line m n f at));
    block = λ n b f block at. refl;
    phi = λ n b i f block inst side at h e. inst-known (is_known (hardened_by table m)) n (defined_place n) (side-known n b f block at) (label-known n) side inst (inst-defined n b f block inst at h);
    part = λ n b i f block inst item at h e part. part-known (is_known (hardened_by table m)) n (defined_place n) (side-known n b f block at) (label-known n) inst item e (inst-defined n b f block inst at h) part;
    param = λ n b i f block param at h. copy-known n b f block param at h;
    quiet = λ n b i f item e. quiet-known n b i (hard_of table f) item e;
  }
