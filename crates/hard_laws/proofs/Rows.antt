-- The tables keep what is asked of images, row by row.
use Rattle.std.proofs.Common.{◌≡◌, ◌∙◌, Bool, true, false, ◌||◌, not, List, [], ◌∷◌, ◌++◌, map, Option, Some, None, refl, ap, sym, subst, ℕ, append-nil, append_assoc}
use Rattle.std.specs.Prelude.{nat_eq, if◌then◌else◌}
use Rattle.std.proofs.lemmas.List.Folds.{list_all-append, list_any-append}
use Rattle.std.proofs.lemmas.List.Elements.{filter_map-append}
use Rattle.ir_core.proofs.Lengths.{both_true}
use Rattle.std.specs.List.{flat_map, filter_map, cons_option, list_all, list_any}
use Rattle.std.specs.Option.{option_map}
use Rattle.ir_core.specs.declared.types.Ty.{Ty}
use Rattle.ir_core.specs.declared.types.Loc.{Loc}
use Rattle.ir_core.specs.declared.values.Val.{Val}
use Rattle.ir_core.specs.declared.values.Val.TheVariants as values
use Rattle.ir_core.specs.declared.values.Side.{Side}
use Rattle.ir_core.specs.declared.values.Side.TheVariants.{M, S}
use Rattle.ir_core.specs.declared.instruction.Inst.{Inst}
use Rattle.ir_core.specs.declared.instruction.Inst.TheVariants as insts
use Rattle.ir_core.specs.Instructions.{result_of}
use Rattle.ir_types.specs.Firsts.{first_of}
use Rattle.ir_types.specs.Meanings.{Meaning, result_of as meaning_of_result}
use Rattle.ir_types.specs.Types.{typed_operands}
use Rattle.ir_check.specs.Blocks.{is_terminator}
use Rattle.ir_core.specs.Instructions.{is_phi}
use Rattle.hard_ir.specs.declared.instruction.HInst.{HInst}
use Rattle.hard_ir.specs.declared.instruction.HInst.TheVariants.{Chk, ChkMem, Mov, Do}
use Rattle.ir_core.specs.Module.{ModuleParts}
use Rattle.ir_calls.specs.Calls.{external_named}
use Rattle.hard_ir.specs.declared.instruction.When.{When}
use Rattle.hard_ir.specs.Image.{unflagged, is_doubled, single_result, copy_of, copies, done_by, flow, checked, check, with_checks, flow_table, check_table, checked_before, checked_when, check_when, checks_before, core, checks_after, relaxed, relax_table, CallKind, Inner, Outer, OfLock, kind_of, ends_for, begins_for, ends_before, begins_after, body_of, placed, cut_point, place_table, leaves, tick_if, tick_before, row, split_table}
use Rattle.hard_ir.specs.Fit.{plain_inst, meaning_in, must_retire}
use Rattle.ir_check.proofs.Members.{IsIn, next-in}
use Rattle.hard_laws.proofs.Images.{is_quiet, is_silent, IsPart, AreParts, assigned_on, EndsAs, IsImage, IsTable}

-- ---- silent items before an image

module _ (inst : Inst) where
  parts-append : (xs ys : List HInst) → AreParts inst xs → AreParts inst ys → AreParts inst (xs ++ ys)
  parts-append [] ys p q = q
  parts-append (x ∷ xs) ys p q = (p.0, parts-append xs ys p.1 q)

silent-rest : (x : HInst) (xs : List HInst) → list_all is_silent (x ∷ xs) ≡ true → (is_silent x ≡ true) × (list_all is_silent xs ≡ true)
silent-rest x xs e = both_true (is_silent x) (list_all is_silent xs) e

silent-assigns : (side : Side) (xs : List HInst) → list_all is_silent xs ≡ true → filter_map (assigned_on side) xs ≡ []
silent-assigns side [] e = refl
silent-assigns side (x ∷ xs) e = by_item side x (silent-rest x xs e).0 (silent-assigns side xs (silent-rest x xs e).1)
  where
    by_item : (side : Side) (x : HInst) → is_silent x ≡ true → filter_map (assigned_on side) xs ≡ [] → filter_map (assigned_on side) (x ∷ xs) ≡ []
    by_item side (Do own inst retires) e rest = cc
    by_item side (Mov ty reg) e rest = cc
    by_item M x e rest = rest
    by_item S x e rest = rest

silent-means : (xs : List HInst) → list_all is_silent xs ≡ true → filter_map meaning_in xs ≡ []
silent-means [] e = refl
silent-means (x ∷ xs) e = by_item x (silent-rest x xs e).0 (silent-means xs (silent-rest x xs e).1)
  where
    by_item : (x : HInst) → is_silent x ≡ true → filter_map meaning_in xs ≡ [] → filter_map meaning_in (x ∷ xs) ≡ []
    by_item (Do own inst retires) e rest = cc
    by_item (Mov ty reg) e rest = cc
    by_item x e rest = rest

silent-ends : (xs : List HInst) → list_all is_silent xs ≡ true → list_any (λ item. is_terminator (plain_inst item)) xs ≡ false
silent-ends [] e = refl
silent-ends (x ∷ xs) e = by_item x (silent-rest x xs e).0 (silent-ends xs (silent-rest x xs e).1)
  where
    by_item : (x : HInst) → is_silent x ≡ true → list_any (λ item. is_terminator (plain_inst item)) xs ≡ false → list_any (λ item. is_terminator (plain_inst item)) (x ∷ xs) ≡ false
    by_item (Do own inst retires) e rest = cc
    by_item (Mov ty reg) e rest = cc
    by_item x e rest = rest

front-ends : (inst : Inst) (front items : List HInst) (b : Bool) → list_any (λ item. is_terminator (plain_inst item)) front ≡ false → EndsAs b inst items → EndsAs b inst (front ++ items)
front-ends inst front items false none ends =
    list_any-append (λ item. is_terminator (plain_inst item)) front items ∙ ap (λ (x : Bool). x || list_any (λ item. is_terminator (plain_inst item)) items) none ∙ ends
front-ends inst front items true none (before, is, free) = (
  front ++ before,
  ap (λ (rest : List HInst). front ++ rest) is ∙ sym (append_assoc front before (Do M inst true ∷ [])),
  list_any-append (λ item. is_terminator (plain_inst item)) front before ∙ ap (λ (x : Bool). x || list_any (λ item. is_terminator (plain_inst item)) before) none ∙ free,
)

-- silent items that are parts may stand before an image
pub behind-front : (inst : Inst) (front items : List HInst) → list_all is_silent front ≡ true → AreParts inst front → IsImage inst items → IsImage inst (front ++ items)
behind-front inst front items silent parts image = record {
  parts = parts-append inst front items parts image.parts;
  assigns = λ side. filter_map-append (assigned_on side) front items ∙ ap (λ (xs : List Loc). xs ++ filter_map (assigned_on side) items) (silent-assigns side front silent) ∙ image.assigns side;
  first = λ at. ap (λ (xs : List (Loc × Meaning)). first_of xs at) (filter_map-append meaning_in front items)
      ∙ ap (λ (xs : List (Loc × Meaning)). first_of (xs ++ filter_map meaning_in items) at) (silent-means front silent) ∙ image.first at;
  ends = front-ends inst front items (is_terminator inst) (silent-ends front silent) image.ends;
}

-- ---- masters, shadows and copies

single-unflagged : (inst : Inst) → single_result (unflagged inst) ≡ single_result inst
single-unflagged (insts.Bin dst op flags w a b) = refl
single-unflagged inst = refl

doubled-free : (inst : Inst) → is_doubled inst ≡ true → must_retire inst ≡ false
doubled-free (insts.Br to) e = cc
doubled-free (insts.CondBr cond on_true on_false) e = cc
doubled-free (insts.Switch ty on default cases) e = cc
doubled-free (insts.Call dst ret callee args) e = cc
doubled-free (insts.Ret ty val) e = cc
doubled-free inst e = refl

copies-parts : (inst : Inst) (o : Option (Ty × Loc)) → single_result inst ≡ o → AreParts inst (copies o)
copies-parts inst None e = tt
copies-parts inst (Some reg) e = (e, tt)

done-parts : (inst : Inst) (b : Bool) → (b ≡ true → must_retire inst ≡ false) → AreParts inst (done_by b (unflagged inst))
done-parts inst true free = ((refl, ap not (free refl)), ((refl, refl), tt))
done-parts inst false free = ((refl, refl), copies-parts inst (single_result (unflagged inst)) (sym (single-unflagged inst)))

flow-parts : (inst : Inst) → is_phi inst ≡ false → AreParts inst (flow inst)
flow-parts (insts.Phi dst ty arms) e = absurd cc
flow-parts inst e = done-parts inst (is_doubled inst) (doubled-free inst)

flow-assigns : (inst : Inst) (side : Side) → is_phi inst ≡ false → filter_map (assigned_on side) (flow inst) ≡ cons_option (result_of inst) []
flow-assigns (insts.Phi dst ty arms) side e = cc
flow-assigns (insts.Call None ret callee args) M e = refl
flow-assigns (insts.Call None ret callee args) S e = refl
flow-assigns (insts.Call (Some dst) ret callee args) M e = refl
flow-assigns (insts.Call (Some dst) ret callee args) S e = refl
flow-assigns inst M e = refl
flow-assigns inst S e = refl

-- of two entries of one name the first counts
first-twice : (reg at : Loc) (a b : Meaning) → first_of ((reg, a) ∷ (reg, b) ∷ []) at ≡ first_of ((reg, a) ∷ []) at
first-twice reg at a b = by_test (nat_eq reg.0 at.0)
  where
    by_test : (t : Bool) → option_map (λ (e : Loc × Meaning). e.1) (if t then Some (reg, a) else if t then Some (reg, b) else None) ≡ option_map (λ (e : Loc × Meaning). e.1) (if t then Some (reg, a) else None)
    by_test true = refl
    by_test false = refl

flow-first : (inst : Inst) (at : Loc) → is_phi inst ≡ false → first_of (filter_map meaning_in (flow inst)) at ≡ first_of (cons_option (meaning_of_result inst) []) at
flow-first (insts.Phi dst ty arms) at e = cc
flow-first (insts.Call None ret callee args) at e = refl
flow-first (insts.Call (Some dst) ret callee args) at e = first-twice dst at _ _
flow-first (insts.Bin dst op flags w a b) at e = first-twice dst at _ _
flow-first (insts.Cmp dst pred ty a b) at e = first-twice dst at _ _
flow-first (insts.Select dst cond ty a b) at e = first-twice dst at _ _
flow-first (insts.Cast dst op from a to) at e = first-twice dst at _ _
flow-first (insts.Gep dst base ptr index) at e = first-twice dst at _ _
flow-first (insts.Extract dst elem pair index) at e = first-twice dst at _ _
flow-first (insts.Alloca dst ty) at e = first-twice dst at _ _
flow-first (insts.Load dst ty ptr atomic) at e = first-twice dst at _ _
flow-first (insts.Rmw dst op ptr ty val) at e = first-twice dst at _ _
flow-first (insts.CmpXchg dst ptr ty old new) at e = first-twice dst at _ _
flow-first inst at e = refl

flow-ends : (inst : Inst) → is_phi inst ≡ false → EndsAs (is_terminator inst) inst (flow inst)
flow-ends (insts.Phi dst ty arms) e = cc
flow-ends (insts.Call None ret callee args) e = refl
flow-ends (insts.Call (Some dst) ret callee args) e = refl
flow-ends (insts.Br to) e = ([], refl, refl)
flow-ends (insts.CondBr cond on_true on_false) e = ([], refl, refl)
flow-ends (insts.Switch ty on default cases) e = ([], refl, refl)
flow-ends (insts.Ret ty val) e = ([], refl, refl)
flow-ends insts.Unreachable e = ([], refl, refl)
flow-ends inst e = refl

flow-image : (inst : Inst) → is_phi inst ≡ false → IsImage inst (flow inst)
flow-image inst e = record { parts = flow-parts inst e; assigns = λ side. flow-assigns inst side e; first = λ at. flow-first inst at e; ends = flow-ends inst e }

phi-apart : (inst : Inst) → is_phi inst ≡ true → flow inst ≡ []
phi-apart (insts.Phi dst ty arms) e = refl
phi-apart inst e = absurd cc

pub flow-is-table : IsTable flow_table
flow-is-table = record { image = flow-image; phi = phi-apart; entry = λ params. ([], sym (append-nil (map copy_of params)), refl); head = refl }

-- ---- checks

abbrev AllIn : List (Ty × Val) → List (Ty × Val) → Type 0
AllIn [] ys = Unit {0}
AllIn (x ∷ xs) ys = IsIn x ys × AllIn xs ys

all-next : (y : Ty × Val) (xs ys : List (Ty × Val)) → AllIn xs ys → AllIn xs (y ∷ ys)
all-next y [] ys all = tt
all-next y (x ∷ xs) ys all = (next-in x y ys all.0, all-next y xs ys all.1)

all-own : (xs : List (Ty × Val)) → AllIn xs xs
all-own [] = tt
all-own (x ∷ xs) = ((0, refl), all-next x xs xs (all-own xs))

-- what is checked are operands
checked-operands : (inst : Inst) → AllIn (checked inst) (typed_operands inst)
checked-operands (insts.Load dst ty ptr atomic) = ((0, refl), tt)
checked-operands (insts.Store ty val ptr atomic) = ((1, refl), ((0, refl), tt))
checked-operands (insts.Rmw dst op ptr ty val) = ((0, refl), ((1, refl), tt))
checked-operands (insts.CmpXchg dst ptr ty old new) = ((0, refl), ((1, refl), ((2, refl), tt)))
checked-operands (insts.Call dst ret callee args) = all-own args
checked-operands (insts.CondBr cond on_true on_false) = ((0, refl), tt)
checked-operands (insts.Switch ty on default cases) = ((0, refl), tt)
checked-operands (insts.Ret ty None) = tt
checked-operands (insts.Ret ty (Some val)) = ((0, refl), tt)
checked-operands inst = tt

check-silent : (xs : List (Ty × Val)) → list_all is_silent (flat_map check xs) ≡ true
check-silent [] = refl
check-silent ((ty, values.Reg reg) ∷ xs) = check-silent xs
check-silent ((ty, val) ∷ xs) = check-silent xs

check-parts : (inst : Inst) (xs : List (Ty × Val)) → AllIn xs (typed_operands inst) → AreParts inst (flat_map check xs)
check-parts inst [] all = tt
check-parts inst ((ty, values.Reg reg) ∷ xs) all = (all.0, check-parts inst xs all.1)
check-parts inst ((ty, val) ∷ xs) all = check-parts inst xs all.1

check-image : (inst : Inst) → is_phi inst ≡ false → IsImage inst (with_checks inst (flow inst))
check-image inst e = behind-front inst (flat_map check (checked inst)) (flow inst) (check-silent (checked inst)) (check-parts inst (checked inst) (checked-operands inst)) (flow-image inst e)

check-phi-apart : (inst : Inst) → is_phi inst ≡ true → with_checks inst (flow inst) ≡ []
check-phi-apart (insts.Phi dst ty arms) e = refl
check-phi-apart inst e = absurd cc

pub check-is-table : IsTable check_table
check-is-table = record { image = check-image; phi = check-phi-apart; entry = λ params. ([], sym (append-nil (map copy_of params)), refl); head = refl }

-- ---- silent items after an image

after-ends : (inst : Inst) (items back : List HInst) (b : Bool) → (b ≡ true → back ≡ []) → list_any (λ item. is_terminator (plain_inst item)) back ≡ false
    → EndsAs b inst items → EndsAs b inst (items ++ back)
after-ends inst items back false apart none ends =
    list_any-append (λ item. is_terminator (plain_inst item)) items back ∙ ap (λ (x : Bool). x || list_any (λ item. is_terminator (plain_inst item)) back) ends ∙ none
after-ends inst items back true apart none ends = subst (EndsAs true inst) (sym (ap (λ (xs : List HInst). items ++ xs) (apart refl) ∙ append-nil items)) ends

-- after what is no terminator
before-back : (inst : Inst) (items back : List HInst) → list_all is_silent back ≡ true → AreParts inst back → (is_terminator inst ≡ true → back ≡ []) → IsImage inst items → IsImage inst (items ++ back)
before-back inst items back silent parts apart image = record {
  parts = parts-append inst items back image.parts parts;
  assigns = λ side.
      filter_map-append (assigned_on side) items back ∙ ap (λ (xs : List Loc). filter_map (assigned_on side) items ++ xs) (silent-assigns side back silent)
      ∙ append-nil (filter_map (assigned_on side) items) ∙ image.assigns side;
  first = λ at. ap (λ (xs : List (Loc × Meaning)). first_of xs at) (filter_map-append meaning_in items back)
      ∙ ap (λ (xs : List (Loc × Meaning)). first_of (filter_map meaning_in items ++ xs) at) (silent-means back silent)
      ∙ ap (λ (xs : List (Loc × Meaning)). first_of xs at) (append-nil (filter_map meaning_in items)) ∙ image.first at;
  ends = after-ends inst items back (is_terminator inst) apart (silent-ends back silent) image.ends;
}

-- ---- double loads and late checks

core-image : (inst : Inst) → is_phi inst ≡ false → IsImage inst (core inst)
core-image (insts.Load dst ty ptr false) e = record {
  parts = ((refl, refl), ((refl, refl), tt));
  assigns = by_side;
  first = λ at. first-twice dst at _ _;
  ends = refl;
}
  where
    by_side : (side : Side) → filter_map (assigned_on side) (core (insts.Load dst ty ptr false)) ≡ dst ∷ []
    by_side M = refl
    by_side S = refl
core-image inst e = flow-image inst e

silent-append : (xs ys : List HInst) → list_all is_silent xs ≡ true → list_all is_silent ys ≡ true → list_all is_silent (xs ++ ys) ≡ true
silent-append xs ys e f = list_all-append is_silent xs ys ∙ rw (e, f) refl

when-silent : (when : When) (xs : List (Ty × Val)) → list_all is_silent (flat_map (check_when when) xs) ≡ true
when-silent when [] = refl
when-silent when ((ty, values.Reg reg) ∷ xs) = when-silent when xs
when-silent when ((ty, val) ∷ xs) = when-silent when xs

when-parts : (inst : Inst) (when : When) (xs : List (Ty × Val)) → AllIn xs (typed_operands inst) → AreParts inst (flat_map (check_when when) xs)
when-parts inst when [] all = tt
when-parts inst when ((ty, values.Reg reg) ∷ xs) all = (all.0, when-parts inst when xs all.1)
when-parts inst when ((ty, val) ∷ xs) all = when-parts inst when xs all.1

before-operands : (inst : Inst) → AllIn (checked_before inst) (typed_operands inst)
before-operands (insts.Load dst ty ptr false) = tt
before-operands inst = checked-operands inst

late-silent : (inst : Inst) → list_all is_silent (checks_after inst) ≡ true
late-silent (insts.Store ty val (values.Reg ptr) false) = refl
late-silent (insts.Store ty val ptr false) = refl
late-silent inst = refl

late-parts : (inst : Inst) → AreParts inst (checks_after inst)
late-parts (insts.Store ty val (values.Reg ptr) false) = ((1, refl), ((values.Reg ptr, val, refl, refl, refl), tt))
late-parts (insts.Store ty val (values.Int n) false) = ((values.Int n, val, refl, refl, refl), tt)
late-parts (insts.Store ty val values.Null false) = ((values.Null, val, refl, refl, refl), tt)
late-parts (insts.Store ty val (values.Global sym) false) = ((values.Global sym, val, refl, refl, refl), tt)
late-parts (insts.Store ty val (values.Gep gep) false) = ((values.Gep gep, val, refl, refl, refl), tt)
late-parts inst = tt

late-apart : (inst : Inst) → is_terminator inst ≡ true → checks_after inst ≡ []
late-apart (insts.Store ty val ptr atomic) e = cc
late-apart inst e = refl

late-image : (inst : Inst) → is_phi inst ≡ false → IsImage inst (core inst ++ checks_after inst)
late-image inst e = before-back inst (core inst) (checks_after inst) (late-silent inst) (late-parts inst) (late-apart inst) (core-image inst e)

relax-image : (inst : Inst) → is_phi inst ≡ false → IsImage inst (relaxed inst)
relax-image inst e =
    behind-front inst (checks_before inst) (core inst ++ checks_after inst) (when-silent (checked_when inst) (checked_before inst)) (when-parts inst (checked_when inst) (checked_before inst) (before-operands inst)) (late-image inst e)

relax-phi-apart : (inst : Inst) → is_phi inst ≡ true → relaxed inst ≡ []
relax-phi-apart (insts.Phi dst ty arms) e = refl
relax-phi-apart inst e = absurd cc

pub relax-is-table : IsTable relax_table
relax-is-table = record { image = relax-image; phi = relax-phi-apart; entry = λ params. ([], sym (append-nil (map copy_of params)), refl); head = refl }

-- ---- transactions and ticks

quiet-parts : (inst : Inst) (items : List HInst) → list_all is_quiet items ≡ true → AreParts inst items
quiet-parts inst [] e = tt
quiet-parts inst (x ∷ xs) e = let parts = both_true (is_quiet x) (list_all is_quiet xs) e in (by_item x parts.0, quiet-parts inst xs parts.1)
  where
    by_item : (x : HInst) → is_quiet x ≡ true → IsPart inst x
    by_item (Do side own retires) e = cc
    by_item (Mov ty reg) e = cc
    by_item (Chk when ty reg) e = cc
    by_item (ChkMem ty ptr val) e = cc
    by_item x e = tt

quiet-silent : (items : List HInst) → list_all is_quiet items ≡ true → list_all is_silent items ≡ true
quiet-silent [] e = refl
quiet-silent (x ∷ xs) e = let parts = both_true (is_quiet x) (list_all is_quiet xs) e in rw (by_item x parts.0, quiet-silent xs parts.1) refl
  where
    by_item : (x : HInst) → is_quiet x ≡ true → is_silent x ≡ true
    by_item (Do side own retires) e = cc
    by_item (Mov ty reg) e = cc
    by_item x e = refl

ends-quiet : (m : ModuleParts) (inst : Inst) → list_all is_quiet (ends_before m inst) ≡ true
ends-quiet m (insts.Call dst ret callee args) = by_kind (kind_of (external_named m callee))
  where
    by_kind : (kind : CallKind) → list_all is_quiet (ends_for kind) ≡ true
    by_kind Inner = refl
    by_kind Outer = refl
    by_kind OfLock = refl
ends-quiet m inst = refl

begins-quiet : (m : ModuleParts) (inst : Inst) → list_all is_quiet (begins_after m inst) ≡ true
begins-quiet m (insts.Call dst ret callee args) = by_kind (kind_of (external_named m callee))
  where
    by_kind : (kind : CallKind) → list_all is_quiet (begins_for kind) ≡ true
    by_kind Inner = refl
    by_kind Outer = refl
    by_kind OfLock = refl
begins-quiet m inst = refl

begins-apart : (m : ModuleParts) (inst : Inst) → is_terminator inst ≡ true → begins_after m inst ≡ []
begins-apart m (insts.Call dst ret callee args) e = cc
begins-apart m inst e = refl

tick-quiet : (b : Bool) (work : ℕ) → list_all is_quiet (tick_if b work) ≡ true
tick-quiet true work = refl
tick-quiet false work = refl

module _ (m : ModuleParts) where
  placed-image : (inst : Inst) → is_phi inst ≡ false → IsImage inst (placed m inst)
  placed-image inst e =
      let ends = ends_before m inst in
      let begins = begins_after m inst in
      let body : IsImage inst (body_of m inst) = behind-front inst ends (core inst ++ checks_after inst) (quiet-silent ends (ends-quiet m inst)) (quiet-parts inst ends (ends-quiet m inst)) (late-image inst e) in
      let whole = before-back inst (body_of m inst) begins (quiet-silent begins (begins-quiet m inst)) (quiet-parts inst begins (begins-quiet m inst)) (begins-apart m inst) body in
      behind-front inst (checks_before inst) (body_of m inst ++ begins) (when-silent (checked_when inst) (checked_before inst)) (when-parts inst (checked_when inst) (checked_before inst) (before-operands inst)) whole

  row-image : (work : ℕ) (inst : Inst) → is_phi inst ≡ false → IsImage inst (row m work inst)
  row-image work inst e =
      let quiet = tick-quiet (leaves inst) work in
      behind-front inst (tick_before work inst) (placed m inst) (quiet-silent (tick_before work inst) quiet) (quiet-parts inst (tick_before work inst) quiet) (placed-image inst e)

  placed-phi-apart : (inst : Inst) → is_phi inst ≡ true → placed m inst ≡ []
  placed-phi-apart (insts.Phi dst ty arms) e = refl
  placed-phi-apart inst e = absurd cc

  row-phi-apart : (inst : Inst) → is_phi inst ≡ true → row m 0 inst ≡ []
  row-phi-apart (insts.Phi dst ty arms) e = refl
  row-phi-apart inst e = absurd cc

  pub place-is-table : IsTable (place_table m)
  place-is-table = record { image = placed-image; phi = placed-phi-apart; entry = λ params. (cut_point, refl, refl); head = refl }

  pub split-is-table : IsTable (split_table m)
  split-is-table = record { image = row-image 0; phi = row-phi-apart; entry = λ params. (cut_point, refl, refl); head = refl }
