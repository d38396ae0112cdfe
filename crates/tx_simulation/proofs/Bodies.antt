-- An instruction whose checks were made: what stands for it, and its turn.
-- ---- what stands for an instruction
-- it is a phi; it is done on each side; a transaction ends before it; it is a plain store, or a branch of two ways; or it is done once, and where
-- it is no effect nothing of it is checked
use Rattle.std.proofs.Common.{◌++◌, Bool, List, ap, append-nil, append_assoc, false, inl, inr, not, refl, subst, sym, true, ◌∙◌, ◌∷◌, ◌≡◌, ◌⊎◌, []}
use Rattle.ir_core.specs.Instructions.{is_phi}
use Rattle.ir_core.specs.Module.{ModuleParts}
use Rattle.ir_core.specs.declared.instruction.Inst.TheVariants as insts
use Rattle.ir_core.specs.declared.instruction.Inst.{Inst}
use Rattle.ir_core.specs.declared.types.Loc.{Loc}
use Rattle.ir_core.specs.declared.types.Ty.{Ty}
use Rattle.ir_core.specs.declared.values.Side.TheVariants.{M, S}
use Rattle.ir_core.specs.declared.values.Val.TheVariants as values
use Rattle.ir_core.specs.declared.values.Val.{Val}
use Rattle.ir_layout.specs.Memory.{layout_of}
use Rattle.ir_calls.specs.Calls.{external_named}
use Rattle.inst_meaning.specs.Action.{callees_of}
use Rattle.inst_meaning.specs.declared.actions.Cause.TheVariants.{Unreachable}
use Rattle.hard_ir.specs.Image.{CallKind, Inner, OfLock, Outer, checked_before, checked_when, checks_after, core, ends_before, ends_for, is_done_twice, kind_of, unflagged}
use Rattle.hard_ir.specs.Images.{LooseRows}
use Rattle.hard_ir.specs.declared.instruction.HInst.TheVariants.{Do, End}
use Rattle.hard_ir.specs.declared.instruction.HInst.{HInst}
use Rattle.hard_ir.specs.declared.instruction.When.TheVariants.{Always}
use Rattle.hard_ir.specs.declared.instruction.When.{When}
use Rattle.hard_simulation.proofs.Instructions.{phi-faults}
use Rattle.hard_simulation.proofs.Points.{hard_code, source_code}
use Rattle.hard_simulation.proofs.Sides.{Alone, Both, On, Sides}
use Rattle.hard_meaning.specs.State.{Free, Inside, Mode, is_inside}
use Rattle.hard_meaning.specs.Turns.{stepped}
use Rattle.hard_meaning.specs.Windows.{is_effect}
use Rattle.tx_simulation.proofs.Checking.{IsChecked, Turns, named-read}
use Rattle.tx_simulation.proofs.Dooms.{wrong-turn}
use Rattle.tx_simulation.proofs.Doubles.{first-turn}
use Rattle.tx_simulation.proofs.Guarded.{guarded-turn}
use Rattle.tx_simulation.proofs.Points.{AgreeIn, Checking, IfInside, IfTrue, IsFree, Outside, checks_passed, core_onto, is_edged, names_at}
use Rattle.tx_simulation.proofs.Reading.{AreSameIn, acts-alike, acts-same}
use Rattle.tx_simulation.proofs.Scene.{AfterTurn, Scene, by-head, code-after, here, not-faulty, now, own-action}
use Rattle.tx_simulation.proofs.Silent.{past-after, stops-inside}
use Rattle.tx_simulation.proofs.Singles.{IsReady, head, once-turn}
use Rattle.tx_simulation.proofs.Stores.{store-turn-alike}

pub data Shape (m : ModuleParts) (inst : Inst) : Type 0 where
  OfPhi : is_phi inst ≡ true → Shape m inst
  Doubled : is_done_twice inst ≡ true → ends_before m inst ≡ [] → core inst ++ checks_after inst ≡ Do M (unflagged inst) false ∷ Do S (unflagged inst) true ∷ []
      → Shape m inst
  Leaving : ends_before m inst ≡ End ∷ [] → is_done_twice inst ≡ false → ((inside edged : Bool) → is_effect inside edged inst ≡ true) → checked_when inst ≡ Always
      → Shape m inst
  PlainStore : (ty : Ty) (val ptr : Val) → inst ≡ insts.Store ty val ptr false → Shape m inst
  TwoWay : (cond : Val) (first second : Loc) → inst ≡ insts.CondBr cond first second → Shape m inst
  Single : is_done_twice inst ≡ false → is_phi inst ≡ false → ends_before m inst ≡ [] → checks_after inst ≡ []
      → ((inside edged : Bool) → is_effect inside edged inst ≡ true) ⊎ (checked_before inst ≡ []) → Shape m inst

shape-of : (m : ModuleParts) (inst : Inst) → Shape m inst
shape-of m (insts.Bin dst op flags w a b) = Doubled refl refl refl
shape-of m (insts.Cmp dst pred ty a b) = Doubled refl refl refl
shape-of m (insts.Select dst cond ty a b) = Doubled refl refl refl
shape-of m (insts.Cast dst op from a to) = Doubled refl refl refl
shape-of m (insts.Gep dst base ptr index) = Doubled refl refl refl
shape-of m (insts.Alloca dst ty) = Single refl refl refl refl (inr refl)
shape-of m (insts.Load dst ty ptr false) = Doubled refl refl refl
shape-of m (insts.Load dst ty ptr true) = Single refl refl refl refl (inl (λ inside edged. refl))
shape-of m (insts.Store ty val ptr false) = PlainStore ty val ptr refl
shape-of m (insts.Store ty val ptr true) = Single refl refl refl refl (inl (λ inside edged. refl))
shape-of m (insts.Rmw dst op ptr ty val) = Single refl refl refl refl (inl (λ inside edged. refl))
shape-of m (insts.CmpXchg dst ptr ty old new) = Single refl refl refl refl (inl (λ inside edged. refl))
shape-of m insts.Fence = Single refl refl refl refl (inr refl)
shape-of m (insts.Extract dst elem pair index) = Doubled refl refl refl
shape-of m (insts.Call dst ret callee args) = by_kind (kind_of (external_named m callee)) refl
  where
    by_kind : (kind : CallKind) → kind_of (external_named m callee) ≡ kind → Shape m (insts.Call dst ret callee args)
    by_kind Inner e = Single refl refl (ap ends_for e) refl (inl (λ inside edged. refl))
    by_kind Outer e = Leaving (ap ends_for e) refl (λ inside edged. refl) refl
    by_kind OfLock e = Single refl refl (ap ends_for e) refl (inl (λ inside edged. refl))
shape-of m (insts.Phi dst ty arms) = OfPhi refl
shape-of m (insts.Br to) = Single refl refl refl refl (inr refl)
shape-of m (insts.CondBr cond first second) = TwoWay cond first second refl
shape-of m (insts.Switch ty on default cases) = Single refl refl refl refl (inl (λ inside edged. refl))
shape-of m (insts.Ret ty val) = Single refl refl refl refl (inl (λ inside edged. refl))
shape-of m insts.Unreachable = Single refl refl refl refl (inr refl)

effect-plain : (inst : Inst) (edged : Bool) → is_effect false edged inst ≡ true → is_phi inst ≡ false
effect-plain (insts.Phi dst ty arms) edged e = cc
effect-plain inst edged e = refl

pub always-after : (inst : Inst) → checked_when inst ≡ Always → checks_after inst ≡ []
always-after (insts.Store ty val ptr false) e = cc
always-after (insts.Store ty val ptr true) e = refl
always-after inst e = refl

if-so : (b : Bool) (P : Type 0) → P → IfTrue b P
if-so true P p = p
if-so false P p = tt

-- ---- turns

module _ (mode : Mode) (c : Scene mode) where
  -- its checks were made, and no transaction ends before it
  checked-ready : (inst : Inst) → IsChecked mode c inst → is_done_twice inst ≡ false → is_phi inst ≡ false → ends_before c.m inst ≡ [] → IsReady mode c inst
  checked-ready inst o once plain none = record {
    after = o.after;
    left = o.left;
    rest = o.rest;
    code = o.code ∙ ap (λ (ends : List HInst). (ends ++ (core inst ++ checks_after inst)) ++ o.rest) none ∙ append_assoc (core inst) (checks_after inst) o.rest;
    rows = o.rows;
    once = once;
    plain = plain;
    kind = inr none;
    masters = o.masters;
    shadows = o.shadows;
    again = by_mode mode (λ same. Checking inst o.after (checked_before inst) [] o.rest o.before o.left o.code o.past (sym (append-nil (checked_before inst))) o.rows
        (if-so (is_effect false (is_edged c.h c.b.frame) inst) _ same) o.masters o.shadows);
  }
    where
      by_mode : (k : Mode) {P : Type 0} → P → IfInside k P
      by_mode (Free plain) p = tt
      by_mode (Inside tx) p = p

  -- an instruction that is done once, and before which all that it uses was found right
  once-at : (inst : Inst) (r : IsReady mode c inst) → checks_after inst ≡ [] → AreSameIn c.b.frame.masters c.a.frame.registers (checked_before inst) → Turns mode c
  once-at inst r none same = by-head mode c (Do M inst true) _ (head mode c inst r) (once-turn mode c inst r none same)

  same-effect : (inst : Inst) → IsChecked mode c inst → is_effect (is_inside mode) (is_edged c.h c.b.frame) inst ≡ true
      → AreSameIn c.b.frame.masters c.a.frame.registers (checked_before inst)
  same-effect inst o effect = subst (λ (b : Bool). IfTrue b (AreSameIn c.b.frame.masters c.a.frame.registers (checked_before inst))) effect o.same

  single-at : (inst : Inst) (o : IsChecked mode c inst) (r : IsReady mode c inst) → checks_after inst ≡ []
      → ((inside edged : Bool) → is_effect inside edged inst ≡ true) ⊎ (checked_before inst ≡ []) → Turns mode c
  single-at inst o r none (inl effect) = once-at inst r none (same-effect inst o (effect (is_inside mode) (is_edged c.h c.b.frame)))
  single-at inst o r none (inr nothing) =
      once-at inst r none (subst (λ (list : List (Ty × Val)). AreSameIn c.b.frame.masters c.a.frame.registers list) (sym nothing) tt)

  -- a branch of two ways, in a block whose branch is checked by its targets or not
  two-way-at : (cond : Val) (first second : Loc) → IsChecked mode c (insts.CondBr cond first second) → (edged : Bool) → is_edged c.h c.b.frame ≡ edged → Turns mode c
  two-way-at cond first second o false e = once-at (insts.CondBr cond first second) (checked-ready (insts.CondBr cond first second) o refl refl refl) refl
      (same-effect (insts.CondBr cond first second) o (ap not e))
  two-way-at (values.Reg reg) first second o true e =
      let r : IsReady mode c (insts.CondBr (values.Reg reg) first second) = checked-ready (insts.CondBr (values.Reg reg) first second) o refl refl refl in
      by-head mode c (Do M (insts.CondBr (values.Reg reg) first second) true) _ (head mode c (insts.CondBr (values.Reg reg) first second) r)
      (guarded-turn mode c reg first second r e)
  two-way-at (values.Int n) first second o true e =
      once-at (insts.CondBr (values.Int n) first second) (checked-ready (insts.CondBr (values.Int n) first second) o refl refl refl) refl (tt, tt)
  two-way-at values.Null first second o true e =
      once-at (insts.CondBr values.Null first second) (checked-ready (insts.CondBr values.Null first second) o refl refl refl) refl (tt, tt)
  two-way-at (values.Global sym_) first second o true e =
      once-at (insts.CondBr (values.Global sym_) first second) (checked-ready (insts.CondBr (values.Global sym_) first second) o refl refl refl) refl (tt, tt)
  two-way-at (values.Gep gep) first second o true e =
      once-at (insts.CondBr (values.Gep gep) first second) (checked-ready (insts.CondBr (values.Gep gep) first second) o refl refl refl) refl (tt, tt)

-- a plain store: outside its operands were found right; inside a known master is right, and an unknown one may doom its thread
store-at : (mode : Mode) (c : Scene mode) (ty : Ty) (val ptr : Val) (o : IsChecked mode c (insts.Store ty val ptr false))
    → AfterTurn mode c (stepped c.h (now mode c) c.t (here mode c) c.b (Do M (insts.Store ty val ptr false) true))
store-at (Free plain) c ty val ptr o =
    store-turn-alike (Free plain) c ty val ptr (checked-ready (Free plain) c (insts.Store ty val ptr false) o refl refl refl)
    (own-action (Free plain) c M (insts.Store ty val ptr false)
    ∙ acts-alike (layout_of c.m) c.b.frame.masters c.a.frame.registers (callees_of c.m) (insts.Store ty val ptr false) refl o.same)
store-at (Inside tx) c ty val ptr o = by_sides c.sides refl
  where
    r : IsReady (Inside tx) c (insts.Store ty val ptr false)
    r = checked-ready (Inside tx) c (insts.Store ty val ptr false) o refl refl refl

    Agrees : Type 0
    Agrees = AgreeIn (names_at c.m c.a.frame.function) c.b.frame.masters c.a.frame.registers

    known : Agrees → AfterTurn (Inside tx) c (stepped c.h (now (Inside tx) c) c.t (here (Inside tx) c) c.b (Do M (insts.Store ty val ptr false) true))
    known agree = store-turn-alike (Inside tx) c ty val ptr r (own-action (Inside tx) c M (insts.Store ty val ptr false)
        ∙ acts-same (layout_of c.m) c.b.frame.masters c.a.frame.registers (callees_of c.m) (insts.Store ty val ptr false)
        (λ reg is. agree.same reg.0 (named-read (Inside tx) c (insts.Store ty val ptr false) o.after o.left reg is)))

    by_sides : (sides : Sides) → c.sides ≡ sides
        → AfterTurn (Inside tx) c (stepped c.h (now (Inside tx) c) c.t (here (Inside tx) c) c.b (Do M (insts.Store ty val ptr false) true))
    by_sides Both e = known (subst (λ (sides : Sides). On sides M Agrees) e o.masters)
    by_sides (Alone M) e = known (subst (λ (sides : Sides). On sides M Agrees) e o.masters)
    by_sides (Alone S) e = wrong-turn tx c ty val ptr r e

-- a transaction ends before what leaves the module
leaving-at : (mode : Mode) (c : Scene mode) (inst : Inst) (o : IsChecked mode c inst) → ends_before c.m inst ≡ End ∷ [] → is_done_twice inst ≡ false
    → ((inside edged : Bool) → is_effect inside edged inst ≡ true) → checked_when inst ≡ Always → Turns mode c
leaving-at mode c inst o ends once effect when =
    by-head mode c End ((core inst ++ checks_after inst) ++ o.rest) code (stops-inside mode c
    (Outside inst o.after o.rest o.before o.left (code-after mode c c.b.frame End _ code ∙ append_assoc (core inst) (checks_after inst) o.rest)
    (past-after c.h c.b.frame End _ code ∙ ap (λ (list : List HInst). End ∷ list) (o.past ∙ ap (λ (w : When). checks_passed w (checked_before inst) o.before) when))
    tt once (effect false (is_edged c.h c.b.frame)) when o.rows (same-effect mode c inst o (effect (is_inside mode) (is_edged c.h c.b.frame))) o.masters o.shadows))
  where
    code : hard_code c.h c.b.frame ≡ End ∷ ((core inst ++ checks_after inst) ++ o.rest)
    code = o.code ∙ ap (λ (list : List HInst). (list ++ (core inst ++ checks_after inst)) ++ o.rest) ends

-- all its checks were made
pub body-at : (mode : Mode) (c : Scene mode) (inst : Inst) → IsChecked mode c inst → Turns mode c
body-at mode c inst o = by_shape (shape-of c.m inst)
  where
    by_shape : Shape c.m inst → Turns mode c
    by_shape (OfPhi is) = absurd (not-faulty mode c inst o.after o.left Unreachable (phi-faults (layout_of c.m) (callees_of c.m) c.a.frame.registers inst is))
    by_shape (Doubled twice none both) =
        let code : hard_code c.h c.b.frame ≡ Do M (unflagged inst) false ∷ Do S (unflagged inst) true ∷ o.rest =
        o.code ∙ ap (λ (ends : List HInst). (ends ++ (core inst ++ checks_after inst)) ++ o.rest) none ∙ ap (λ (list : List HInst). list ++ o.rest) both in
        by-head mode c (Do M (unflagged inst) false) _ code (first-turn mode c inst o.after o.left twice o.rest o.rows code o.masters o.shadows)
    by_shape (Leaving ends once effect when) = leaving-at mode c inst o ends once effect when
    by_shape (PlainStore ty val ptr is) =
        let own : IsChecked mode c (insts.Store ty val ptr false) = subst (IsChecked mode c) is o in
        by-head mode c (Do M (insts.Store ty val ptr false) true) _
        (head mode c (insts.Store ty val ptr false) (checked-ready mode c (insts.Store ty val ptr false) own refl refl refl)) (store-at mode c ty val ptr own)
    by_shape (TwoWay cond first second is) = two-way-at mode c cond first second (subst (IsChecked mode c) is o) (is_edged c.h c.b.frame) refl
    by_shape (Single once plain none after kind) = single-at mode c inst o (checked-ready mode c inst o once plain none) after kind

-- the transaction has ended before it
pub outside-at : (mode : Mode) (c : Scene mode) (inst : Inst) (behind : List Inst) (rest : List HInst) → source_code c.m c.a.frame ≡ inst ∷ behind
    → hard_code c.h c.b.frame ≡ core_onto inst rest → IsFree mode → is_done_twice inst ≡ false → is_effect false (is_edged c.h c.b.frame) inst ≡ true
    → checked_when inst ≡ Always → LooseRows c.m behind rest → AreSameIn c.b.frame.masters c.a.frame.registers (checked_before inst)
    → On c.sides M (AgreeIn (names_at c.m c.a.frame.function) c.b.frame.masters c.a.frame.registers)
    → On c.sides S (AgreeIn (names_at c.m c.a.frame.function) c.b.frame.shadows c.a.frame.registers) → Turns mode c
outside-at mode c inst behind rest left code free once effect when rows same masters shadows = once-at mode c inst (record {
  after = behind;
  left = left;
  rest = rest;
  code = code;
  rows = rows;
  once = once;
  plain = effect-plain inst (is_edged c.h c.b.frame) effect;
  kind = inl free;
  masters = masters;
  shadows = shadows;
  again = by_mode mode _ free;
}) (always-after inst when) same
  where
    by_mode : (k : Mode) (P : Type 0) → IsFree k → IfInside k P
    by_mode (Free plain) P free = tt
    by_mode (Inside tx) P free = absurd free
