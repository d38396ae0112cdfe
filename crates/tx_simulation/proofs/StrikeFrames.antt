-- A point outlives an upset: what is known beside sides is in a window, and the side that was struck isn't known from then on.
use Rattle.std.proofs.Common.{ℕ, suc, ◌≡◌, ◌∙◌, Bool, true, false, List, [], ◌∷◌, Option, Some, slice_get, refl, ap, sym, subst}
use Rattle.std.specs.Option.{option_map}
use Rattle.ir_core.specs.declared.types.Ty.{Ty}
use Rattle.ir_core.specs.declared.types.Loc.{Loc}
use Rattle.ir_core.specs.declared.values.Val.{Val}
use Rattle.ir_core.specs.declared.values.Val.TheVariants as values
use Rattle.ir_core.specs.declared.values.Side.{Side}
use Rattle.ir_core.specs.declared.values.Side.TheVariants.{M, S}
use Rattle.ir_core.specs.declared.instruction.Inst.{Inst}
use Rattle.ir_core.specs.Module.{ModuleParts}
use Rattle.mem_image.specs.Bytes.{Memory}
use Rattle.inst_meaning.specs.declared.actions.Place.{Place}
use Rattle.inst_meaning.specs.declared.actions.Action.{Action}
use Rattle.inst_meaning.specs.declared.actions.Action.TheVariants.{Assign, Reserve, Read, Write, Update, Pass, Jump, Call, Ask, Create, Join, Exit, Return, Fault}
use Rattle.inst_meaning.specs.Action.{place_at}
use Rattle.inst_meaning.specs.Registers.{get, put}
use Rattle.inst_meaning.proofs.Puts.{put-elsewhere}
use Rattle.hard_ir.specs.declared.instruction.HReg.{HReg}
use Rattle.hard_ir.specs.declared.instruction.HInst.{HInst}
use Rattle.hard_ir.specs.declared.instruction.HInst.TheVariants.{End}
use Rattle.hard_ir.specs.declared.instruction.When.TheVariants.{Always}
use Rattle.hard_ir.specs.Image.{checked_before}
use Rattle.hard_simulation.proofs.Files.{AreFresh, is_among}
use Rattle.hard_simulation.proofs.Sides.{Sides, Both, Alone, On, on-map, on-pure}
use Rattle.hard_meaning.specs.State.{Mode, Free, Inside, is_inside}
use Rattle.hard_meaning.specs.Windows.{is_effect, is_window}
use Rattle.tx_simulation.proofs.Lines.{never-both}
use Rattle.tx_simulation.proofs.Reading.{SameIn, AreSameIn}
use Rattle.tx_simulation.proofs.Points.{checks_passed, core_onto, IfInside, IsFree, IfTrue, AgreeIn, AgreeBut, source_action, IsRead, IsStored, Stands, Nowhere, At, Checking, Outside, Doubling, Late, Copying, AtEdge}
use Rattle.tx_simulation.proofs.Windowed.{master, checked-window, ended-window, copy-window}

-- ---- modes

-- the mode in which an upset with a number stands
abbrev pub struck_mode : ℕ → Mode → Mode
struck_mode k (Free plain) = Free plain
struck_mode k (Inside tx) = Inside (record tx { struck = k ∷ tx.struck })

inside-struck : (k : ℕ) (mode : Mode) → is_inside (struck_mode k mode) ≡ is_inside mode
inside-struck k (Free plain) = refl
inside-struck k (Inside tx) = refl

free-struck : (k : ℕ) (mode : Mode) → IsFree mode → IsFree (struck_mode k mode)
free-struck k (Free plain) e = e
free-struck k (Inside tx) e = absurd e

stored-struck : (k : ℕ) (mode : Mode) (mem : Memory) (place : Place) (n : ℕ) → IfInside mode (IsStored mode mem place n)
    → IfInside (struck_mode k mode) (IsStored (struck_mode k mode) mem place n)
stored-struck k (Free plain) mem place n s = tt
stored-struck k (Inside tx) mem place n s = record { stands = s.stands; line = s.line; valid = s.valid }

read-struck : (k : ℕ) (mode : Mode) (mem : Memory) (action : Action) → IsRead mode mem action → IsRead (struck_mode k mode) mem action
read-struck k (Free plain) mem action r = r
read-struck k (Inside tx) mem (Read place true) r = r
read-struck k (Inside tx) mem (Read place false) r = r
read-struck k (Inside tx) mem (Assign n) r = tt
read-struck k (Inside tx) mem (Reserve n) r = tt
read-struck k (Inside tx) mem (Write place n atomic) r = tt
read-struck k (Inside tx) mem (Update place update) r = tt
read-struck k (Inside tx) mem Pass r = tt
read-struck k (Inside tx) mem (Jump n) r = tt
read-struck k (Inside tx) mem (Call n words) r = tt
read-struck k (Inside tx) mem (Ask n) r = tt
read-struck k (Inside tx) mem (Create p n q) r = tt
read-struck k (Inside tx) mem (Join n) r = tt
read-struck k (Inside tx) mem (Exit n) r = tt
read-struck k (Inside tx) mem (Return n) r = tt
read-struck k (Inside tx) mem (Fault n) r = tt

-- ---- files

-- what an upset leaves of two files: those of known sides, and the masters in a window
pub record IsLeft (sides : Sides) (window : ℕ → Bool) (masters shadows masters' shadows' : List (Option ℕ)) : Type 0 where
  pub master : On sides M (masters' ≡ masters)
  pub shadow : On sides S (shadows' ≡ shadows)
  pub windows : (at : ℕ) → window at ≡ true → get masters' at ≡ get masters at

-- a master was struck
pub left-shadows : (window : ℕ → Bool) (masters shadows : List (Option ℕ)) (at word : ℕ) → window at ≡ false
    → IsLeft (Alone S) window masters shadows (put masters at word) shadows
left-shadows window masters shadows at word outside = record {
  master = tt;
  shadow = refl;
  windows = λ k e. put-elsewhere masters at word k (λ is. never-both (window k) (ap window (sym is) ∙ outside) e);
}

-- a shadow was struck
pub left-masters : (window : ℕ → Bool) (masters shadows shadows' : List (Option ℕ)) → IsLeft (Alone M) window masters shadows masters shadows'
left-masters window masters shadows shadows' = record { master = refl; shadow = tt; windows = λ at e. refl }

-- none of these
pub left-both : (side : Side) (window : ℕ → Bool) (masters shadows : List (Option ℕ)) → IsLeft (Alone side) window masters shadows masters shadows
left-both side window masters shadows =
    record { master = on-pure (Alone side) M _ refl; shadow = on-pure (Alone side) S _ refl; windows = λ at e. refl }

-- words that are the same stay the same in a file that has the words of these registers
same-left : (masters masters' registers : List (Option ℕ)) (done : List (Ty × Val))
    → ((k : ℕ) (ty : Ty) (reg : Loc) → slice_get done k ≡ Some (ty, values.Reg reg) → get masters' reg.0 ≡ get masters reg.0)
    → AreSameIn masters registers done → AreSameIn masters' registers done
same-left masters masters' registers [] keeps same = tt
same-left masters masters' registers (operand ∷ done) keeps same =
    (by_operand operand (keeps 0) same.0, same-left masters masters' registers done (λ k. keeps (suc k)) same.1)
  where
    by_operand : (o : Ty × Val) → ((ty : Ty) (reg : Loc) → Some o ≡ Some (ty, values.Reg reg) → get masters' reg.0 ≡ get masters reg.0)
        → SameIn masters registers o → SameIn masters' registers o
    by_operand (ty, values.Reg reg) keep e = ap (option_map _) (keep ty reg refl) ∙ e
    by_operand (ty, values.Int n) keep e = tt
    by_operand (ty, values.Null) keep e = tt
    by_operand (ty, values.Global sym) keep e = tt
    by_operand (ty, values.Gep gep) keep e = tt

-- ---- points

module _ (m : ModuleParts) (names : ℕ → Bool) (edged : Bool) (k : ℕ) (mode : Mode) (mem : Memory) (sides : Sides) (registers : List (Option ℕ))
    (masters shadows masters' shadows' : List (Option ℕ)) where
  -- the masters that are in a window
  abbrev pub window_at : List HInst → List HInst → ℕ → Bool
  window_at past code at = is_window (is_inside mode) edged (master at) past code

  module _ (left : List Inst) (past code : List HInst) (is : IsLeft sides (window_at past code) masters shadows masters' shadows') where
    on_m : (P : List (Option ℕ) → Type 0) → P masters → On sides M (P masters')
    on_m P p = on-map sides M (masters' ≡ masters) (P masters') (λ e. subst P (sym e) p) is.master

    on_s : (P : List (Option ℕ) → Type 0) → P shadows → On sides S (P shadows')
    on_s P p = on-map sides S (shadows' ≡ shadows) (P shadows') (λ e. subst P (sym e) p) is.shadow

    in_window : (past' code' : List HInst) → past ≡ past' → code ≡ code' → (at : ℕ) → window_at past' code' at ≡ true → get masters' at ≡ get masters at
    in_window past' code' e f at w = is.windows at (rw (e, f) w)

    -- the words that were checked stay, where an effect uses them
    effect-left : (inst : Inst) (done : List (Ty × Val)) → ((k : ℕ) (ty : Ty) (reg : Loc) → is_effect (is_inside mode) edged inst ≡ true
        → slice_get done k ≡ Some (ty, values.Reg reg) → get masters' reg.0 ≡ get masters reg.0)
        → IfTrue (is_effect (is_inside mode) edged inst) (AreSameIn masters registers done)
        → IfTrue (is_effect (is_inside mode) edged inst) (AreSameIn masters' registers done)
    effect-left inst done keeps same = by_test (is_effect (is_inside mode) edged inst) refl same
      where
        by_test : (b : Bool) → is_effect (is_inside mode) edged inst ≡ b → IfTrue b (AreSameIn masters registers done) → IfTrue b (AreSameIn masters' registers done)
        by_test true e h = same-left masters masters' registers done (λ k ty reg at. keeps k ty reg e at) h
        by_test false e h = tt

    fresh-left : (regs : List (Ty × Loc)) → ((at : ℕ) → is_among at regs ≡ true → get masters' at ≡ get masters at)
        → AreFresh regs masters registers → AreFresh regs masters' registers
    fresh-left regs keeps fresh = record { same = λ at e. keeps at e ∙ fresh.same at e; given = fresh.given }

    pub point-left : Stands m names edged Both mode mem left registers past code masters shadows
        → Stands m names edged sides (struck_mode k mode) mem left registers past code masters' shadows'
    point-left (Nowhere none) = Nowhere none
    point-left (At rows agree agree') =
        At rows (on_m (λ file. AgreeIn names file registers) agree) (on_s (λ file. AgreeIn names file registers) agree')
    point-left (Checking inst behind done operands rest before e f g all rows same agree agree') =
        Checking inst behind done operands rest before e f g all rows
        (subst (λ (inside : Bool). IfTrue (is_effect inside edged inst) (AreSameIn masters' registers done)) (sym (inside-struck k mode))
        (effect-left inst done (λ n ty reg effect at. in_window _ _ g f reg.0
        (checked-window (is_inside mode) edged inst effect ty reg n before m done operands rest all at)) same))
        (on_m (λ file. AgreeIn names file registers) agree) (on_s (λ file. AgreeIn names file registers) agree')
    point-left (Outside inst behind rest before e f g free single effect when rows same agree agree') =
        Outside inst behind rest before e f g (free-struck k mode free) single effect when rows
        (same-left masters masters' registers (checked_before inst) (λ n ty reg at. in_window _ _ g f reg.0
        (by_mode mode free (master reg.0) (End ∷ checks_passed Always (checked_before inst) before) (core_onto inst rest)
        (ended-window false edged inst effect ty reg n before rest when at))) same)
        (on_m (λ file. AgreeIn names file registers) agree) (on_s (λ file. AgreeIn names file registers) agree')
      where
        by_mode : (mode : Mode) → IsFree mode → (r : HReg) (past code : List HInst) → is_window false edged r past code ≡ true
            → is_window (is_inside mode) edged r past code ≡ true
        by_mode (Free plain) free r past code w = w
        by_mode (Inside tx) free r past code w = absurd free
    point-left (Doubling inst behind rest dst word e f rows twice to given read agree agree') =
        Doubling inst behind rest dst word e f rows twice to given (on_m (λ file. IsRead (struck_mode k mode) mem (source_action m registers inst))
        (read-struck k mode mem (source_action m registers inst) read))
        (on_m (λ file. AgreeIn names file (put registers dst.0 word)) agree) (on_s (λ file. AgreeIn names file registers) agree')
    point-left (Late ty ptr val w pointers address n rest f rows one width p v s agree agree') =
        Late ty ptr val w pointers address n rest f rows one width p v (stored-struck k mode mem (place_at address w) n s)
        (on_m (λ file. AgreeIn names file registers) agree) (on_s (λ file. AgreeIn names file registers) agree')
    point-left (Copying regs rest f rows fresh agree but) =
        Copying regs rest f rows (fresh-left regs (λ at e. in_window past _ refl f at (copy-window (is_inside mode) edged at regs rest past e)) fresh)
        (on_m (λ file. AgreeIn names file registers) agree) (on_s (λ file. AgreeBut names regs file registers) but)
    point-left (AtEdge name direction rest f rows two on_master on_shadow agree agree') =
        AtEdge name direction rest f rows two (on_m (λ file. get file name.0 ≡ Some direction) on_master) (on_s (λ file. get file name.0 ≡ Some direction) on_shadow)
        (on_m (λ file. AgreeIn names file registers) agree) (on_s (λ file. AgreeIn names file registers) agree')
