-- The checks before an instruction, one by one, and what stands before those: marks and ticks.
use Rattle.std.proofs.Common.{ℕ, ◌≡◌, ◌∙◌, Bool, true, false, List, [], ◌∷◌, ◌++◌, length, reverse, Option, Some, None, slice_get, refl, ap, sym, subst, append_assoc, append-nil}
use Rattle.std.specs.Option.{is_some, option_map_or}
use Rattle.ir_core.specs.declared.types.Ty.{Ty}
use Rattle.ir_core.specs.declared.types.Loc.{Loc}
use Rattle.ir_core.specs.declared.values.Val.{Val}
use Rattle.ir_core.specs.declared.values.Val.TheVariants as values
use Rattle.ir_core.specs.declared.values.Side.TheVariants.{M, S}
use Rattle.ir_core.specs.declared.instruction.Inst.{Inst}
use Rattle.ir_core.specs.declared.instruction.Inst.TheVariants as insts
use Rattle.ir_core.specs.declared.instruction.Block.{Block}
use Rattle.ir_core.specs.Instructions.{is_phi}
use Rattle.ir_layout.specs.Memory.{layout_of}
use Rattle.mem_image.specs.Bytes.{Memory}
use Rattle.ir_flow.specs.Uses.{regs_in}
use Rattle.ir_check.proofs.Members.{IsIn, in-front, in-back}
use Rattle.inst_meaning.specs.declared.actions.Cause.TheVariants.{Unreachable}
use Rattle.inst_meaning.specs.Action.{callees_of}
use Rattle.inst_meaning.specs.Registers.{get}
use Rattle.hard_ir.specs.declared.instruction.When.{When}
use Rattle.hard_ir.specs.declared.instruction.When.TheVariants.{Always, Plain, Tx}
use Rattle.hard_ir.specs.declared.instruction.HInst.{HInst}
use Rattle.hard_ir.specs.declared.instruction.HInst.TheVariants.{Cut, Begin, Tick, Chk}
use Rattle.hard_ir.specs.Image.{checked_before, checked_when, check_when, body_of}
use Rattle.hard_ir.specs.Images.{LooseRows, Over, CutMark, BeginMark, Phi, Next, ticks_onto}
use Rattle.hard_ir.specs.Lines.{registers_of}
use Rattle.hard_frames.specs.declared.state.Frame.{Frame}
use Rattle.hard_frames.specs.Code as hard_text
use Rattle.hard_frames.specs.Frames as hard_frame
use Rattle.hard_simulation.proofs.Sides.{Sides, On}
use Rattle.hard_simulation.proofs.Instructions.{checked-reads, phi-faults}
use Rattle.hard_simulation.proofs.Points.{source_code, hard_code}
use Rattle.hard_meaning.specs.State.{Mode, Free, Inside, is_inside}
use Rattle.hard_meaning.specs.Checks.{is_active}
use Rattle.hard_meaning.specs.Turns as hard
use Rattle.hard_meaning.specs.Windows.{is_effect}
use Rattle.tx_simulation.proofs.Reading.{SameIn, AreSameIn, same-in-more}
use Rattle.tx_simulation.proofs.Lines.{never-both}
use Rattle.tx_simulation.proofs.Points.{names_at, past_code, is_edged, AgreeIn, IfTrue, checks_onto, checks_passed, At, Checking}
use Rattle.tx_simulation.proofs.Scene.{Scene, InPlace, in-place, here, now, seen, AfterTurn, somewhere, not-faulty, reads, by-head, code-after}
use Rattle.tx_simulation.proofs.Named.{names-are, register-named, read-in}
use Rattle.tx_simulation.proofs.Silent.{past-after, PointIn, passes, counts, cuts, begins-at, AsksOf, compares, differ-hurt, missing-master, missing-shadow, master-same}

-- ---- what is checked

pub before-reads : (inst : Inst) (k : ℕ) (ty : Ty) (reg : Loc) → slice_get (checked_before inst) k ≡ Some (ty, values.Reg reg) → IsIn reg (regs_in inst)
before-reads (insts.Load dst type ptr false) k ty reg e = absurd cc
before-reads (insts.Load dst type ptr true) k ty reg e = checked-reads (insts.Load dst type ptr true) k ty reg e
before-reads inst k ty reg e = checked-reads inst k ty reg e

-- a check that isn't active stands before what is no effect
pub inactive-effect : (inst : Inst) (inside edged : Bool) → is_active (checked_when inst) inside ≡ false → is_effect inside edged inst ≡ false
inactive-effect (insts.Store ty val ptr false) true edged e = refl
inactive-effect (insts.Store ty val ptr false) false edged e = cc
inactive-effect (insts.Store ty val ptr true) inside edged e = cc
inactive-effect inst inside edged e = cc

passed-more : (when : When) (done : List (Ty × Val)) (operand : Ty × Val) (before : List HInst)
    → checks_passed when (done ++ operand ∷ []) before ≡ reverse (check_when when operand) ++ checks_passed when done before
passed-more when [] operand before = refl
passed-more when (first ∷ done) operand before = passed-more when done operand (reverse (check_when when first) ++ before)

one-more : (operand : Ty × Val) (done operands : List (Ty × Val)) → done ++ operand ∷ operands ≡ (done ++ operand ∷ []) ++ operands
one-more operand done operands = sym (append_assoc done (operand ∷ []) operands)

pub get-behind : {A : Type 0} (xs : List A) (x : A) (ys : List A) → slice_get (xs ++ x ∷ ys) (length xs) ≡ Some x
get-behind [] x ys = refl
get-behind (y ∷ xs) x ys = get-behind xs x ys

if-more : (b : Bool) (masters registers : List (Option ℕ)) (done : List (Ty × Val)) (operand : Ty × Val) → IfTrue b (AreSameIn masters registers done)
    → (b ≡ true → SameIn masters registers operand) → IfTrue b (AreSameIn masters registers (done ++ operand ∷ []))
if-more true masters registers done operand same own = same-in-more masters registers done operand same (own refl)
if-more false masters registers done operand same own = tt

module _ (mode : Mode) (c : Scene mode) where
  -- ---- registers that are read

  module _ (inst : Inst) (after : List Inst) (left : source_code c.m c.a.frame ≡ inst ∷ after) where
    pub named-read : (reg : Loc) → IsIn reg (regs_in inst) → names_at c.m c.a.frame.function reg.0 ≡ true
    named-read reg is =
        let place : InPlace mode c inst = in-place mode c inst after left in
        names-are c.m c.a.frame.function place.f reg place.stands
        ∙ register-named place.f c.a.frame.block c.a.frame.index place.block inst reg place.there place.at (read-in inst reg is)

    pub word-read : (reg : Loc) → IsIn reg (regs_in inst) → is_some (get c.a.frame.registers reg.0) ≡ true
    word-read reg is = (reads mode c inst after left).operands is.0 reg is.1

  -- ---- what comes when all is checked

  -- an instruction whose checks were made, with what is known of its operands where it is an effect
  pub record IsChecked (inst : Inst) : Type 0 where
    pub after : List Inst
    pub left : source_code c.m c.a.frame ≡ inst ∷ after
    pub rest : List HInst
    pub before : List HInst
    pub code : hard_code c.h c.b.frame ≡ body_of c.m inst ++ rest
    pub past : past_code c.h c.b.frame ≡ checks_passed (checked_when inst) (checked_before inst) before
    pub rows : LooseRows c.m after rest
    pub same : IfTrue (is_effect (is_inside mode) (is_edged c.h c.b.frame) inst) (AreSameIn c.b.frame.masters c.a.frame.registers (checked_before inst))
    pub masters : On c.sides M (AgreeIn (names_at c.m c.a.frame.function) c.b.frame.masters c.a.frame.registers)
    pub shadows : On c.sides S (AgreeIn (names_at c.m c.a.frame.function) c.b.frame.shadows c.a.frame.registers)

  abbrev pub Turns : Type 0
  Turns = AfterTurn mode c (hard.fetched c.h (now mode c) c.t (here mode c) c.b (hard_text.inst_at c.h c.b.frame))

  module _ (finish : (inst : Inst) → IsChecked inst → Turns)
      (masters : On c.sides M (AgreeIn (names_at c.m c.a.frame.function) c.b.frame.masters c.a.frame.registers))
      (shadows : On c.sides S (AgreeIn (names_at c.m c.a.frame.function) c.b.frame.shadows c.a.frame.registers)) where
    module _ (inst : Inst) (after : List Inst) (rest before : List HInst) (left : source_code c.m c.a.frame ≡ inst ∷ after)
        (rows : LooseRows c.m after rest) where
      -- a register is checked
      check-at : (done operands : List (Ty × Val)) (ty : Ty) (reg : Loc)
          → hard_code c.h c.b.frame ≡ Chk (checked_when inst) ty reg ∷ checks_onto (checked_when inst) operands (body_of c.m inst ++ rest)
          → past_code c.h c.b.frame ≡ checks_passed (checked_when inst) done before → checked_before inst ≡ done ++ (ty, values.Reg reg) ∷ operands
          → IfTrue (is_effect (is_inside mode) (is_edged c.h c.b.frame) inst) (AreSameIn c.b.frame.masters c.a.frame.registers done)
          → AsksOf mode c (checked_when inst) ty reg
      check-at done operands ty reg code past all same = record {
        off = λ off. point (λ effect. absurd (never-both _ (inactive-effect inst (is_inside mode) (is_edged c.h c.b.frame) off) effect));
        same = λ p q on e f k. point (λ effect. master-same c.sides names _ _ _ reg named masters shadows ty p q e f k);
        differ = λ p q on e f k free. differ-hurt c.sides names _ _ _ reg named masters shadows ty p q e f k;
        no_master = λ on e free. missing-master c.sides names _ _ _ reg named masters shadows has e;
        no_shadow = λ on e free. missing-shadow c.sides names _ _ _ reg named masters shadows has e;
      }
        where
          names : ℕ → Bool
          names = names_at c.m c.a.frame.function

          read : IsIn reg (regs_in inst)
          read = before-reads inst (length done) ty reg (ap (λ (list : List (Ty × Val)). slice_get list (length done)) all ∙ get-behind done (ty, values.Reg reg) operands)

          named : names_at c.m c.a.frame.function reg.0 ≡ true
          named = named-read inst after left reg read

          has : is_some (get c.a.frame.registers reg.0) ≡ true
          has = word-read inst after left reg read

          point : (is_effect (is_inside mode) (is_edged c.h c.b.frame) inst ≡ true → SameIn c.b.frame.masters c.a.frame.registers (ty, values.Reg reg))
              → PointIn mode c mode (seen mode c) (hard_frame.passed c.b.frame)
          point own = Checking inst after (done ++ (ty, values.Reg reg) ∷ []) operands rest before left (code-after mode c c.b.frame _ _ code)
              (past-after c.h c.b.frame _ _ code ∙ ap (λ (list : List HInst). Chk (checked_when inst) ty reg ∷ list) past
              ∙ sym (passed-more (checked_when inst) done (ty, values.Reg reg) before))
              (all ∙ one-more (ty, values.Reg reg) done operands) rows
              (if-more (is_effect (is_inside mode) (is_edged c.h c.b.frame) inst) c.b.frame.masters c.a.frame.registers done (ty, values.Reg reg) same own)
              masters shadows

      -- the checks that are left
      pub checks-at : (done operands : List (Ty × Val))
          → hard_code c.h c.b.frame ≡ checks_onto (checked_when inst) operands (body_of c.m inst ++ rest)
          → past_code c.h c.b.frame ≡ checks_passed (checked_when inst) done before → checked_before inst ≡ done ++ operands
          → IfTrue (is_effect (is_inside mode) (is_edged c.h c.b.frame) inst) (AreSameIn c.b.frame.masters c.a.frame.registers done) → Turns
      checks-at done [] code past all same =
          let none : done ≡ checked_before inst = sym (all ∙ append-nil done) in
          finish inst (record {
            after = after;
            left = left;
            rest = rest;
            before = before;
            code = code;
            past = past ∙ ap (λ (list : List (Ty × Val)). checks_passed (checked_when inst) list before) none;
            rows = rows;
            same = subst (λ (list : List (Ty × Val)). IfTrue (is_effect (is_inside mode) (is_edged c.h c.b.frame) inst) (AreSameIn c.b.frame.masters c.a.frame.registers list)) none same;
            masters = masters;
            shadows = shadows;
          })
      checks-at done ((ty, values.Reg reg) ∷ operands) code past all same =
          by-head mode c (Chk (checked_when inst) ty reg) (checks_onto (checked_when inst) operands (body_of c.m inst ++ rest)) code
          (compares mode c (checked_when inst) ty reg (check-at done operands ty reg code past all same))
      checks-at done ((ty, values.Int n) ∷ operands) code past all same =
          checks-at (done ++ (ty, values.Int n) ∷ []) operands code (past ∙ sym (passed-more (checked_when inst) done (ty, values.Int n) before))
          (all ∙ one-more (ty, values.Int n) done operands) (if-more _ c.b.frame.masters c.a.frame.registers done (ty, values.Int n) same (λ e. tt))
      checks-at done ((ty, values.Null) ∷ operands) code past all same =
          checks-at (done ++ (ty, values.Null) ∷ []) operands code (past ∙ sym (passed-more (checked_when inst) done (ty, values.Null) before))
          (all ∙ one-more (ty, values.Null) done operands) (if-more _ c.b.frame.masters c.a.frame.registers done (ty, values.Null) same (λ e. tt))
      checks-at done ((ty, values.Global sym_) ∷ operands) code past all same =
          checks-at (done ++ (ty, values.Global sym_) ∷ []) operands code (past ∙ sym (passed-more (checked_when inst) done (ty, values.Global sym_) before))
          (all ∙ one-more (ty, values.Global sym_) done operands) (if-more _ c.b.frame.masters c.a.frame.registers done (ty, values.Global sym_) same (λ e. tt))
      checks-at done ((ty, values.Gep gep) ∷ operands) code past all same =
          checks-at (done ++ (ty, values.Gep gep) ∷ []) operands code (past ∙ sym (passed-more (checked_when inst) done (ty, values.Gep gep) before))
          (all ∙ one-more (ty, values.Gep gep) done operands) (if-more _ c.b.frame.masters c.a.frame.registers done (ty, values.Gep gep) same (λ e. tt))

    -- ---- before an image

    -- the frame stands before the image of what is left
    before-rows : (frame : Frame) → LooseRows c.m (source_code c.m c.a.frame) (hard_code c.h frame) → frame.masters ≡ c.b.frame.masters
        → frame.shadows ≡ c.b.frame.shadows → (k : Mode) (mem : Memory) → PointIn mode c k mem frame
    before-rows frame rows e f k mem = At rows
        (subst (λ (file : List (Option ℕ)). On c.sides M (AgreeIn (names_at c.m c.a.frame.function) file c.a.frame.registers)) (sym e) masters)
        (subst (λ (file : List (Option ℕ)). On c.sides S (AgreeIn (names_at c.m c.a.frame.function) file c.a.frame.registers)) (sym f) shadows)

    passed-rows : (inst : HInst) (rest : List HInst) → hard_code c.h c.b.frame ≡ inst ∷ rest → LooseRows c.m (source_code c.m c.a.frame) rest
        → (k : Mode) (mem : Memory) → PointIn mode c k mem (hard_frame.passed c.b.frame)
    passed-rows inst rest code rows = before-rows (hard_frame.passed c.b.frame)
        (subst (λ (list : List HInst). LooseRows c.m (source_code c.m c.a.frame) list) (sym (code-after mode c c.b.frame inst rest code)) rows) refl refl

    pub rows-at : {left : List Inst} {code : List HInst} → LooseRows c.m left code → source_code c.m c.a.frame ≡ left → hard_code c.h c.b.frame ≡ code → Turns
    rows-at (Over none over) left code = absurd (somewhere mode c (left ∙ none))
    rows-at (CutMark rest e rows) left code =
        let after = passed-rows Cut rest (code ∙ e) (subst (λ (list : List Inst). LooseRows c.m list rest) (sym left) rows) in
        by-head mode c Cut rest (code ∙ e) (cuts mode c (after mode (seen mode c)) (after (Free false) (seen mode c)))
    rows-at (BeginMark rest e rows) left code =
        let own = subst (λ (list : List Inst). LooseRows c.m list rest) (sym left) rows in
        by-head mode c Begin rest (code ∙ e) (begins-at mode c (before-rows c.b.frame (BeginMark rest (code ∙ e) own) refl refl)
        (passed-rows Begin rest (code ∙ e) own))
    rows-at (Phi phi after first is rows) left code =
        absurd (not-faulty mode c phi after (left ∙ first) Unreachable (phi-faults (layout_of c.m) (callees_of c.m) c.a.frame.registers phi is))
    rows-at (Next inst after [] rest first plain list rows) left code =
        checks-at inst after rest (past_code c.h c.b.frame) (left ∙ first) rows [] (checked_before inst) (code ∙ list) refl refl (if-none _)
      where
        if-none : (b : Bool) → IfTrue b (AreSameIn c.b.frame.masters c.a.frame.registers [])
        if-none true = tt
        if-none false = tt
    rows-at (Next inst after (n ∷ works) rest first plain list rows) left code =
        by-head mode c (Tick n) _ (code ∙ list) (counts mode c n (passed-rows (Tick n) _ (code ∙ list)
        (Next inst after works rest (left ∙ first) plain refl rows) mode (seen mode c)))
