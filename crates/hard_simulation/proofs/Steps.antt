-- One hardened instruction at each point: what holds before its turn holds after it.
--
-- Premise: the next step of the thread isn't undefined in the source.
use Rattle.std.proofs.Common.{ℕ, ◌≡◌, ◌∙◌, ◌==◌, Bool, true, false, List, [], ◌∷◌, ◌++◌, length, Option, Some, None, slice_get, refl, ap, sym, subst, append_assoc, append-nil}
use Rattle.std.specs.Option.{option_map, option_map_or, is_some}
use Rattle.std.proofs.lemmas.Bool.{eqb-true, eqb-false}
use Rattle.ir_core.specs.declared.types.Ty.{Ty}
use Rattle.ir_core.specs.declared.types.Loc.{Loc}
use Rattle.ir_core.specs.declared.values.Val.{Val}
use Rattle.ir_core.specs.declared.values.Val.TheVariants as values
use Rattle.ir_core.specs.declared.values.Side.{Side}
use Rattle.ir_core.specs.declared.values.Side.TheVariants.{M, S}
use Rattle.ir_core.specs.declared.instruction.Inst.{Inst}
use Rattle.ir_core.specs.declared.instruction.Inst.TheVariants as insts
use Rattle.ir_core.specs.declared.instruction.Block.{Block}
use Rattle.ir_core.specs.Module.{ModuleParts, FuncParts}
use Rattle.ir_layout.specs.Memory.{LayoutParts, layout_of}
use Rattle.inst_meaning.specs.Registers.{get, put}
use Rattle.ir_check.specs.Faults.{IsAccepted}
use Rattle.inst_meaning.specs.declared.actions.Callee.{Callee}
use Rattle.inst_meaning.specs.declared.actions.Cause.{Cause}
use Rattle.inst_meaning.specs.declared.actions.Cause.TheVariants.{Unreachable}
use Rattle.inst_meaning.specs.declared.actions.Action.{Action}
use Rattle.inst_meaning.specs.declared.actions.Action.TheVariants.{Assign, Reserve, Read, Write, Update, Pass, Jump, Call, Ask, Create, Join, Exit, Return, Fault}
use Rattle.inst_meaning.specs.Action.{action_of, callees_of, destination}
use Rattle.ir_core.specs.Instructions.{is_phi}
use Rattle.inst_laws.specs.Agreement.{Agree, IsDefined}
use Rattle.inst_laws.proofs.Agreement.{actions-same, put-agrees}
use Rattle.process.specs.declared.state.Step.{Step}
use Rattle.process.specs.declared.state.Step.TheVariants.{Undefined}
use Rattle.process.specs.State.{in_frame}
use Rattle.process.specs.Process.{acted}
use Rattle.src_meaning.specs.declared.state.Frame.{Frame as SourceFrame}
use Rattle.src_meaning.specs.State as source_state
use Rattle.src_meaning.specs.State.{State as SourceState}
use Rattle.src_meaning.specs.Step as source
use Rattle.src_meaning.specs.Runs as source_runs
use Rattle.src_laws.proofs.Accepted.{inst-calls}
use Rattle.src_laws.proofs.Moves.{source-sound}
use Rattle.src_laws.proofs.Placed.{IsPlaced, in-block}
use Rattle.src_laws.proofs.Reading.{reads-next}
use Rattle.src_laws.proofs.Suits.{IsSuited, action-suits}
use Rattle.hard_ir.specs.declared.instruction.When.TheVariants.{Always}
use Rattle.hard_ir.specs.declared.instruction.HInst.{HInst}
use Rattle.hard_ir.specs.declared.instruction.HInst.TheVariants.{Cut, Begin, Tick, Chk, Mov, Do}
use Rattle.hard_ir.specs.Image.{is_doubled, unflagged, single_result, copies, flow, checked}
use Rattle.hard_ir.specs.Hardened.{HardParts}
use Rattle.hard_frames.specs.declared.state.Frame.{Frame}
use Rattle.process.specs.declared.state.CallStack.{CallStack}
use Rattle.process.specs.declared.state.Thread.{Thread}
use Rattle.process.specs.declared.state.Thread.TheVariants.{Running}
use Rattle.hard_frames.specs.Code as hard_text
use Rattle.hard_frames.specs.Frames as hard_frame
use Rattle.hard_machine.specs.State.{State}
use Rattle.hard_machine.specs.Step as hard
use Rattle.hard_simulation.specs.Image.{IsImage, Image, Over, Marked as MarkedImage, Phi, Next, ticks_onto, checks_onto, copies_onto}
use Rattle.hard_simulation.proofs.Sides.{Sides, On, IsHurt, on-map, hurt-if, hurt-both, either-on}
use Rattle.hard_simulation.proofs.Files.{AgreeBut, AreFresh, first-among, fresh-rest, copied-one, but-none}
use Rattle.hard_simulation.proofs.Instructions.{CanBe, Done, Faulty, can-be, unflagged-doubled, AreSame, same-more, acts-alike, doubled-assigns, doubled-destination, single-destination, unflagged-action, unflagged-destination, flow-doubled, flow-single, phi-faults, checked-reads}
use Rattle.hard_simulation.proofs.Headed.{heads-layout, heads-callees}
use Rattle.hard_simulation.proofs.Entries.{drop-suc, get-drop, get-drop-none}
use Rattle.hard_simulation.proofs.Edges.{lands}
use Rattle.hard_simulation.proofs.Points.{source_code, hard_code, Stands, Nowhere, At, Marked, Checking, Doubling, Copying, IsStack}
use Rattle.hard_simulation.proofs.Kept.{machine_of, Facts, Holds, silent, fails, traps}
use Rattle.hard_simulation.proofs.Effects as effects
use Rattle.hard_simulation.proofs.Effects.{on_master, in_source, IsReady}

-- ---- actions that are done on each side

-- where the source assigns a word, a side does too, the same where it is known; or it faults, and is hurt
data Gives (sides : Sides) (side : Side) (word : ℕ) (known : Type 0) (action : Action) : Type 0 where
  GivesWord : (own : ℕ) → action ≡ Assign own → (known → own ≡ word) → Gives sides side word known action
  GivesFault : (cause : Cause) → action ≡ Fault cause → IsHurt sides → Gives sides side word known action

gives : (sides : Sides) (side : Side) (l : LayoutParts) (callees : List Callee) (file registers : List (Option ℕ)) (inst : Inst) (word : ℕ)
    → is_doubled inst ≡ true
    → action_of l callees registers inst ≡ Assign word → On sides side (Agree file registers)
    → Gives sides side word (Agree file registers) (action_of l callees file (unflagged inst))
gives sides side l callees file registers inst word doubled assigns on = by_action (can-be (action_of l callees file (unflagged inst)))
  where
    defined : IsDefined (action_of l callees registers inst)
    defined = subst (λ (action : Action). IsDefined action) (sym assigns) tt

    known : Agree file registers → action_of l callees file (unflagged inst) ≡ Assign word
    known agree = actions-same l file registers agree callees (unflagged inst) ∙ unflagged-action l callees registers inst defined ∙ assigns

    by_action : CanBe (action_of l callees file (unflagged inst))
        → Gives sides side word (Agree file registers) (action_of l callees file (unflagged inst))
    by_action (Done is) =
        let own = doubled-assigns l callees file (unflagged inst) (unflagged-doubled inst doubled) is in
        GivesWord own.0 own.1 (λ agree. same own.0 own.1 (known agree))
      where
        same : (own : ℕ) → {action : Action} → action ≡ Assign own → action ≡ Assign word → own ≡ word
        same own e f = let both : Assign own ≡ Assign word = sym e ∙ f in cc
    by_action (Faulty cause e) = GivesFault cause e (hurt-if sides side _ on (λ agree. never (known agree) e))
      where
        never : {action : Action} → action ≡ Assign word → action ≡ Fault cause → ⊥
        never f g = let both : Assign word ≡ Fault cause = sym f ∙ g in cc

-- an operand more is done
more-done : (operand : Ty × Val) (done operands : List (Ty × Val)) → done ++ operand ∷ operands ≡ (done ++ operand ∷ []) ++ operands
more-done operand done operands = sym (append_assoc done (operand ∷ []) operands)

get-behind : {A : Type 0} (xs : List A) (x : A) (ys : List A) → slice_get (xs ++ x ∷ ys) (length xs) ≡ Some x
get-behind [] x ys = refl
get-behind (y ∷ xs) x ys = get-behind xs x ys

module _ (m : ModuleParts) (h : HardParts) (image : IsImage m h) (accepted : IsAccepted m) (arguments : List ℕ) (s : SourceState)
    (threads : List (Thread Frame)) (turns : List ℕ)
    (facts : Facts m h arguments s threads turns) (t : ℕ) (a : CallStack SourceFrame) (b : CallStack Frame) (sides : Sides) (unhurt : IsHurt sides → ⊥)
    (stack : IsStack m h sides a b)
    (at : slice_get s.process.threads t ≡ Some (Running a)) (hard_at : slice_get threads t ≡ Some (Running b))
    (defined : (cause : Cause) → (source.step m s t).1 ≡ Undefined cause → ⊥) where
  abbrev now : State
  now = machine_of s threads turns

  -- ---- what is known of the source

  found : (inst : Inst) (behind : List Inst) → source_code m a.frame ≡ inst ∷ behind → source_state.inst_at m a.frame ≡ Some inst
  found inst behind left = get-drop (source_state.code_at (source_state.blocks_at m.funcs a.frame.function) a.frame.block) a.frame.index inst behind
      left

  steps : (inst : Inst) (behind : List Inst) → source_code m a.frame ≡ inst ∷ behind
      → source.step m s t ≡ source.settled s (acted (source.frames m) s.process t (destination inst) a
      (action_of (layout_of m) (callees_of m) a.frame.registers inst))
  steps inst behind left = rw (facts.going, at, found inst behind left) refl

  not-faulty : (inst : Inst) (behind : List Inst) (cause : Cause) → source_code m a.frame ≡ inst ∷ behind
      → action_of (layout_of m) (callees_of m) a.frame.registers inst ≡ Fault cause → ⊥
  not-faulty inst behind cause left e =
      let stays : source.settled s (acted (source.frames m) s.process t (destination inst) a
      (action_of (layout_of m) (callees_of m) a.frame.registers inst)) ≡ (s, Undefined cause) = rw e refl in
      defined cause (ap (λ (p : SourceState × Step). p.1) (steps inst behind left ∙ stays))

  somewhere : source_code m a.frame ≡ [] → ⊥
  somewhere left =
      let none : source_state.inst_at m a.frame ≡ None = get-drop-none
      (source_state.code_at (source_state.blocks_at m.funcs a.frame.function) a.frame.block) a.frame.index left in
      let stays : source.step m s t ≡ (s, Undefined Unreachable) = rw (facts.going, at, none) refl in
      defined Unreachable (ap (λ (p : SourceState × Step). p.1) stays)

  there : slice_get (source_runs.source m arguments turns).state.process.threads t ≡ Some (Running a)
  there = ap (λ (now : SourceState). slice_get now.process.threads t) facts.state ∙ at

  placed : IsPlaced m a.frame.function a.frame.block a.frame.index a.frame.registers
  placed = (source-sound m arguments turns accepted t (Running a) there).0

  suited : (inst : Inst) (behind : List Inst) → source_code m a.frame ≡ inst ∷ behind
      → IsSuited m inst (action_of (layout_of m) (callees_of m) a.frame.registers inst)
  suited inst behind left =
      let blocks : source_state.blocks_at m.funcs a.frame.function ≡ placed.f.blocks = ap (λ (o : Option FuncParts). option_map_or
      (λ (f : FuncParts). f.blocks) o []) placed.stands in
      let here = in-block placed.f.blocks a.frame.block a.frame.index inst
      (ap (λ (blocks : List Block). slice_get (source_state.code_at blocks a.frame.block) a.frame.index) (sym blocks) ∙ found inst behind left) in
      action-suits m (layout_of m) a.frame.registers inst accepted
      (inst-calls m a.frame.function a.frame.block a.frame.index placed.f here.block inst accepted placed.stands here.there here.at)

  has-word : (inst : Inst) (behind : List Inst) (k : ℕ) (ty : Ty) (reg : Loc) → source_code m a.frame ≡ inst ∷ behind
      → slice_get (checked inst) k ≡ Some (ty, values.Reg reg)
      → is_some (get a.frame.registers reg.0) ≡ true
  has-word inst behind k ty reg left e =
      let read = checked-reads inst k ty reg e in
      (reads-next m arguments turns t a inst accepted there (found inst behind left)).operands read.0 reg read.1

  -- ---- turns

  -- the instruction at the place of the frame
  by-head : (inst : HInst) (rest : List HInst) → hard_code h b.frame ≡ inst ∷ rest → Holds m h arguments (hard.stepped h now t b inst)
      → Holds m h arguments (hard.fetched h now t b (hard_text.inst_at h b.frame))
  by-head inst rest e is = rw (get-drop (hard_text.list_at (hard_text.blocks_at h b.frame.function) b.frame.block) b.frame.index inst rest e) is

  -- the frame has moved on, with these registers
  goes-on : (frame : Frame) → frame.function ≡ b.frame.function → frame.block ≡ b.frame.block → frame.mark ≡ b.frame.mark
      → Stands m sides (source_code m a.frame) a.frame.registers (hard_code h frame) frame.masters frame.shadows
      → Holds m h arguments (hard.moved now t b frame)
  goes-on frame e f g point = silent m h arguments s threads turns facts t a b sides unhurt stack at hard_at frame (record {
    function = e ∙ stack.frame.function;
    block = f ∙ stack.frame.block;
    mark = g ∙ stack.frame.mark;
    point = point;
  })

  passes-on : Stands m sides (source_code m a.frame) a.frame.registers (hard_code h (hard_frame.passed b.frame)) b.frame.masters b.frame.shadows
      → Holds m h arguments (hard.moved now t b (hard_frame.passed b.frame))
  passes-on point = goes-on (hard_frame.passed b.frame) refl refl refl point

  behind-head : (inst : HInst) (rest : List HInst) → hard_code h b.frame ≡ inst ∷ rest → hard_code h (hard_frame.passed b.frame) ≡ rest
  behind-head inst rest e = drop-suc (hard_text.list_at (hard_text.blocks_at h b.frame.function) b.frame.block) b.frame.index inst rest e

  failing : IsHurt sides → Holds m h arguments (hard.failed h now t b.frame)
  failing hurt = fails m h arguments s threads turns facts t a b sides unhurt stack at hard_at hurt

  trapping : IsHurt sides → Holds m h arguments (hard.trapped h now t b.frame)
  trapping hurt = traps m h arguments s threads turns facts t a b sides unhurt stack at hard_at hurt

  -- ---- an instruction that is done on each side

  action-is : (side : Side) (inst : Inst) → hard_frame.action_on h side b.frame inst ≡ action_of (layout_of m) (callees_of m)
      (hard_frame.file side b.frame) inst
  action-is side inst = rw (heads-layout m h image, heads-callees m h image) refl

  master-at : (inst : Inst) (behind : List Inst) (rest : List HInst) → source_code m a.frame ≡ inst ∷ behind → is_doubled inst ≡ true
      → hard_code h b.frame ≡ Do M (unflagged inst) false ∷ Do S (unflagged inst) true ∷ rest → Image behind rest
      → On sides M (Agree b.frame.masters a.frame.registers) → On sides S (Agree b.frame.shadows a.frame.registers)
      → Holds m h arguments (hard.stepped h now t b (Do M (unflagged inst) false))
  master-at inst behind rest left doubled code rest_image masters shadows =
      by_source (can-be (action_of (layout_of m) (callees_of m) a.frame.registers inst))
    where
      by_word : (word : ℕ) (dst : Loc) → destination inst ≡ Some dst → action_of (layout_of m) (callees_of m) a.frame.registers inst ≡ Assign word
          → Gives sides M word (Agree b.frame.masters a.frame.registers) (action_of (layout_of m) (callees_of m) b.frame.masters (unflagged inst))
          → Holds m h arguments (hard.stepped h now t b (Do M (unflagged inst) false))
      by_word word dst to assigns (GivesFault cause e hurt) = rw (action-is M (unflagged inst), e) (trapping hurt)
      by_word word dst to assigns (GivesWord own e known) =
          rw (action-is M (unflagged inst), e, unflagged-destination inst, to) (goes-on (hard_frame.resulted (Some (M, dst)) own b.frame) refl refl refl
          (Doubling inst behind rest dst word left (behind-head _ _ code) rest_image doubled to assigns
          (on-map sides M _ _ (λ (agree : Agree b.frame.masters a.frame.registers). subst
          (λ (n : ℕ). Agree (put b.frame.masters dst.0 n) (put a.frame.registers dst.0 word)) (sym (known agree))
          (put-agrees b.frame.masters a.frame.registers dst.0 word agree)) masters)
          shadows))

      by_source : CanBe (action_of (layout_of m) (callees_of m) a.frame.registers inst)
          → Holds m h arguments (hard.stepped h now t b (Do M (unflagged inst) false))
      by_source (Faulty cause e) = absurd (not-faulty inst behind cause left e)
      by_source (Done is) =
          let word = doubled-assigns (layout_of m) (callees_of m) a.frame.registers inst doubled is in
          let dst = doubled-destination inst doubled in
          by_word word.0 dst.0 dst.1 word.1 (gives sides M (layout_of m) (callees_of m) b.frame.masters a.frame.registers inst word.0 doubled word.1
          masters)

  shadow-at : (inst : Inst) (behind : List Inst) (rest : List HInst) (dst : Loc) (word : ℕ) → source_code m a.frame ≡ inst ∷ behind
      → hard_code h b.frame ≡ Do S (unflagged inst) true ∷ rest
      → Image behind rest → is_doubled inst ≡ true → destination inst ≡ Some dst
      → action_of (layout_of m) (callees_of m) a.frame.registers inst ≡ Assign word
      → On sides M (Agree b.frame.masters (put a.frame.registers dst.0 word)) → On sides S (Agree b.frame.shadows a.frame.registers)
      → Holds m h arguments (hard.stepped h now t b (Do S (unflagged inst) true))
  shadow-at inst behind rest dst word left code rest_image doubled to assigns masters shadows =
      by_word (gives sides S (layout_of m) (callees_of m) b.frame.shadows a.frame.registers inst word doubled assigns shadows)
    where
      by_word : Gives sides S word (Agree b.frame.shadows a.frame.registers) (action_of (layout_of m) (callees_of m) b.frame.shadows (unflagged inst))
          → Holds m h arguments (hard.stepped h now t b (Do S (unflagged inst) true))
      by_word (GivesFault cause e hurt) = rw (action-is S (unflagged inst), e) (trapping hurt)
      by_word (GivesWord own e known) =
          rw (action-is S (unflagged inst), e, unflagged-destination inst, to)
          (effects.moves m h image arguments s threads turns facts t a b sides unhurt stack at hard_at
          (in_frame a (source.resulted (Some dst) word a.frame)) (in_frame b (hard_frame.resulted (Some (S, dst)) own b.frame))
          (steps inst behind left ∙ rw (assigns, to) refl)
          (record {
            mark = stack.mark;
            callers = stack.callers;
            frame = record {
              function = stack.frame.function;
              block = stack.frame.block;
              mark = stack.frame.mark;
              point = At (rw (behind-head _ _ code, drop-suc _ a.frame.index inst behind left) rest_image) masters
                  (on-map sides S _ _ (λ (agree : Agree b.frame.shadows a.frame.registers). subst
                  (λ (n : ℕ). Agree (put b.frame.shadows dst.0 n) (put a.frame.registers dst.0 word)) (sym (known agree))
                  (put-agrees b.frame.shadows a.frame.registers dst.0 word agree)) shadows);
            };
          }))

  -- ---- an instruction that is done once

  single-at : (inst : Inst) (behind : List Inst) (rest : List HInst) → source_code m a.frame ≡ inst ∷ behind → is_doubled inst ≡ false
      → is_phi inst ≡ false
      → hard_code h b.frame ≡ Do M inst true ∷ (copies (single_result inst) ++ rest) → Image behind rest
      → AreSame b.frame.masters a.frame.registers (checked inst)
      → On sides M (Agree b.frame.masters a.frame.registers) → On sides S (Agree b.frame.shadows a.frame.registers)
      → Holds m h arguments (hard.stepped h now t b (Do M inst true))
  single-at inst behind rest left single plain code rest_image same masters shadows =
      let to : destination inst ≡ in_source (single_result inst) = single-destination inst single plain in
      let action : hard_frame.action_on h M b.frame inst ≡ action_of (layout_of m) (callees_of m) a.frame.registers inst = action-is M inst
      ∙ acts-alike (layout_of m) b.frame.masters a.frame.registers (callees_of m) inst single same in
      rw (action, master-takes (destination inst) (single_result inst) to)
      (effects.suited-kept m h image arguments s threads turns facts t a b sides unhurt stack at hard_at inst (single_result inst) ready to
      (λ label jumps. lands m h image accepted sides a.frame b.frame ready.function ready.block ready.mark ready.masters ready.shadows inst label placed
      (found inst behind left) jumps)
      (action_of (layout_of m) (callees_of m) a.frame.registers inst) (suited inst behind left)
      (steps inst behind left ∙ ap (λ (dst : Option Loc). source.settled s (acted (source.frames m) s.process t dst a
      (action_of (layout_of m) (callees_of m) a.frame.registers inst))) to) defined)
    where
      master-takes : (dst : Option Loc) (result : Option (Ty × Loc)) → dst ≡ in_source result
          → option_map (λ (at : Loc). (M, at)) dst ≡ on_master result
      master-takes dst None e = rw e refl
      master-takes dst (Some reg) e = rw e refl

      ready : IsReady m h sides a.frame b.frame inst (single_result inst)
      ready = record {
        function = stack.frame.function;
        block = stack.frame.block;
        mark = stack.frame.mark;
        behind = behind;
        left = left;
        rest = rest;
        code = code;
        image = rest_image;
        masters = masters;
        shadows = shadows;
      }

  -- all is checked
  doing : (inst : Inst) (behind : List Inst) (rest : List HInst) → source_code m a.frame ≡ inst ∷ behind → hard_code h b.frame ≡ flow inst ++ rest
      → Image behind rest
      → AreSame b.frame.masters a.frame.registers (checked inst) → On sides M (Agree b.frame.masters a.frame.registers)
      → On sides S (Agree b.frame.shadows a.frame.registers)
      → Holds m h arguments (hard.fetched h now t b (hard_text.inst_at h b.frame))
  doing inst behind rest left code rest_image same masters shadows = by_phi (is_phi inst) refl
    where
      by_kind : is_phi inst ≡ false → (doubled : Bool) → is_doubled inst ≡ doubled
          → Holds m h arguments (hard.fetched h now t b (hard_text.inst_at h b.frame))
      by_kind plain true e =
          let both = code ∙ ap (λ (list : List HInst). list ++ rest) (flow-doubled inst e) in
          by-head (Do M (unflagged inst) false) (Do S (unflagged inst) true ∷ rest) both
          (master-at inst behind rest left e both rest_image masters shadows)
      by_kind plain false e =
          let one = code ∙ ap (λ (list : List HInst). list ++ rest) (flow-single inst e plain) in
          by-head (Do M inst true) (copies (single_result inst) ++ rest) one
          (single-at inst behind rest left e plain one rest_image same masters shadows)

      by_phi : (phi : Bool) → is_phi inst ≡ phi → Holds m h arguments (hard.fetched h now t b (hard_text.inst_at h b.frame))
      by_phi true e = absurd (not-faulty inst behind Unreachable left (phi-faults (layout_of m) (callees_of m) a.frame.registers inst e))
      by_phi false e = by_kind e (is_doubled inst) refl

  -- ---- checks

  -- a register is checked
  check-at : (inst : Inst) (behind : List Inst) (done operands : List (Ty × Val)) (ty : Ty) (reg : Loc) (rest : List HInst)
      → source_code m a.frame ≡ inst ∷ behind
      → hard_code h b.frame ≡ Chk Always ty reg ∷ checks_onto operands (flow inst ++ rest)
      → checked inst ≡ (done ++ (ty, values.Reg reg) ∷ []) ++ operands → Image behind rest
      → AreSame b.frame.masters a.frame.registers done → On sides M (Agree b.frame.masters a.frame.registers)
      → On sides S (Agree b.frame.shadows a.frame.registers)
      → is_some (get a.frame.registers reg.0) ≡ true → Holds m h arguments (hard.stepped h now t b (Chk Always ty reg))
  check-at inst behind done operands ty reg rest left code all rest_image same masters shadows word = by_words (get b.frame.masters reg.0)
      (get b.frame.shadows reg.0) refl refl
    where
      no-word : (file : List (Option ℕ)) → get file reg.0 ≡ None → Agree file a.frame.registers → ⊥
      no-word file e agree = let none : is_some (get file reg.0) ≡ true = ap is_some (agree.same reg.0)
          ∙ word in let both : false ≡ true = sym (ap is_some e) ∙ none in cc

      by_test : (x y : ℕ) → get b.frame.masters reg.0 ≡ Some x → get b.frame.shadows reg.0 ≡ Some y → (equal : Bool) → (x == y) ≡ equal
          → Holds m h arguments (hard.agreed h now t b equal)
      by_test x y e f true k =
          let word_same : x ≡ y = eqb-true x y k in
          let master : get b.frame.masters reg.0 ≡ get a.frame.registers reg.0 =
          either-on sides (get b.frame.masters reg.0 ≡ get a.frame.registers reg.0) (get b.frame.shadows reg.0 ≡ get a.frame.registers reg.0)
          (on-map sides M _ _ (λ (agree : Agree b.frame.masters a.frame.registers). agree.same reg.0) masters)
          (on-map sides S _ _ (λ (agree : Agree b.frame.shadows a.frame.registers). agree.same reg.0) shadows)
          (λ shadow. e ∙ ap Some word_same ∙ sym f ∙ shadow) in
          passes-on (Checking inst behind [] (done ++ (ty, values.Reg reg) ∷ []) operands rest left (behind-head _ _ code) all rest_image
          (same-more b.frame.masters a.frame.registers done (ty, values.Reg reg) same master) masters shadows)
      by_test x y e f false k = failing (hurt-both sides _ _ masters shadows
          (λ (p : Agree b.frame.masters a.frame.registers) (q : Agree b.frame.shadows a.frame.registers).
          let both : Some x ≡ Some y = sym e ∙ p.same reg.0 ∙ sym (q.same reg.0) ∙ f in let equal : x ≡ y = cc in eqb-false x y k equal))

      by_words : (x y : Option ℕ) → get b.frame.masters reg.0 ≡ x → get b.frame.shadows reg.0 ≡ y → Holds m h arguments (hard.compared h now t b x y)
      by_words None y e f = trapping (hurt-if sides M _ masters
          (λ (agree : Agree b.frame.masters a.frame.registers). no-word b.frame.masters e agree))
      by_words (Some x) None e f = trapping (hurt-if sides S _ shadows
          (λ (agree : Agree b.frame.shadows a.frame.registers). no-word b.frame.shadows f agree))
      by_words (Some x) (Some y) e f = by_test x y e f (x == y) refl

  -- the checks that are left, one by one
  checks-at : (inst : Inst) (behind : List Inst) (done operands : List (Ty × Val)) (rest : List HInst) → source_code m a.frame ≡ inst ∷ behind
      → hard_code h b.frame ≡ checks_onto operands (flow inst ++ rest) → checked inst ≡ done ++ operands → Image behind rest
      → AreSame b.frame.masters a.frame.registers done → On sides M (Agree b.frame.masters a.frame.registers)
      → On sides S (Agree b.frame.shadows a.frame.registers)
      → Holds m h arguments (hard.fetched h now t b (hard_text.inst_at h b.frame))
  checks-at inst behind done [] rest left code all rest_image same masters shadows =
      doing inst behind rest left code rest_image (subst (λ (operands : List (Ty × Val)). AreSame b.frame.masters a.frame.registers operands)
      (sym (all ∙ append-nil done)) same) masters shadows
  checks-at inst behind done ((ty, values.Reg reg) ∷ operands) rest left code all rest_image same masters shadows =
      by-head (Chk Always ty reg) (checks_onto operands (flow inst ++ rest)) code
      (check-at inst behind done operands ty reg rest left code (all ∙ more-done (ty, values.Reg reg) done operands) rest_image same masters shadows
      (has-word inst behind (length done) ty reg left (ap (λ (list : List (Ty × Val)). slice_get list (length done)) all
      ∙ get-behind done (ty, values.Reg reg) operands)))
  checks-at inst behind done ((ty, values.Int n) ∷ operands) rest left code all rest_image same masters shadows =
      checks-at inst behind (done ++ (ty, values.Int n) ∷ []) operands rest left code (all ∙ more-done (ty, values.Int n) done operands) rest_image
      (same-more b.frame.masters a.frame.registers done (ty, values.Int n) same tt) masters shadows
  checks-at inst behind done ((ty, values.Null) ∷ operands) rest left code all rest_image same masters shadows =
      checks-at inst behind (done ++ (ty, values.Null) ∷ []) operands rest left code (all ∙ more-done (ty, values.Null) done operands) rest_image
      (same-more b.frame.masters a.frame.registers done (ty, values.Null) same tt) masters shadows
  checks-at inst behind done ((ty, values.Global sym) ∷ operands) rest left code all rest_image same masters shadows =
      checks-at inst behind (done ++ (ty, values.Global sym) ∷ []) operands rest left code (all ∙ more-done (ty, values.Global sym) done operands)
      rest_image (same-more b.frame.masters a.frame.registers done (ty, values.Global sym) same tt) masters shadows
  checks-at inst behind done ((ty, values.Gep gep) ∷ operands) rest left code all rest_image same masters shadows =
      checks-at inst behind (done ++ (ty, values.Gep gep) ∷ []) operands rest left code (all ∙ more-done (ty, values.Gep gep) done operands)
      rest_image (same-more b.frame.masters a.frame.registers done (ty, values.Gep gep) same tt) masters shadows

  -- ticks, and then the checks
  ticks-at : (inst : Inst) (behind : List Inst) (ticks : List ℕ) (done operands : List (Ty × Val)) (rest : List HInst)
      → source_code m a.frame ≡ inst ∷ behind
      → hard_code h b.frame ≡ ticks_onto ticks (checks_onto operands (flow inst ++ rest)) → checked inst ≡ done ++ operands → Image behind rest
      → AreSame b.frame.masters a.frame.registers done → On sides M (Agree b.frame.masters a.frame.registers)
      → On sides S (Agree b.frame.shadows a.frame.registers)
      → Holds m h arguments (hard.fetched h now t b (hard_text.inst_at h b.frame))
  ticks-at inst behind [] done operands rest left code all rest_image same masters shadows = checks-at inst behind done operands rest left code all
      rest_image same masters shadows
  ticks-at inst behind (n ∷ ticks) done operands rest left code all rest_image same masters shadows =
      by-head (Tick n) (ticks_onto ticks (checks_onto operands (flow inst ++ rest))) code
      (passes-on (Checking inst behind ticks done operands rest left (behind-head _ _ code) all rest_image same masters shadows))

  -- ---- copies

  copy-at : (ty : Ty) (reg : Loc) (regs : List (Ty × Loc)) (rest : List HInst) → hard_code h b.frame ≡ Mov ty reg ∷ copies_onto regs rest
      → Image (source_code m a.frame) rest
      → AreFresh ((ty, reg) ∷ regs) b.frame.masters a.frame.registers → On sides M (Agree b.frame.masters a.frame.registers)
      → On sides S (AgreeBut ((ty, reg) ∷ regs) b.frame.shadows a.frame.registers) → Holds m h arguments (hard.stepped h now t b (Mov ty reg))
  copy-at ty reg regs rest code rest_image fresh masters shadows = by_word (get b.frame.masters reg.0) refl
    where
      master : get b.frame.masters reg.0 ≡ get a.frame.registers reg.0
      master = fresh.same reg.0 (first-among (ty, reg) regs)

      by_word : (x : Option ℕ) → get b.frame.masters reg.0 ≡ x → Holds m h arguments (hard.copied h now t b reg x)
      by_word None e = let none : false ≡ true = sym (ap is_some (sym master ∙ e)) ∙ fresh.given reg.0 (first-among (ty, reg) regs) in absurd cc
      by_word (Some n) e = goes-on (hard_frame.resulted (Some (S, reg)) n b.frame) refl refl refl
          (Copying regs rest (behind-head _ _ code) rest_image (fresh-rest (ty, reg) regs b.frame.masters a.frame.registers fresh) masters
          (on-map sides S _ _ (λ (but : AgreeBut ((ty, reg) ∷ regs) b.frame.shadows a.frame.registers). copied-one (ty, reg) regs b.frame.shadows
          a.frame.registers n (sym master ∙ e) but) shadows))

  -- ---- points

  image-at : {left : List Inst} {code : List HInst} → Image left code → source_code m a.frame ≡ left → hard_code h b.frame ≡ code
      → On sides M (Agree b.frame.masters a.frame.registers) → On sides S (Agree b.frame.shadows a.frame.registers)
      → Holds m h arguments (hard.fetched h now t b (hard_text.inst_at h b.frame))
  image-at (Over none over) left code masters shadows = absurd (somewhere (left ∙ none))
  image-at (MarkedImage rest marks rest_image) left code masters shadows =
      by-head Cut (Begin ∷ rest) (code ∙ marks) (passes-on
      (Marked rest (behind-head _ _ (code ∙ marks)) (subst (λ (insts : List Inst). Image insts rest) (sym left) rest_image) masters shadows))
  image-at (Phi phi behind first is rest_image) left code masters shadows =
      absurd (not-faulty phi behind Unreachable (left ∙ first) (phi-faults (layout_of m) (callees_of m) a.frame.registers phi is))
  image-at (Next inst behind ticks rest first plain list rest_image) left code masters shadows =
      ticks-at inst behind ticks [] (checked inst) rest (left ∙ first) (code ∙ list) refl rest_image tt masters shadows

  copying-at : (regs : List (Ty × Loc)) (rest : List HInst) → hard_code h b.frame ≡ copies_onto regs rest → Image (source_code m a.frame) rest
      → AreFresh regs b.frame.masters a.frame.registers → On sides M (Agree b.frame.masters a.frame.registers)
      → On sides S (AgreeBut regs b.frame.shadows a.frame.registers) → Holds m h arguments (hard.fetched h now t b (hard_text.inst_at h b.frame))
  copying-at [] rest code rest_image fresh masters shadows =
      image-at rest_image refl code masters (on-map sides S _ _
      (λ (but : AgreeBut [] b.frame.shadows a.frame.registers). but-none b.frame.shadows a.frame.registers but) shadows)
  copying-at ((ty, reg) ∷ regs) rest code rest_image fresh masters shadows =
      by-head (Mov ty reg) (copies_onto regs rest) code (copy-at ty reg regs rest code rest_image fresh masters shadows)

  -- the next instruction of a thread that runs
  pub turn-at : Stands m sides (source_code m a.frame) a.frame.registers (hard_code h b.frame) b.frame.masters b.frame.shadows
      → Holds m h arguments (hard.fetched h now t b (hard_text.inst_at h b.frame))
  turn-at (Nowhere none) = absurd (somewhere none)
  turn-at (At rest_image masters shadows) = image-at rest_image refl refl masters shadows
  turn-at (Marked rest code rest_image masters shadows) = by-head Begin rest code
      (passes-on (At (subst (λ (code : List HInst). Image (source_code m a.frame) code) (sym (behind-head Begin rest code)) rest_image) masters
      shadows))
  turn-at (Checking inst behind ticks done operands rest left code all rest_image same masters shadows) = ticks-at inst behind ticks done operands
      rest left code all rest_image same masters shadows
  turn-at (Doubling inst behind rest dst word left code rest_image doubled to assigns masters shadows) =
      by-head (Do S (unflagged inst) true) rest code (shadow-at inst behind rest dst word left code rest_image doubled to assigns masters shadows)
  turn-at (Copying regs rest code rest_image fresh masters shadows) = copying-at regs rest code rest_image fresh masters shadows
