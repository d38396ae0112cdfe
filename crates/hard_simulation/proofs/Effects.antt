-- An instruction that is done once, on the master's side: whatever its action, it keeps what holds of the machine.
--
-- The action is the same as the source's, which can be done; so one lemma speaks of all actions, and none of an instruction. What an action asks
-- of the two frames is asked here; what it comes to is a law of processes.
use Rattle.std.proofs.Common.{ℕ, ◌≡◌, ◌∙◌, true, List, [], ◌∷◌, ◌++◌, length, Option, Some, None, slice_get, slice_set, refl, ap, sym, subst}
use Rattle.std.specs.Option.{option_map}
use Rattle.ir_core.specs.declared.types.Ty.{Ty}
use Rattle.ir_core.specs.declared.types.Loc.{Loc}
use Rattle.ir_core.specs.declared.values.Side.{Side}
use Rattle.ir_core.specs.declared.values.Side.TheVariants.{M, S}
use Rattle.ir_core.specs.declared.instruction.Inst.{Inst}
use Rattle.ir_core.specs.Module.{ModuleParts}
use Rattle.inst_meaning.specs.declared.actions.Cause.{Cause}
use Rattle.inst_meaning.specs.declared.actions.Cause.TheVariants.{Unreachable}
use Rattle.inst_meaning.specs.declared.actions.Action.{Action}
use Rattle.inst_meaning.specs.declared.actions.Action.TheVariants.{Assign, Reserve, Read, Write, Update, Pass, Jump, Call, Ask, Create, Join, Exit, Return, Fault}
use Rattle.inst_meaning.specs.Action.{destination}
use Rattle.inst_laws.proofs.Agreement.{put-agrees}
use Rattle.inst_laws.specs.Agreement.{Agree}
use Rattle.process.specs.declared.state.CallStack.{CallStack}
use Rattle.process.specs.declared.state.Thread.{Thread}
use Rattle.process.specs.declared.state.Thread.TheVariants.{Running}
use Rattle.process.specs.declared.state.Step.{Step}
use Rattle.process.specs.declared.state.Step.TheVariants.{Went, Undefined}
use Rattle.process.specs.Outcome.{Effect, Goes, outcome_of}
use Rattle.process.specs.Process.{with_born, applied, acted}
use Rattle.process_laws.proofs.Likeness.{AreOutcomes, BothGo, BothWait, BothFault, BothEnd, AreEffects, AreJumps, Asks, effects-threads, both-moved, outcomes-alike, ends-of-threads}
use Rattle.src_meaning.specs.declared.state.Frame.{Frame as SourceFrame}
use Rattle.src_meaning.specs.State as source_state
use Rattle.src_meaning.specs.State.{State as SourceState}
use Rattle.src_meaning.specs.Step as source
use Rattle.src_laws.proofs.Callees.{Enters}
use Rattle.src_laws.proofs.Suits.{HasNoResult, JumpsTo, IsSuited}
use Rattle.hard_ir.specs.declared.instruction.HInst.{HInst}
use Rattle.hard_ir.specs.declared.instruction.HInst.TheVariants.{Do}
use Rattle.hard_ir.specs.Image.{copies}
use Rattle.hard_ir.specs.Hardened.{HardParts}
use Rattle.hard_frames.specs.declared.state.Frame.{Frame}
use Rattle.hard_frames.specs.Frames as hard_frame
use Rattle.hard_machine.specs.State.{State}
use Rattle.hard_machine.specs.Step as hard
use Rattle.hard_simulation.specs.Image.{IsImage, Image}
use Rattle.hard_simulation.proofs.Sides.{Sides, Both, On, IsHurt, on-map}
use Rattle.hard_simulation.proofs.Edges.{IsLanding, Lost, Landed}
use Rattle.hard_simulation.proofs.Files.{one-fresh, one-but}
use Rattle.hard_simulation.proofs.Points.{source_code, hard_code, At, Copying, IsFrame, IsCaller, alike, IsStack, IsThreadOn}
use Rattle.hard_simulation.proofs.Kept.{machine_of, Facts, Holds, waits, retires, ends, traps}
use Rattle.hard_simulation.proofs.Entries.{entered-frame, resumed-frame, drop-suc}

-- the register of the master that takes a result
abbrev pub on_master : Option (Ty × Loc) → Option (Side × Loc)
on_master result = option_map (λ (reg : Ty × Loc). (M, reg.1)) result

abbrev pub in_source : Option (Ty × Loc) → Option Loc
in_source result = option_map (λ (reg : Ty × Loc). reg.1) result

-- the instruction of a frame is about to be done, once; copies of its result follow
pub record IsReady (m : ModuleParts) (h : HardParts) (sides : Sides) (a : SourceFrame) (b : Frame) (inst : Inst) (result : Option (Ty × Loc)) : Type
    0 where
  pub function : b.function ≡ a.function
  pub block : b.block ≡ a.block
  pub mark : b.mark ≡ a.mark
  pub behind : List Inst
  pub left : source_code m a ≡ inst ∷ behind
  pub rest : List HInst
  pub code : hard_code h b ≡ Do M inst true ∷ (copies result ++ rest)
  pub image : Image behind rest
  pub masters : On sides M (Agree b.masters a.registers)
  pub shadows : On sides S (Agree b.shadows a.registers)

module _ (m : ModuleParts) (h : HardParts) (sides : Sides) (a : SourceFrame) (b : Frame) (inst : Inst) where
  -- it is done, with a result or without one
  pub done-frame : (result : Option (Ty × Loc)) (n : ℕ) → IsReady m h sides a b inst result
      → IsFrame m h sides (source.resulted (in_source result) n a) (hard_frame.resulted (on_master result) n b)
  done-frame None n r = record {
    function = r.function;
    block = r.block;
    mark = r.mark;
    point = At (rw (drop-suc _ a.index inst r.behind r.left, drop-suc _ b.index _ r.rest r.code) r.image) r.masters r.shadows;
  }
  done-frame (Some reg) n r = record {
    function = r.function;
    block = r.block;
    mark = r.mark;
    point = Copying (reg ∷ []) r.rest (drop-suc _ b.index _ _ r.code) (rw (drop-suc _ a.index inst r.behind r.left) r.image)
        (one-fresh reg b.masters a.registers n)
        (on-map sides M _ _ (λ (e : Agree b.masters a.registers). put-agrees b.masters a.registers reg.1.0 n e) r.masters)
        (on-map sides S _ _ (λ (e : Agree b.shadows a.registers). one-but reg b.shadows a.registers n e) r.shadows);
  }

  -- it waits for a function that it calls
  pub waiting-frame : (result : Option (Ty × Loc)) → IsReady m h sides a b inst result
      → IsCaller m h sides (source.suspended (in_source result) a) (hard_frame.suspended (on_master result) b)
  waiting-frame result r = record {
    function = r.function;
    block = r.block;
    mark = r.mark;
    result = result;
    waits = refl;
    takes = refl;
    rest = r.rest;
    code = drop-suc _ b.index _ _ r.code;
    image = rw (drop-suc _ a.index inst r.behind r.left) r.image;
    masters = r.masters;
    shadows = r.shadows;
  }

module _ (m : ModuleParts) (h : HardParts) (image : IsImage m h) (arguments : List ℕ) (s : SourceState) (threads : List (Thread Frame)) (turns : List ℕ)
    (facts : Facts m h arguments s threads turns) (t : ℕ) (a : CallStack SourceFrame) (b : CallStack Frame) (sides : Sides) (unhurt : IsHurt sides → ⊥)
    (stack : IsStack m h sides a b)
    (at : slice_get s.process.threads t ≡ Some (Running a)) (hard_at : slice_get threads t ≡ Some (Running b)) where
  abbrev pub now : State
  now = machine_of s threads turns

  -- an effect is that of a step of the source
  pub goes : (ex : Effect SourceFrame) (ey : Effect Frame) → source.step m s t ≡ (record s { process = applied s.process t (Goes ex) }, Went)
      → AreEffects (alike m h) sides ex ey
      → Holds m h arguments (hard.retired true t (record now { process = applied now.process t (Goes ey) }))
  goes ex ey e effects = rw (effects.store, effects.world) (retires m h arguments s threads turns facts t
      (record s { process = applied s.process t (Goes ex) }) (with_born ey.born (slice_set threads t ey.thread)) e facts.going
      (effects-threads (alike m h) s.process.threads threads facts.each t (Running a) (Running b) at hard_at sides unhurt ex ey effects))

  -- the thread has done a step by itself, and nothing else has changed
  pub moves : (next : Thread SourceFrame) (after : Thread Frame)
      → source.step m s t ≡ (record s { process = record s.process { threads = slice_set s.process.threads t next } }, Went) → IsThreadOn m h sides next after
      → Holds m h arguments (hard.retired true t (record now { process = record now.process { threads = slice_set threads t after } }))
  moves next after e is = retires m h arguments s threads turns facts t
      (record s { process = record s.process { threads = slice_set s.process.threads t next } }) (slice_set threads t after) e facts.going
      (both-moved (alike m h) s.process.threads threads facts.each t (Running a) next (Running b) after at hard_at
      (record { index = sides; good = unhurt; stands = is }))

  module _ (inst : Inst) (result : Option (Ty × Loc)) (ready : IsReady m h sides a.frame b.frame inst result) (action : Action)
      (steps : source.step m s t ≡ source.settled s (acted (source.frames m) s.process t (in_source result) a action))
      (defined : (cause : Cause) → (source.step m s t).1 ≡ Undefined cause → ⊥) where
    -- what the action comes to in the source, it comes to in the machine
    by-outcome : AreOutcomes (alike m h) sides (outcome_of (source.frames m) s.process t (in_source result) a action)
        (outcome_of (hard_frame.frames h) now.process t (on_master result) b action)
        → Holds m h arguments (hard.settled h now t b.frame true (acted (hard_frame.frames h) now.process t (on_master result) b action))
    by-outcome (BothGo ex ey e f effects) = rw f (goes ex ey (steps ∙ rw e refl) effects)
    by-outcome (BothWait e f) = rw f (waits m h arguments s threads turns facts t)
    by-outcome (BothFault cause e f) = absurd (defined cause (ap (λ (p : SourceState × Step). p.1) steps ∙ rw e refl))
    by-outcome (BothEnd code e f) = rw f (ends m h arguments s threads turns facts t (record s { ended = true }) code (steps ∙ rw e refl) refl)

    pub acted-kept : Asks (alike m h) (source.frames m) (hard_frame.frames h) sides (in_source result) (on_master result) a.frame b.frame action
        → Holds m h arguments (hard.settled h now t b.frame true (acted (hard_frame.frames h) now.process t (on_master result) b action))
    acted-kept asks = by-outcome (outcomes-alike (alike m h) (source.frames m) (hard_frame.frames h) sides (in_source result) (on_master result) a b
        stack.mark stack.callers s.process threads (ends-of-threads (alike m h) s.process.threads threads facts.each) t action asks)

  -- ---- what actions ask

  module _ (inst : Inst) (result : Option (Ty × Loc)) (ready : IsReady m h sides a.frame b.frame inst result) where
    results : (k : ℕ) → IsFrame m h sides (source.resulted (in_source result) k a.frame) (hard_frame.resulted (on_master result) k b.frame)
    results k = done-frame m h sides a.frame b.frame inst result k ready

    advances : result ≡ None → IsFrame m h sides (source.passed a.frame) (hard_frame.passed b.frame)
    advances none = subst (λ (r : Option (Ty × Loc)). IsFrame m h sides (source.resulted (in_source r) 0 a.frame)
        (hard_frame.resulted (on_master r) 0 b.frame)) none (results 0)

    enters-alike : (on : Sides) (n : ℕ) (words : List ℕ) → Enters m n (length words) → (mark : ℕ)
        → IsFrame m h on (source_state.entry_frame m n words mark) (hard_frame.entry_frame h n words mark)
    enters-alike on n words enters mark = entered-frame m h image on n words mark enters

    -- it goes along an edge
    jump-kept : (label : Loc) → source.step m s t ≡ source.settled s (acted (source.frames m) s.process t (in_source result) a (Jump label))
        → ((cause : Cause) → (source.step m s t).1 ≡ Undefined cause → ⊥)
        → ((frame : SourceFrame) → source.jumped m a.frame label ≡ Some frame → IsLanding m h sides frame (hard_frame.jumped h b.frame label))
        → Holds m h arguments (hard.settled h now t b.frame true (acted (hard_frame.frames h) now.process t (on_master result) b (Jump label)))
    jump-kept label steps defined lands = by_jump (source.jumped m a.frame label) refl
      where
        by_landing : (frame : SourceFrame) → source.jumped m a.frame label ≡ Some frame → IsLanding m h sides frame (hard_frame.jumped h b.frame label)
            → Holds m h arguments (hard.settled h now t b.frame true (acted (hard_frame.frames h) now.process t (on_master result) b (Jump label)))
        by_landing frame e (Lost none hurt) = rw none (traps m h arguments s threads turns facts t a b sides unhurt stack at hard_at hurt)
        by_landing frame e (Landed other some is) = acted-kept inst result ready (Jump label) steps defined
            (subst (λ (o : Option SourceFrame). AreJumps (alike m h) sides o (hard_frame.jumped h b.frame label)) (sym e)
            (subst (λ (o : Option Frame). AreJumps (alike m h) sides (Some frame) o) (sym some) is))

        by_jump : (o : Option SourceFrame) → source.jumped m a.frame label ≡ o
            → Holds m h arguments (hard.settled h now t b.frame true (acted (hard_frame.frames h) now.process t (on_master result) b (Jump label)))
        by_jump None e =
            let stays : source.settled s (acted (source.frames m) s.process t (in_source result) a (Jump label)) ≡ (s, Undefined Unreachable) = rw e refl in
            absurd (defined Unreachable (ap (λ (p : SourceState × Step). p.1) (steps ∙ stays)))
        by_jump (Some frame) e = by_landing frame e (lands frame e)

    no-result : destination inst ≡ in_source result → HasNoResult inst → result ≡ None
    no-result to none = by_result result to
      where
        by_result : (r : Option (Ty × Loc)) → destination inst ≡ in_source r → r ≡ None
        by_result None e = refl
        by_result (Some reg) e = let both : Some reg.1 ≡ None = sym e ∙ none.1 in cc

    -- whatever the action, as long as it suits its instruction
    pub suited-kept : destination inst ≡ in_source result
        → ((label : Loc) → JumpsTo inst label → (frame : SourceFrame) → source.jumped m a.frame label ≡ Some frame
        → IsLanding m h sides frame (hard_frame.jumped h b.frame label))
        → (action : Action) → IsSuited m inst action
        → source.step m s t ≡ source.settled s (acted (source.frames m) s.process t (in_source result) a action)
        → ((cause : Cause) → (source.step m s t).1 ≡ Undefined cause → ⊥)
        → Holds m h arguments (hard.settled h now t b.frame true (acted (hard_frame.frames h) now.process t (on_master result) b action))
    suited-kept to lands (Assign n) suits e defined = acted-kept inst result ready (Assign n) e defined results
    suited-kept to lands (Reserve size) suits e defined = acted-kept inst result ready (Reserve size) e defined results
    suited-kept to lands (Read place atomic) suits e defined = acted-kept inst result ready (Read place atomic) e defined results
    suited-kept to lands (Write place n atomic) suits e defined =
        acted-kept inst result ready (Write place n atomic) e defined (advances (no-result to suits.suits))
    suited-kept to lands (Update place update) suits e defined = acted-kept inst result ready (Update place update) e defined results
    suited-kept to lands Pass suits e defined = acted-kept inst result ready Pass e defined (advances (no-result to suits.suits))
    suited-kept to lands (Jump label) suits e defined = jump-kept label e defined (lands label suits.suits)
    suited-kept to lands (Call n words) suits e defined = acted-kept inst result ready (Call n words) e defined (record {
      entered = enters-alike sides n words suits.suits.1;
      suspended = waiting-frame m h sides a.frame b.frame inst result ready;
    })
    suited-kept to lands (Ask request) suits e defined = acted-kept inst result ready (Ask request) e defined results
    suited-kept to lands (Create address n argument) suits e defined = acted-kept inst result ready (Create address n argument) e defined (record {
      results = results;
      new = Both;
      good = λ hurt. hurt;
      entered = enters-alike Both n (argument ∷ []) suits.suits.1;
    })
    suited-kept to lands (Join other) suits e defined = acted-kept inst result ready (Join other) e defined results
    suited-kept to lands (Exit code) suits e defined = acted-kept inst result ready (Exit code) e defined tt
    suited-kept to lands (Return n) suits e defined = acted-kept inst result ready (Return n) e defined (record {
      mark = ready.mark;
      resumed = λ x y is. resumed-frame m h image sides x y n is;
    })
    suited-kept to lands (Fault cause) suits e defined = acted-kept inst result ready (Fault cause) e defined tt
