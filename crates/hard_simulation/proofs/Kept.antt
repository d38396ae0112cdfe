-- What a turn keeps: one lemma for each effect that a turn has on the whole machine. It is all that is known of a machine's mode: so far
-- every thread is outside a transaction.
--
-- The hardened state is a function of the source state that the turns have come to, so that memory, world and outputs are equal by
-- definition.
use Rattle.std.proofs.Common.{ℕ, ◌≡◌, ◌∙◌, true, false, List, [], ◌∷◌, ◌++◌, Some, None, slice_get, slice_set, refl, ap, sym, subst}
use Rattle.ir_core.specs.Module.{ModuleParts}
use Rattle.inst_meaning.specs.declared.actions.Cause.{Cause}
use Rattle.process.specs.declared.state.Step.{Step}
use Rattle.process.specs.declared.state.Step.TheVariants.{Went, Undefined, Ended as EndsProgram}
use Rattle.src_meaning.specs.State.{State as SourceState}
use Rattle.src_meaning.specs.Step.{step}
use Rattle.src_meaning.specs.Runs.{source}
use Rattle.hard_ir.specs.Hardened.{HardParts}
use Rattle.hard_frames.specs.declared.outcome.Stop.TheVariants.{End}
use Rattle.hard_frames.specs.declared.state.Frame.{Frame}
use Rattle.process.specs.declared.state.CallStack.{CallStack}
use Rattle.process.specs.declared.state.Thread.{Thread}
use Rattle.process.specs.declared.state.Thread.TheVariants.{Running}
use Rattle.hard_machine.specs.State.{State}
use Rattle.hard_machine.specs.Step.{retired, stopped, failed, trapped, moved}
use Rattle.hard_simulation.specs.Meaning.{AllWent, code_of, IsUndefinedOn}
use Rattle.hard_simulation.proofs.Sides.{Sides, IsHurt}
use Rattle.process_laws.proofs.Likeness.{other-moved}
use Rattle.src_meaning.specs.declared.state.Frame.{Frame as SourceFrame}
use Rattle.hard_simulation.proofs.Points.{IsFrame, alike, IsStack, AreThreads}
use Rattle.hard_simulation.proofs.Turns.{state-more, answers-more, went-more, ended-more, code-went, code-ended, undefined-now, undefined-more}

-- the machine that stands for a source state, with these threads, after these turns
abbrev pub machine_of : SourceState → List (Thread Frame) → List ℕ → State
machine_of s threads turns = record { process = record { memory = s.process.memory; threads = threads; world = s.process.world }; turns = turns; stop = None }

-- the source has come there by these turns, and its threads are those of the machine
pub record Facts (m : ModuleParts) (h : HardParts) (arguments : List ℕ) (s : SourceState) (threads : List (Thread Frame)) (turns : List ℕ) : Type 0 where
  pub state : (source m arguments turns).state ≡ s
  pub went : AllWent (source m arguments turns).answers
  pub unended : code_of (source m arguments turns).answers ≡ None
  pub going : s.ended ≡ false
  pub each : AreThreads m h s.process.threads threads

-- what holds of a machine: it runs and stands for the source; the program has ended in both; or the source is undefined on its turns
pub data Holds (m : ModuleParts) (h : HardParts) (arguments : List ℕ) (now : State) : Type 0 where
  Runs : (s : SourceState) (threads : List (Thread Frame)) (turns : List ℕ) → now ≡ machine_of s threads turns → Facts m h arguments s threads turns
      → Holds m h arguments now
  Over : (code : ℕ) → now.stop ≡ Some (End code) → AllWent (source m arguments now.turns).answers
      → code_of (source m arguments now.turns).answers ≡ Some code
      → now.process.world.outputs ≡ (source m arguments now.turns).state.process.world.outputs → Holds m h arguments now
  NotDefined : IsUndefinedOn m arguments now.turns → Holds m h arguments now

module _ (m : ModuleParts) (h : HardParts) (arguments : List ℕ) (s : SourceState) (threads : List (Thread Frame)) (turns : List ℕ)
    (facts : Facts m h arguments s threads turns) (t : ℕ) where
  -- nothing has happened
  pub waits : Holds m h arguments (machine_of s threads turns)
  waits = Runs s threads turns refl facts

  -- a step of the source has become a turn
  pub retires : (next : SourceState) (others : List (Thread Frame)) → step m s t ≡ (next, Went) → next.ended ≡ false → AreThreads m h next.process.threads others
      → Holds m h arguments (retired true t (record (machine_of s threads turns)
      { process = record { memory = next.process.memory; threads = others; world = next.process.world } }))
  retires next others e going all = Runs next others (turns ++ t ∷ []) refl (record {
    state = state-more m arguments turns t ∙ ap (λ (now : SourceState). (step m now t).0) facts.state ∙ ap (λ (p : SourceState × Step). p.0) e;
    went = subst (λ (answers : List Step). AllWent answers) (sym (answers-are Went (ap (λ (p : SourceState × Step). p.1) e)))
        (went-more (source m arguments turns).answers facts.went facts.unended);
    unended = ap code_of (answers-are Went (ap (λ (p : SourceState × Step). p.1) e))
        ∙ code-went (source m arguments turns).answers facts.went facts.unended;
    going = going;
    each = all;
  })
    where
      answers-are : (answer : Step) → (step m s t).1 ≡ answer
          → (source m arguments (turns ++ t ∷ [])).answers ≡ (source m arguments turns).answers ++ answer ∷ []
      answers-are answer f = answers-more m arguments turns t
          ∙ ap (λ (last : Step). (source m arguments turns).answers ++ last ∷ []) (ap (λ (now : SourceState). (step m now t).1) facts.state ∙ f)

  -- the source has ended, and so does the machine
  pub ends : (next : SourceState) (code : ℕ) → step m s t ≡ (next, EndsProgram code) → next.process.world ≡ s.process.world
      → Holds m h arguments (retired true t (stopped (machine_of s threads turns) (End code)))
  ends next code e world = Over code refl
      (subst (λ (answers : List Step). AllWent answers) (sym answers-are)
      (ended-more (source m arguments turns).answers code facts.went facts.unended))
      (ap code_of answers-are ∙ code-ended (source m arguments turns).answers code facts.went facts.unended)
      (sym (ap (λ (now : SourceState). now.process.world.outputs)
      (state-more m arguments turns t ∙ ap (λ (now : SourceState). (step m now t).0) facts.state ∙ ap (λ (p : SourceState × Step). p.0) e)
      ∙ ap (λ w. w.outputs) world))
    where
      answers-are : (source m arguments (turns ++ t ∷ [])).answers ≡ (source m arguments turns).answers ++ EndsProgram code ∷ []
      answers-are = answers-more m arguments turns t ∙ ap (λ (last : Step). (source m arguments turns).answers ++ last ∷ [])
          (ap (λ (now : SourceState). (step m now t).1) facts.state ∙ ap (λ (p : SourceState × Step). p.1) e)

  -- the next step of a thread is undefined, on the turns so far and on all that follow
  pub not-defined : (cause : Cause) (now : State) (more : List ℕ) → (step m s t).1 ≡ Undefined cause → now.turns ≡ turns ++ more
      → Holds m h arguments now
  not-defined cause now more e grown =
      let here : IsUndefinedOn m arguments turns = undefined-now m arguments turns t cause facts.went
      (ap (λ (at : SourceState). (step m at t).1) facts.state ∙ e) in
      NotDefined (subst (λ (list : List ℕ). IsUndefinedOn m arguments list) (sym grown) (undefined-more m arguments turns more here))

  module _ (a : CallStack SourceFrame) (b : CallStack Frame) (sides : Sides) (unhurt : IsHurt sides → ⊥) (stack : IsStack m h sides a b)
      (at : slice_get s.process.threads t ≡ Some (Running a)) (hard_at : slice_get threads t ≡ Some (Running b)) where
    -- the thread has gone on by itself
    pub silent : (frame : Frame) → IsFrame m h sides a.frame frame → Holds m h arguments (moved (machine_of s threads turns) t b frame)
    silent frame is = Runs s (slice_set threads t (Running (record b { frame = frame }))) turns refl (record {
      state = facts.state;
      went = facts.went;
      unended = facts.unended;
      going = facts.going;
      each = other-moved (alike m h) s.process.threads threads facts.each t (Running a) (Running a) (Running b)
          (Running (record b { frame = frame })) at hard_at
          (record { index = sides; good = unhurt; stands = record { mark = stack.mark; frame = is; callers = stack.callers } });
    })

    -- a check fails, or an action is undefined, only where a side is hurt
    pub fails : IsHurt sides → Holds m h arguments (failed h (machine_of s threads turns) t b.frame)
    fails hurt = absurd (unhurt hurt)

    pub traps : IsHurt sides → Holds m h arguments (trapped h (machine_of s threads turns) t b.frame)
    traps hurt = absurd (unhurt hurt)
