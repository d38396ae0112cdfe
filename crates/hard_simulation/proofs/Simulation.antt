-- Whole runs: the opening, one dispatch over events, and what a run comes to.
use Rattle.std.proofs.Common.{ℕ, zero, suc, ◌≡◌, ◌∙◌, ◌↔◌, ◌%◌, ◌^◌, true, List, [], ◌∷◌, Option, Some, None, slice_get, slice_set, refl, ap, sym, subst}
use Rattle.std.specs.List.{list_all}
use Rattle.ir_core.proofs.Lengths.{both_true}
use Rattle.ir_core.specs.Module.{ModuleParts}
use Rattle.ir_check.specs.Faults.{IsAccepted}
use Rattle.inst_meaning.specs.declared.actions.Cause.{Cause}
use Rattle.hard_frames.specs.Frames as hard_frame
use Rattle.sched_file.specs.Events.{Happening, TurnOf, AbortOf, UpsetBy}
use Rattle.turn_runs.specs.Runs.{turns_of}
use Rattle.turn_runs.proofs.Grouping.{turns_of-grouped}
use Rattle.process.specs.declared.state.Step.{Step}
use Rattle.process.specs.declared.state.Step.TheVariants.{Went, Waits, Idle, Undefined, Ended as EndsProgram}
use Rattle.process.specs.State.{stack_start, new_thread}
use Rattle.process.specs.Process.{with_thread}
use Rattle.process_laws.proofs.Likeness.{both-moved}
use Rattle.src_meaning.specs.declared.state.Frame.{Frame as SourceFrame}
use Rattle.src_meaning.specs.State as source_state
use Rattle.src_meaning.specs.State.{State as SourceState}
use Rattle.src_meaning.specs.Step as source
use Rattle.src_meaning.specs.Runs as source_runs
use Rattle.src_meaning.specs.Races.{IsGood}
use Rattle.src_laws.proofs.Moves.{main-enters}
use Rattle.hard_ir.specs.Hardened.{HardParts}
use Rattle.hard_frames.specs.declared.outcome.Stop.TheVariants.{End, Bound}
use Rattle.hard_machine.specs.declared.outcome.RunResult.{RunResult}
use Rattle.process.specs.declared.state.Thread.{Thread}
use Rattle.process.specs.declared.state.Thread.TheVariants.{Running, Exiting, Ended}
use Rattle.hard_frames.specs.declared.state.Frame.{Frame}
use Rattle.hard_machine.specs.State.{State}
use Rattle.hard_machine.specs.Step as hard
use Rattle.hard_machine.specs.Runs.{happened, run_from, result_of, run_on, is_no_upset}
use Rattle.hard_simulation.specs.Image.{IsImage}
use Rattle.hard_simulation.specs.Meaning.{IsUpsetFree, AllWent, code_of, IsFailure, Means, IsUndefinedOn, Told, Meant, NotDefined as SourceUndefined}
use Rattle.hard_simulation.proofs.Sides.{Sides, Both, IsHurt}
use Rattle.hard_simulation.proofs.Headed.{heads-layout, heads-main}
use Rattle.hard_simulation.proofs.Points.{alike, IsThreadOn, AreThreadsAt}
use Rattle.hard_simulation.proofs.Entries.{entered-frame}
use Rattle.hard_simulation.proofs.Kept.{machine_of, Facts, Holds, Runs, Over, NotDefined, waits, retires, ends, not-defined}
use Rattle.hard_simulation.proofs.Steps.{turn-at}
use Rattle.hard_simulation.proofs.Turns.{turns-grow, undefined-more, never-undefined}

module _ (m : ModuleParts) (h : HardParts) (image : IsImage m h) (accepted : IsAccepted m) (arguments : List ℕ) where
  -- ---- one turn

  module _ (s : SourceState) (threads : List (Thread Frame)) (turns : List ℕ) (facts : Facts m h arguments s threads turns) where
    abbrev now : State
    now = machine_of s threads turns

    -- a thread ends
    exits : (t n : ℕ) → slice_get s.process.threads t ≡ Some (Exiting n) → slice_get threads t ≡ Some (Exiting n)
        → Holds m h arguments (hard.exited now t n)
    exits zero n at hard_at = ends m h arguments s threads turns facts zero (record s { ended = true }) (n % 2 ^ 32) (rw (facts.going, at) refl) refl
    exits (suc t) n at hard_at = retires m h arguments s threads turns facts (suc t) (record s { process = with_thread s.process (suc t) Ended })
        (slice_set threads (suc t) Ended) (rw (facts.going, at) refl) facts.going
        (both-moved (alike m h) s.process.threads threads facts.each (suc t) (Exiting n) Ended (Exiting n) Ended at hard_at
        (record { index = Both; good = λ hurt. hurt; stands = tt }))

    by-stands : (t : ℕ) (x : Thread SourceFrame) (y : Thread Frame) (sides : Sides) → (IsHurt sides → ⊥) → slice_get s.process.threads t ≡ Some x
        → slice_get threads t ≡ Some y → IsThreadOn m h sides x y
        → ((cause : Cause) → (source.step m s t).1 ≡ Undefined cause → ⊥) → Holds m h arguments (hard.turned h now t (Some y))
    by-stands t (Running a) (Running b) sides unhurt at hard_at is defined = turn-at m h image accepted arguments s threads turns
        facts t a b sides unhurt is at hard_at defined is.frame.point
    by-stands t (Running a) (Exiting k) sides unhurt at hard_at is defined = absurd is
    by-stands t (Running a) Ended sides unhurt at hard_at is defined = absurd is
    by-stands t (Exiting n) (Running b) sides unhurt at hard_at is defined = absurd is
    by-stands t (Exiting n) (Exiting k) sides unhurt at hard_at is defined = rw is
        (exits t n at (hard_at ∙ ap (λ (word : ℕ). Some (Exiting word)) is))
    by-stands t (Exiting n) Ended sides unhurt at hard_at is defined = absurd is
    by-stands t Ended (Running b) sides unhurt at hard_at is defined = absurd is
    by-stands t Ended (Exiting k) sides unhurt at hard_at is defined = absurd is
    by-stands t Ended Ended sides unhurt at hard_at is defined = waits m h arguments s threads turns facts t

    by-thread : (t : ℕ) (x : Option (Thread SourceFrame)) (y : Option (Thread Frame)) → slice_get s.process.threads t ≡ x → slice_get threads t ≡ y → AreThreadsAt m h x y
        → ((cause : Cause) → (source.step m s t).1 ≡ Undefined cause → ⊥) → Holds m h arguments (hard.turned h now t y)
    by-thread t None None at hard_at is defined = waits m h arguments s threads turns facts t
    by-thread t None (Some y) at hard_at is defined = absurd is
    by-thread t (Some x) None at hard_at is defined = absurd is
    by-thread t (Some x) (Some y) at hard_at is defined = by-stands t x y is.index is.good at hard_at is.stands defined

    turn-kept : (t : ℕ) (answer : Step) → (source.step m s t).1 ≡ answer → Holds m h arguments (hard.turn_of h now t)
    turn-kept t (Undefined cause) e = let grown = turns-grow h now (TurnOf (record { 0 = t })) in not-defined m h arguments s threads turns facts t
        cause (hard.turn_of h now t) grown.more e grown.is
    turn-kept t Went e = by-thread t (slice_get s.process.threads t) (slice_get threads t) refl refl (facts.each.each t)
        (λ cause f. let both : Went ≡ Undefined cause = sym e ∙ f in cc)
    turn-kept t Waits e = by-thread t (slice_get s.process.threads t) (slice_get threads t) refl refl (facts.each.each t)
        (λ cause f. let both : Waits ≡ Undefined cause = sym e ∙ f in cc)
    turn-kept t Idle e = by-thread t (slice_get s.process.threads t) (slice_get threads t) refl refl (facts.each.each t)
        (λ cause f. let both : Idle ≡ Undefined cause = sym e ∙ f in cc)
    turn-kept t (EndsProgram code) e = by-thread t (slice_get s.process.threads t) (slice_get threads t) refl refl (facts.each.each t)
        (λ cause f. let both : EndsProgram code ≡ Undefined cause = sym e ∙ f in cc)

  -- ---- events

  over-stays : (before : State) (t code : ℕ) → before.stop ≡ Some (End code) → hard.turn_of h before t ≡ before
  over-stays before t code e = rw e refl

  turn-holds : (before : State) (t : ℕ) → Holds m h arguments before → Holds m h arguments (hard.turn_of h before t)
  turn-holds before t (Runs s threads turns is facts) = rw is (turn-kept s threads turns facts t (source.step m s t).1 refl)
  turn-holds before t (Over code stop went last outputs) = rw (over-stays before t code stop) (Over code stop went last outputs)
  turn-holds before t (NotDefined u) = let grown = turns-grow h before (TurnOf (record { 0 = t })) in NotDefined
      (subst (λ (turns : List ℕ). IsUndefinedOn m arguments turns) (sym grown.is) (undefined-more m arguments before.turns grown.more u))

  event-holds : (before : State) (event : Happening) → is_no_upset event ≡ true → Holds m h arguments before
      → Holds m h arguments (happened h before event)
  event-holds before (TurnOf thread) free holds = turn-holds before thread.0 holds
  event-holds before (AbortOf thread) free holds = holds
  event-holds before (UpsetBy upset) free holds = absurd cc

  run-holds : (before : State) (events : List Happening) → list_all is_no_upset events ≡ true → Holds m h arguments before
      → Holds m h arguments (run_from h before events)
  run-holds before [] free holds = holds
  run-holds before (event ∷ events) free holds =
      let parts = both_true (is_no_upset event) (list_all is_no_upset events) free in
      run-holds (happened h before event) events parts.1 (event-holds before event parts.0 holds)

  -- ---- the opening

  opens : Holds m h arguments (hard.opening h arguments)
  opens = Runs (source.opening m arguments) (new_thread (hard_frame.frames h) 0 (source_state.main_of m) [] ∷ []) []
      (rw (heads-layout m h image, heads-main m h image, image.heads) refl) (record {
        state = refl;
        went = tt;
        unended = refl;
        going = refl;
        each = record { count = refl; each = each };
      })
    where
      each : (t : ℕ) → AreThreadsAt m h (slice_get (new_thread (source.frames m) 0 (source_state.main_of m) [] ∷ []) t)
          (slice_get (new_thread (hard_frame.frames h) 0 (source_state.main_of m) [] ∷ []) t)
      each zero = record {
        index = Both;
        good = λ hurt. hurt;
        stands = record {
          mark = refl;
          frame = entered-frame m h image Both (source_state.main_of m) [] (stack_start 0)
              (main-enters m accepted);
          callers = tt;
        };
      }
      each (suc zero) = tt
      each (suc (suc t)) = tt

  -- ---- what a run comes to

  ended-alone : (n : ℕ) → (Bound ≡ End n) ↔ (None ≡ Some n)
  ended-alone n = (λ e. absurd cc, λ e. absurd cc)

  same-code : (code n : ℕ) → (End code ≡ End n) ↔ (Some code ≡ Some n)
  same-code code n = (λ e. cc, λ e. cc)

  means-of : (r : RunResult) (turns : List ℕ) → turns_of r.turns ≡ turns → AllWent (source_runs.source m arguments turns).answers
      → r.outs ≡ (source_runs.source m arguments turns).state.process.world.outputs
      → ((code : ℕ) → (r.stop ≡ End code) ↔ (code_of (source_runs.source m arguments turns).answers ≡ Some code)) → (IsFailure r.stop → ⊥)
      → Means m arguments r
  means-of r turns e went outputs ends fails = record
      { went = rw e went; outputs = rw e outputs; ends = λ code. rw e (ends code); never_fails = fails }

  told-of : (last : State) → Holds m h arguments last → Told m arguments (result_of last)
  told-of last (Runs s threads turns is facts) =
      rw is (Meant (means-of (result_of (machine_of s threads turns)) turns (turns_of-grouped turns) facts.went
      (sym (ap (λ (at : SourceState). at.process.world.outputs) facts.state)) (λ code. rw facts.unended (ended-alone code)) (λ failed. failed)))
  told-of last (Over code stop went ended outputs) =
      Meant (means-of (result_of last) last.turns (turns_of-grouped last.turns) went outputs (λ n. rw (stop, ended) (same-code code n))
      (λ failed. rw stop at failed))
  told-of last (NotDefined u) = SourceUndefined (subst (λ (turns : List ℕ). IsUndefinedOn m arguments turns) (sym (turns_of-grouped last.turns)) u)

  pub told-runs : (events : List Happening) → IsUpsetFree events → Told m arguments (run_on h arguments events)
  told-runs events free = told-of (run_from h (hard.opening h arguments) events) (run-holds (hard.opening h arguments) events free opens)

  pub meant-runs : (events : List Happening) → IsUpsetFree events → IsGood m arguments → Means m arguments (run_on h arguments events)
  meant-runs events free good = by-told (told-runs events free)
    where
      by-told : Told m arguments (run_on h arguments events) → Means m arguments (run_on h arguments events)
      by-told (Meant means) = means
      by-told (SourceUndefined u) = absurd (never-undefined m arguments (turns_of (run_on h arguments events).turns) good u)
