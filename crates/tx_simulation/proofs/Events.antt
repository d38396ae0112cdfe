-- What holds is kept by every event, and so by whole runs: by turns, which is the premise here, by aborts and by upsets. What has stopped stays,
-- and so does a run that the theorem doesn't speak of.
use Rattle.std.proofs.Common.{ℕ, ◌≡◌, List, [], ◌∷◌, Option, Some, None, slice_get, refl, sym, subst}
use Rattle.ir_core.specs.Module.{ModuleParts}
use Rattle.ir_check.specs.Faults.{IsAccepted}
use Rattle.src_meaning.specs.State.{State as SourceState}
use Rattle.sched_file.specs.Events.{Happening, TurnOf, AbortOf, UpsetBy}
use Rattle.hard_ir.specs.Hardened.{HardParts}
use Rattle.hard_ir.specs.Images.{IsLooseImage}
use Rattle.hard_frames.specs.declared.outcome.Stop.{Stop}
use Rattle.hard_meaning.specs.State.{Worker, Upset, State, opening}
use Rattle.hard_meaning.specs.Aborts.{Other}
use Rattle.hard_meaning.specs.Turns.{turn_of}
use Rattle.hard_meaning.specs.Runs.{abort_in, happens, unless_stopped, happened, run_from}
use Rattle.tx_simulation.proofs.Facts.{Facts, machine_of}
use Rattle.tx_simulation.proofs.Holds.{Holds, Runs, Over, Broken, aborts}
use Rattle.tx_simulation.proofs.Growing.{stays-broken}
use Rattle.tx_simulation.proofs.Opening.{opens}
use Rattle.tx_simulation.proofs.Strikes.{beside, upset-kept}

-- a turn of any thread keeps what holds while the machine goes on
abbrev pub TurnsKept : ModuleParts → HardParts → List ℕ → Type 0
TurnsKept m h arguments = (s : SourceState) (workers : List Worker) (turns : List ℕ) (upsets : List Upset) → Facts m h arguments s workers turns upsets
    → (t : ℕ) → Holds m h arguments (turn_of h (machine_of s workers turns upsets) t)

module _ (m : ModuleParts) (h : HardParts) (arguments : List ℕ) (turns_kept : TurnsKept m h arguments) where
  module _ (s : SourceState) (workers : List Worker) (turns : List ℕ) (upsets : List Upset) (facts : Facts m h arguments s workers turns upsets) where
    -- an abort that was asked for
    abort-kept : (t : ℕ) (o : Option Worker) → slice_get workers t ≡ o → Holds m h arguments (abort_in (machine_of s workers turns upsets) t o)
    abort-kept t None e = Runs s workers turns upsets refl facts
    abort-kept t (Some w) e =
        let source = beside s.process.threads workers facts.all.count t w e in
        aborts m h arguments s workers turns upsets facts t source.0 source.1 w e Other

    happens-kept : (event : Happening) → Holds m h arguments (happens h (machine_of s workers turns upsets) event)
    happens-kept (TurnOf thread) = turns_kept s workers turns upsets facts thread.0
    happens-kept (AbortOf thread) = abort-kept thread.0 (slice_get workers thread.0) refl
    happens-kept (UpsetBy upset) = upset-kept m h arguments s workers turns upsets facts upset

  pub event-kept : (now : State) (event : Happening) → Holds m h arguments now → Holds m h arguments (happened h now event)
  event-kept now event (Runs s workers turns upsets is facts) = subst (λ (state : State). Holds m h arguments (happened h state event)) (sym is)
      (happens-kept s workers turns upsets facts event)
  event-kept now event (Over stop stopped over) = subst (λ (o : Option Stop). Holds m h arguments (unless_stopped o now (happens h now event))) (sym stopped)
      (Over stop stopped over)
  event-kept now event (Broken broken) = Broken (stays-broken h now event broken)

  pub events-kept : (now : State) (events : List Happening) → Holds m h arguments now → Holds m h arguments (run_from h now events)
  events-kept now [] holds = holds
  events-kept now (event ∷ events) holds = events-kept (happened h now event) events (event-kept now event holds)

  -- whatever happens from the opening on
  pub run-kept : IsLooseImage m h → IsAccepted m → (events : List Happening) → Holds m h arguments (run_from h (opening h arguments) events)
  run-kept image accepted events = events-kept (opening h arguments) events (opens m h image accepted arguments)
