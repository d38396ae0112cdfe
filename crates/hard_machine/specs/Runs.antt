-- Runs of the hardened machine over the events of a schedule, and what they come to.
use Rattle.std.specs.Prelude.{ℕ, Bool, true, false, List, fold, unwrap_or}
use Rattle.sched_file.specs.Events.{Happening, TurnOf, AbortOf, UpsetBy}
use Rattle.turn_runs.specs.Runs.{grouped}
use Rattle.hard_ir.specs.Hardened.{HardParts}
use Rattle.hard_frames.specs.declared.outcome.Stop.TheVariants.{Bound}
use Rattle.hard_machine.specs.declared.outcome.RunResult.{RunResult}
use Rattle.hard_machine.specs.State.{State}
use Rattle.hard_machine.specs.Step.{opening, turn_of}

-- an event of a schedule: a turn; an abort changes nothing, since no thread is in a transaction, and upsets aren't known yet
abbrev pub happened : HardParts → State → Happening → State
happened h s (TurnOf thread) = turn_of h s thread.0
happened h s (AbortOf thread) = s
happened h s (UpsetBy upset) = s

abbrev pub run_from : HardParts → State → List Happening → State
run_from h s events = fold (happened h) s events

-- what a state comes to; no transaction was aborted, since there are none
abbrev pub result_of : State → RunResult
result_of s = record {
  outs = s.process.world.outputs;
  aborts = record { explicit = 0; conflict = 0; overflow = 0; other = 0 };
  stop = unwrap_or s.stop Bound;
  turns = grouped s.turns;
}

-- the run of a hardened module with arguments over events
abbrev pub run_on : HardParts → List ℕ → List Happening → RunResult
run_on h arguments events = result_of (run_from h (opening h arguments) events)

-- the event is no upset
abbrev pub is_no_upset : Happening → Bool
is_no_upset (UpsetBy upset) = false
is_no_upset (TurnOf thread) = true
is_no_upset (AbortOf thread) = true
