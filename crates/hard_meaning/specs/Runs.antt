-- Runs of the hardened machine over the events of a schedule, and what they come to.
use Rattle.std.specs.Prelude.{ℕ, ◌+◌, List, [], ◌∷◌, fold, Option, Some, None, slice_get, unwrap_or}
use Rattle.ir_core.specs.declared.types.Tid.{Tid}
use Rattle.ir_core.specs.declared.values.Out.{Out}
use Rattle.sched_file.specs.Events.{Happening, TurnOf, AbortOf, UpsetBy}
use Rattle.turn_runs.specs.Runs.{grouped}
use Rattle.hard_ir.specs.Hardened.{HardParts}
use Rattle.hard_frames.specs.declared.outcome.Aborts.{Aborts}
use Rattle.hard_frames.specs.declared.outcome.Stop.{Stop}
use Rattle.hard_frames.specs.declared.outcome.Stop.TheVariants.{Bound}
use Rattle.hard_meaning.specs.State.{Worker, State, opening, no_aborts}
use Rattle.hard_meaning.specs.Aborts.{Other, aborted}
use Rattle.hard_meaning.specs.Effects.{with_worker}
use Rattle.hard_meaning.specs.Turns.{turn_of}
use Rattle.hard_meaning.specs.Records.{Record, records}
use Rattle.hard_meaning.specs.Strikes.{upset_by}

-- an abort that was asked for: of a thread that is inside
abbrev pub abort_in : State → ℕ → Option Worker → State
abort_in s t None = s
abort_in s t (Some w) = with_worker s t (aborted Other w)

abbrev pub happens : HardParts → State → Happening → State
happens h s (TurnOf thread) = turn_of h s thread.0
happens h s (AbortOf thread) = abort_in s thread.0 (slice_get s.workers thread.0)
happens h s (UpsetBy upset) = upset_by h s upset

-- once the machine has stopped, nothing changes
abbrev pub unless_stopped : Option Stop → State → State → State
unless_stopped None s next = next
unless_stopped (Some stop) s next = s

abbrev pub happened : HardParts → State → Happening → State
happened h s event = unless_stopped s.stop s (happens h s event)

abbrev pub run_from : HardParts → State → List Happening → State
run_from h s events = fold (happened h) s events

-- ---- what a run comes to

abbrev pub added : Aborts → Aborts → Aborts
added a b = record {
  explicit = a.explicit + b.explicit;
  conflict = a.conflict + b.conflict;
  overflow = a.overflow + b.overflow;
  other = a.other + b.other;
}

abbrev pub all_aborts : List Worker → Aborts
all_aborts [] = no_aborts
all_aborts (w ∷ ws) = added w.aborts (all_aborts ws)

pub record RunParts : Type 0 where
  pub outs : List Out
  pub upsets : List Record
  pub aborts : Aborts
  pub stop : Stop
  pub turns : List (Tid × ℕ)

abbrev pub result_of : State → RunParts
result_of s = record {
  outs = s.world.outputs;
  upsets = records s;
  aborts = all_aborts s.workers;
  stop = unwrap_or s.stop Bound;
  turns = grouped s.turns;
}

-- the run of a hardened module with arguments over events
abbrev pub run_on : HardParts → List ℕ → List Happening → RunParts
run_on h arguments events = result_of (run_from h (opening h arguments) events)
