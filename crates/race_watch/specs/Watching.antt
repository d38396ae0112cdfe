-- A watched run of the source: the turns of a schedule in order, up to the first end, undefined step or race.
--
-- Choices: aborts and upsets of a schedule are passed over. At one state an undefined step of the next turn comes before a race,
-- and a race before an end. The state behind the last turn is looked at too. Turns that waited or were idle aren't told.
use Rattle.std.specs.Prelude.{ℕ, suc, List, [], ◌∷◌, Option, Some, None}
use Rattle.ir_core.specs.declared.types.Tid.{Tid}
use Rattle.ir_core.specs.declared.values.Out.{Out}
use Rattle.ir_core.specs.Module.{ModuleParts}
use Rattle.sched_file.specs.Schedule.{ScheduleParts}
use Rattle.sched_file.specs.Events.{Happening, TurnOf, AbortOf, UpsetBy, events_of}
use Rattle.turn_runs.specs.Runs.{grouped}
use Rattle.process.specs.declared.state.Step.{Step}
use Rattle.process.specs.declared.state.Step.TheVariants.{Went, Undefined as IsUndefined, Ended}
use Rattle.src_meaning.specs.State.{State}
use Rattle.src_meaning.specs.Step.{opening, step}
use Rattle.src_meaning.specs.Races.{race_of}
use Rattle.race_watch.specs.declared.outcome.SrcStop.{SrcStop}
use Rattle.race_watch.specs.declared.outcome.SrcStop.TheVariants.{End, Bound, Undefined, Race}
use Rattle.race_watch.specs.declared.outcome.WatchResult.{WatchResult}

-- the threads of the turns among events, in order
abbrev pub turns_in : List Happening → List ℕ
turns_in [] = []
turns_in (TurnOf thread ∷ rest) = thread.0 ∷ turns_in rest
turns_in (AbortOf thread ∷ rest) = turns_in rest
turns_in (UpsetBy upset ∷ rest) = turns_in rest

-- what a watch comes to: the stop, what was given out, and the turns that went or ended
pub record Watched : Type 0 where
  pub stop : SrcStop
  pub outputs : List Out
  pub turns : List ℕ

abbrev pub halted : SrcStop → State → List ℕ → Watched
halted stop s turns = record { stop = stop; outputs = s.process.world.outputs; turns = turns }

abbrev pub with_turn : ℕ → Watched → Watched
with_turn t watched = record watched { turns = t ∷ watched.turns }

abbrev pub tid : ℕ → Tid
tid t = record { 0 = t }

abbrev pub race_stop : ℕ → ℕ × ℕ → SrcStop
race_stop n pair = Race n (tid pair.0) (tid pair.1)

-- the state behind the last of n turns
abbrev pub at_last : ℕ → State → Option (ℕ × ℕ) → Watched
at_last n s None = halted Bound s []
at_last n s (Some pair) = halted (race_stop n pair) s []

-- a state behind n turns where thread t has the next: its step answers this, this pair races, and so it goes on
abbrev pub at_turn : ℕ → State → ℕ → Step → Option (ℕ × ℕ) → State → Watched → Watched
at_turn n s t (IsUndefined cause) race next rest = halted (Undefined n (tid t) cause) s []
at_turn n s t answer (Some pair) next rest = halted (race_stop n pair) s []
at_turn n s t (Ended code) None next rest = halted (End code) next (t ∷ [])
at_turn n s t Went None next rest = with_turn t rest
at_turn n s t other None next rest = rest

-- the watch from a state on, behind n turns
abbrev pub watch_from : ModuleParts → ℕ → State → List ℕ → Watched
watch_from m n s [] = at_last n s (race_of m s)
watch_from m n s (t ∷ turns) = at_turn n s t (step m s t).1 (race_of m s) (step m s t).0 (watch_from m (suc n) (step m s t).0 turns)

-- the watch of a module on arguments and turns
abbrev pub watched : ModuleParts → List ℕ → List ℕ → Watched
watched m arguments turns = watch_from m 0 (opening m arguments) turns

abbrev pub result_of : Watched → WatchResult
result_of w = record { outs = w.outputs; stop = w.stop; turns = grouped w.turns }

-- the watch of a module on a schedule
abbrev pub watch_of : ModuleParts → ScheduleParts → WatchResult
watch_of m s = result_of (watched m s.args (turns_in (events_of s.lines)))
