-- A watched run is the source run on the turns that it reports.
use Rattle.std.proofs.Common.{ℕ, suc, List, [], ◌∷◌, ◌++◌, length, Option, Some, None, slice_get, ◌≡◌, ◌∙◌, refl, ap, sym, subst}
use Rattle.ir_core.specs.Module.{ModuleParts}
use Rattle.inst_meaning.specs.declared.actions.Cause.{Cause}
use Rattle.sched_file.specs.Schedule.{ScheduleParts}
use Rattle.sched_file.specs.Events.{events_of}
use Rattle.turn_runs.specs.Runs.{turns_of}
use Rattle.turn_runs.proofs.Grouping.{turns_of-grouped}
use Rattle.process.specs.declared.state.Step.{Step}
use Rattle.process.specs.declared.state.Step.TheVariants.{Went, Waits, Idle, Undefined, Ended}
use Rattle.src_meaning.specs.State.{State}
use Rattle.src_meaning.specs.Step.{opening, step}
use Rattle.src_meaning.specs.Runs.{run_from, source}
use Rattle.src_meaning.specs.Races.{race_of, IsGood}
use Rattle.race_watch.specs.declared.outcome.SrcStop.{SrcStop}
use Rattle.race_watch.specs.declared.outcome.SrcStop.TheVariants as stops
use Rattle.race_watch.specs.Watching.{Watched, turns_in, at_last, at_turn, watch_from, watched, result_of, watch_of}
use Rattle.race_watch.specs.SourceRuns.{code_in, AllWentTo, Shows, IsSourceRun, IsFinding}
use Rattle.race_watch.proofs.Others.{step-waits, step-idle}

no-pair : (pair : ℕ × ℕ) → None ≡ Some pair → ⊥
no-pair pair e = let clash : None ≡ Some pair = e in cc

module _ (m : ModuleParts) where
  -- the watch is the run from a state on the turns that it reports
  record Runs (s : State) (turns : List ℕ) (w : Watched) : Type 0 where
    went : AllWentTo (code_in w.stop) (run_from m s turns).answers
    outputs : w.outputs ≡ (run_from m s turns).state.process.world.outputs
    shows : Shows m (run_from m s turns).state w.stop

  runs-last : (n : ℕ) (s : State) (race : Option (ℕ × ℕ)) → race_of m s ≡ race → Runs s (at_last n s race).turns (at_last n s race)
  runs-last n s None e = record { went = tt; outputs = refl; shows = e }
  runs-last n s (Some pair) e = record { went = tt; outputs = refl; shows = e }

  raced : (n : ℕ) (s : State) (pair : ℕ × ℕ) → race_of m s ≡ Some pair → Runs s [] (at_last n s (Some pair))
  raced n s pair e = record { went = tt; outputs = refl; shows = e }

  module _ (n : ℕ) (s : State) (t : ℕ) (rest : Watched) (h : Runs (step m s t).0 rest.turns rest) where
    runs-turn : (answer : Step) (race : Option (ℕ × ℕ)) → (step m s t).1 ≡ answer → race_of m s ≡ race
        → Runs s (at_turn n s t answer race (step m s t).0 rest).turns (at_turn n s t answer race (step m s t).0 rest)
    runs-turn (Undefined cause) race e f = record { went = tt; outputs = refl; shows = e }
    runs-turn Went (Some pair) e f = raced n s pair f
    runs-turn Waits (Some pair) e f = raced n s pair f
    runs-turn Idle (Some pair) e f = raced n s pair f
    runs-turn (Ended code) (Some pair) e f = raced n s pair f
    runs-turn (Ended code) None e f = record { went = subst (λ answer. AllWentTo (Some code) (answer ∷ [])) (sym e) (refl, refl); outputs = refl; shows = tt }
    runs-turn Went None e f = record {
      went = subst (λ answer. AllWentTo (code_in rest.stop) (answer ∷ (run_from m (step m s t).0 rest.turns).answers)) (sym e) h.went;
      outputs = h.outputs;
      shows = h.shows;
    }
    runs-turn Waits None e f = subst (λ (now : State). Runs now rest.turns rest) (step-waits m s t e) h
    runs-turn Idle None e f = subst (λ (now : State). Runs now rest.turns rest) (step-idle m s t e) h

  runs : (n : ℕ) (s : State) (turns : List ℕ) → Runs s (watch_from m n s turns).turns (watch_from m n s turns)
  runs n s [] = runs-last n s (race_of m s) refl
  runs n s (t ∷ turns) = runs-turn n s t _ (runs (suc n) (step m s t).0 turns) (step m s t).1 (race_of m s) refl refl

  is_run : (arguments turns : List ℕ) (w : Watched) → Runs (opening m arguments) turns w → turns_of (result_of w).turns ≡ turns → IsSourceRun m arguments (result_of w)
  is_run arguments turns w h e =
      record {
        went = subst (λ (on : List ℕ). AllWentTo (code_in w.stop) (source m arguments on).answers) (sym e) h.went;
        outputs = subst (λ (on : List ℕ). w.outputs ≡ (source m arguments on).state.process.world.outputs) (sym e) h.outputs;
        shows = subst (λ (on : List ℕ). Shows m (source m arguments on).state w.stop) (sym e) h.shows;
      }

  pub watch-runs : (s : ScheduleParts) → IsSourceRun m s.args (watch_of m s)
  watch-runs s =
      let w : Watched = watched m s.args (turns_in (events_of s.lines)) in
      is_run s.args w.turns w (runs 0 (opening m s.args) (turns_in (events_of s.lines))) (turns_of-grouped w.turns)

  -- what a thread's step answers after turns is an answer of the run with one turn more
  answer-after : (s : State) (turns : List ℕ) (t : ℕ) → slice_get (run_from m s (turns ++ t ∷ [])).answers (length turns) ≡ Some (step m (run_from m s turns).state t).1
  answer-after s [] t = refl
  answer-after s (u ∷ turns) t = answer-after (step m s u).0 turns t

  none-found : (arguments turns : List ℕ) (stop : SrcStop) → IsGood m arguments → Shows m (source m arguments turns).state stop → IsFinding stop → ⊥
  none-found arguments turns (stops.Undefined n tid cause) good shows found =
      good.defined (turns ++ tid.0 ∷ []) (length turns) cause (answer-after (opening m arguments) turns tid.0 ∙ ap (λ answer. Some answer) shows)
  none-found arguments turns (stops.Race n t u) good shows found = no-pair (t.0, u.0) (sym (good.race_free turns) ∙ shows)
  none-found arguments turns (stops.End code) good shows found = found
  none-found arguments turns stops.Bound good shows found = found

  pub good-finds-none : (s : ScheduleParts) → IsGood m s.args → IsFinding (watch_of m s).stop → ⊥
  good-finds-none s good = none-found s.args (turns_of (watch_of m s).turns) (watch_of m s).stop good (watch-runs s).shows
