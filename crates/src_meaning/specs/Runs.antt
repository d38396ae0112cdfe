-- Runs of the source: its steps in the order of a list of turns.
use Rattle.std.specs.Prelude.{ℕ, List, [], ◌∷◌}
use Rattle.ir_core.specs.Module.{ModuleParts}
use Rattle.process.specs.declared.state.Step.{Step}
use Rattle.src_meaning.specs.State.{State}
use Rattle.src_meaning.specs.Step.{opening, step}

-- the state after the turns, and the answer at each
pub record Run : Type 0 where
  pub state : State
  pub answers : List Step

abbrev pub answered_first : Step → Run → Run
answered_first answer run = record run { answers = answer ∷ run.answers }

abbrev pub run_from : ModuleParts → State → List ℕ → Run
run_from m s [] = record { state = s; answers = [] }
run_from m s (t ∷ turns) = answered_first (step m s t).1 (run_from m (step m s t).0 turns)

-- the source run on these turns
abbrev pub source : ModuleParts → List ℕ → List ℕ → Run
source m arguments turns = run_from m (opening m arguments) turns
