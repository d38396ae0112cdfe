-- What a watched run says of its source: it is the source run on the turns that it reports, and where it stops at an undefined step or
-- a race, the program isn't good.
--
-- Choices: a watch passes over turns that waited or were idle, which change nothing; so its turns are those that went or ended.
use Rattle.std.specs.Prelude.{ℕ, ◌≡◌, List, [], ◌∷◌, Option, Some, None}
use Rattle.ir_core.specs.Module.{ModuleParts}
use Rattle.turn_runs.specs.Runs.{turns_of}
use Rattle.process.specs.declared.state.Step.{Step}
use Rattle.process.specs.declared.state.Step.TheVariants.{Went, Waits, Idle, Undefined as IsUndefined, Ended}
use Rattle.src_meaning.specs.State.{State}
use Rattle.src_meaning.specs.Step.{step}
use Rattle.src_meaning.specs.Runs.{source}
use Rattle.src_meaning.specs.Races.{race_of}
use Rattle.race_watch.specs.declared.outcome.SrcStop.{SrcStop}
use Rattle.race_watch.specs.declared.outcome.SrcStop.TheVariants.{End, Bound, Undefined, Race}
use Rattle.race_watch.specs.declared.outcome.WatchResult.{WatchResult}

-- the code of an end
abbrev pub code_in : SrcStop → Option ℕ
code_in (End code) = Some code
code_in Bound = None
code_in (Undefined n tid cause) = None
code_in (Race n t u) = None

-- each answer is Went, but that the last is Ended with this code, where there is one
abbrev pub AllWentTo : Option ℕ → List Step → Type 0
AllWentTo None [] = Unit {0}
AllWentTo (Some code) [] = ⊥
AllWentTo end (Went ∷ answers) = AllWentTo end answers
AllWentTo end (Ended code ∷ answers) = (end ≡ Some code) × (answers ≡ [])
AllWentTo end (Waits ∷ answers) = ⊥
AllWentTo end (Idle ∷ answers) = ⊥
AllWentTo end (IsUndefined cause ∷ answers) = ⊥

-- what a stop says of the state where the run stands
abbrev pub Shows : ModuleParts → State → SrcStop → Type 0
Shows m s (End code) = Unit {0}
Shows m s Bound = race_of m s ≡ None
Shows m s (Undefined n tid cause) = (step m s tid.0).1 ≡ IsUndefined cause
Shows m s (Race n t u) = race_of m s ≡ Some (t.0, u.0)

-- the result is that of the source run on the turns that it reports
pub record IsSourceRun (m : ModuleParts) (arguments : List ℕ) (r : WatchResult) : Type 0 where
  pub went : AllWentTo (code_in r.stop) (source m arguments (turns_of r.turns)).answers
  pub outputs : r.outs ≡ (source m arguments (turns_of r.turns)).state.process.world.outputs
  pub shows : Shows m (source m arguments (turns_of r.turns)).state r.stop

-- the run met an undefined step or a race
abbrev pub IsFinding : SrcStop → Type 0
IsFinding (End code) = ⊥
IsFinding Bound = ⊥
IsFinding (Undefined n tid cause) = Unit {0}
IsFinding (Race n t u) = Unit {0}
