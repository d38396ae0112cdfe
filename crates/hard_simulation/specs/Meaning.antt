-- What a run of a hardened program says of its source.
--
-- Choices: a result stands for one run of the source, the one on the turns that it tells. Nothing is said of a program that comes to an
-- undefined step or a race in some interleaving; but until a thread could take an undefined step on these turns, the result stands for
-- its source whatever else the program does.
use Rattle.std.specs.Prelude.{ℕ, ◌≡◌, ◌↔◌, List, [], ◌∷◌, ◌++◌, Option, Some, None, IsTrue}
use Rattle.std.specs.List.{list_all}
use Rattle.ir_core.specs.Module.{ModuleParts}
use Rattle.inst_meaning.specs.declared.actions.Cause.{Cause}
use Rattle.sched_file.specs.Events.{Happening}
use Rattle.process.specs.declared.state.Step.{Step}
use Rattle.process.specs.declared.state.Step.TheVariants.{Went, Waits, Idle, Undefined, Ended}
use Rattle.src_meaning.specs.Step.{step}
use Rattle.src_meaning.specs.Runs.{source}
use Rattle.turn_runs.specs.Runs.{turns_of}
use Rattle.hard_frames.specs.declared.outcome.Stop.{Stop}
use Rattle.hard_frames.specs.declared.outcome.Stop.TheVariants.{End, Bound, Fail, Trap}
use Rattle.hard_machine.specs.declared.outcome.RunResult.{RunResult}
use Rattle.hard_machine.specs.Runs.{is_no_upset}

-- no event is an upset
abbrev pub IsUpsetFree : List Happening → Type 0
IsUpsetFree events = IsTrue (list_all is_no_upset events)

-- each answer is Went, but that the last may be Ended
abbrev pub AllWent : List Step → Type 0
AllWent [] = Unit {0}
AllWent (Went ∷ answers) = AllWent answers
AllWent (Ended code ∷ answers) = answers ≡ []
AllWent (Waits ∷ answers) = ⊥
AllWent (Idle ∷ answers) = ⊥
AllWent (Undefined cause ∷ answers) = ⊥

-- the last answer, where it is Ended
abbrev pub code_of : List Step → Option ℕ
code_of [] = None
code_of (Ended code ∷ []) = Some code
code_of (answer ∷ answers) = code_of answers

-- a check failed, or an undefined action was met
abbrev pub IsFailure : Stop → Type 0
IsFailure (Fail tid at) = Unit {0}
IsFailure (Trap tid at) = Unit {0}
IsFailure (End code) = ⊥
IsFailure Bound = ⊥

-- the result stands for the source run on the turns that it tells
pub record Means (m : ModuleParts) (arguments : List ℕ) (r : RunResult) : Type 0 where
  pub went : AllWent (source m arguments (turns_of r.turns)).answers
  pub outputs : r.outs ≡ (source m arguments (turns_of r.turns)).state.process.world.outputs
  pub ends : (code : ℕ) → (r.stop ≡ End code) ↔ (code_of (source m arguments (turns_of r.turns)).answers ≡ Some code)
  pub never_fails : IsFailure r.stop → ⊥

-- the source goes a front of these turns, and then the next step of some thread is undefined
pub record IsUndefinedOn (m : ModuleParts) (arguments turns : List ℕ) : Type 0 where
  pub front : List ℕ
  pub rest : List ℕ
  pub whole : turns ≡ front ++ rest
  pub went : AllWent (source m arguments front).answers
  pub thread : ℕ
  pub cause : Cause
  pub undefined : (step m (source m arguments front).state thread).1 ≡ Undefined cause

-- the result stands for a run of the source, or the source is undefined on its turns
pub data Told (m : ModuleParts) (arguments : List ℕ) (r : RunResult) : Type 0 where
  Meant : Means m arguments r → Told m arguments r
  NotDefined : IsUndefinedOn m arguments (turns_of r.turns) → Told m arguments r
