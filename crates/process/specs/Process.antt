-- A process does what its threads' actions come to, at once.
use Rattle.std.specs.Prelude.{ℕ, List, [], ◌∷◌, ◌++◌, Option, Some, None, slice_set}
use Rattle.mem_image.specs.Touches.{memory_with}
use Rattle.inst_meaning.specs.declared.actions.Action.{Action}
use Rattle.process.specs.declared.state.CallStack.{CallStack}
use Rattle.process.specs.declared.state.Thread.{Thread}
use Rattle.process.specs.declared.state.Step.{Step}
use Rattle.process.specs.Frames.{Frames}
use Rattle.process.specs.State.{ProcessParts}
use Rattle.process.specs.Outcome.{Effect, Outcome, Goes, Waits, Faults, Ends, answer_of, outcome_of}

-- a thread that was made stands after the others
abbrev pub with_born : {T : Type 0} → Option T → List T → List T
with_born None threads = threads
with_born (Some thread) threads = threads ++ thread ∷ []

abbrev pub with_thread : {F : Type 0} → ProcessParts F → ℕ → Thread F → ProcessParts F
with_thread p t thread = record p { threads = slice_set p.threads t thread }

-- the process once thread t has done an action that comes to this
abbrev pub applied : {F : Type 0} → ProcessParts F → ℕ → Outcome F → ProcessParts F
applied p t (Goes effect) = record {
  memory = memory_with effect.store p.memory;
  threads = with_born effect.born (slice_set p.threads t effect.thread);
  world = effect.world;
}
applied p t Waits = p
applied p t (Faults cause) = p
applied p t (Ends code) = p

-- that process, and the answer of a step
abbrev pub done : {F : Type 0} → ProcessParts F → ℕ → Outcome F → ProcessParts F × Step
done p t outcome = (applied p t outcome, answer_of outcome)

-- what a thread's instruction asks for is done
abbrev pub acted : {F D : Type 0} → Frames F D → ProcessParts F → ℕ → D → CallStack F → Action → ProcessParts F × Step
acted frames p t target stack action = done p t (outcome_of frames p t target stack action)
