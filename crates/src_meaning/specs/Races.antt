-- Next accesses, races, and programs without undefined steps and races (LLVM Language Reference, 'Memory Model for Concurrent
-- Operations').
--
-- Choices: the next access of a thread is the one that its next step would make, whether or not it is valid. Two threads race in a
-- state where their next accesses overlap, at least one writes, and not both are atomic. The pairs of threads stand in
-- order of the first and then of the second.
use Rattle.std.specs.Prelude.{ℕ, ◌+◌, ◌-◌, ◌≡◌, Bool, true, false, List, map, length, Option, Some, None, find, slice_get}
use Rattle.std.specs.List.{flat_map, range_with_len}
use Rattle.ir_core.specs.Module.{ModuleParts}
use Rattle.ir_core.specs.declared.instruction.Inst.{Inst}
use Rattle.inst_meaning.specs.declared.actions.Cause.{Cause}
use Rattle.inst_meaning.specs.declared.actions.Access.{Access}
use Rattle.inst_meaning.specs.Accesses.{access_of, clash}
use Rattle.src_meaning.specs.declared.state.Frame.{Frame}
use Rattle.process.specs.declared.state.Thread.{Thread}
use Rattle.process.specs.declared.state.Thread.TheVariants.{Running, Exiting, Ended}
use Rattle.process.specs.declared.state.Step.{Step}
use Rattle.process.specs.declared.state.Step.TheVariants.{Undefined}
use Rattle.src_meaning.specs.State.{State, inst_at}
use Rattle.src_meaning.specs.Step.{action_in}
use Rattle.src_meaning.specs.Runs.{source}

-- ---- next accesses

-- what an instruction in a frame would access, where so many threads were made
abbrev pub access_in : ModuleParts → ℕ → Frame → Option Inst → Option Access
access_in m made frame None = None
access_in m made frame (Some inst) = access_of made (action_in m frame inst)

abbrev pub access_by : ModuleParts → ℕ → Option (Thread Frame) → Option Access
access_by m made (Some (Running stack)) = access_in m made stack.frame (inst_at m stack.frame)
access_by m made (Some (Exiting n)) = None
access_by m made (Some Ended) = None
access_by m made None = None

abbrev pub unless_over : Bool → Option Access → Option Access
unless_over true access = None
unless_over false access = access

-- the next access of a thread
abbrev pub next_access : ModuleParts → State → ℕ → Option Access
next_access m s t = unless_over s.ended (access_by m (length s.process.threads) (slice_get s.process.threads t))

-- ---- races

abbrev pub clash_of : Option Access → Option Access → Bool
clash_of (Some a) (Some b) = clash a b
clash_of a b = false

abbrev pub is_race : ModuleParts → State → ℕ × ℕ → Bool
is_race m s pair = clash_of (next_access m s pair.0) (next_access m s pair.1)

-- a thread with each later one, and all pairs of so many threads
abbrev pub pairs_from : ℕ → ℕ → List (ℕ × ℕ)
pairs_from count t = map (λ u. (t, u)) (range_with_len (t + 1) (count - (t + 1)))

abbrev pub pairs_of : ℕ → List (ℕ × ℕ)
pairs_of count = flat_map (pairs_from count) (range_with_len 0 count)

-- the first pair of threads that race
abbrev pub race_of : ModuleParts → State → Option (ℕ × ℕ)
race_of m s = find (is_race m s) (pairs_of (length s.process.threads))

-- ---- programs free of undefined steps and races

abbrev pub NoneUndefined : List Step → Type 0
NoneUndefined answers = (n : ℕ) (cause : Cause) → slice_get answers n ≡ Some (Undefined cause) → ⊥

-- no list of turns comes to an undefined step, and none to a race
pub record IsGood (m : ModuleParts) (arguments : List ℕ) : Type 0 where
  pub defined : (turns : List ℕ) → NoneUndefined (source m arguments turns).answers
  pub race_free : (turns : List ℕ) → race_of m (source m arguments turns).state ≡ None
