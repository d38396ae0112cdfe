-- What becomes of the machine, as the code does it: a turn is told before its action is tried, and struck out again where it doesn't come.
use Rattle.std.specs.Prelude.{ℕ, ◌-◌, Bool, true, false, List, [], length, take, Option, Some, None, slice_get}
use Rattle.ir_core.specs.declared.types.Loc.{Loc}
use Rattle.ir_core.specs.declared.values.Side.{Side}
use Rattle.inst_meaning.specs.declared.actions.Action.{Action}
use Rattle.process.specs.declared.state.Step.{Step}
use Rattle.process.specs.declared.state.Step.TheVariants.{Went, Waits, Idle, Undefined, Ended as EndsProgram}
use Rattle.hard_ir.specs.Hardened.{HardParts}
use Rattle.hard_frames.specs.declared.outcome.Stop.{Stop}
use Rattle.process.specs.declared.state.Thread.{Thread}
use Rattle.process.specs.declared.state.Thread.TheVariants.{Running, Exiting, Ended}
use Rattle.hard_machine.specs.declared.machines.Flow.{Flow}
use Rattle.hard_machine.specs.declared.machines.Flow.TheVariants.{Going, Stopped}
use Rattle.process.specs.State.{ProcessParts}
use Rattle.process.specs.Process.{acted}
use Rattle.hard_frames.specs.declared.state.Frame.{Frame}
use Rattle.hard_machine.specs.State.{State}
use Rattle.hard_frames.specs.Places.{place_text}
use Rattle.hard_frames.specs.Frames.{frames}
use Rattle.hard_machine.specs.Step.{retired, settled, turned}

-- where a thread stands
abbrev pub place_of : HardParts → Option (Thread Frame) → List ℕ
place_of h (Some (Running stack)) = place_text h stack.frame
place_of h (Some (Exiting n)) = []
place_of h (Some Ended) = []
place_of h None = []

abbrev pub place_at : HardParts → State → ℕ → List ℕ
place_at h s t = place_of h (slice_get s.process.threads t)

-- a turn that was told is struck out again
abbrev pub untold : Bool → State → State
untold true s = record s { turns = take (length s.turns - 1) s.turns }
untold false s = s

-- whether an action was done
abbrev pub comes : Step → Bool
comes Went = true
comes (EndsProgram code) = true
comes Waits = false
comes Idle = false
comes (Undefined cause) = false

-- an action was tried
abbrev pub told_where : Bool → Bool → ℕ → State → State
told_where true retires t s = retired retires t s
told_where false retires t s = s

abbrev pub attempted : Bool → ℕ → State → ProcessParts Frame × Step → State
attempted retires t s outcome = told_where (comes outcome.1) retires t (record s { process = outcome.0 })

-- a thread that runs has done an action
abbrev pub carried_by : HardParts → State → ℕ → Bool → Option (Side × Loc) → Option (Thread Frame) → Action → State
carried_by h s t retires dst (Some (Running stack)) action = settled h s t stack.frame retires (acted (frames h) s.process t dst stack action)
carried_by h s t retires dst (Some (Exiting n)) action = s
carried_by h s t retires dst (Some Ended) action = s
carried_by h s t retires dst None action = s

abbrev pub carried_at : HardParts → State → ℕ → Bool → Option (Side × Loc) → Action → State
carried_at h s t retires dst action = carried_by h s t retires dst (slice_get s.process.threads t) action

-- a thread has had its turn
abbrev pub turned_at : HardParts → State → ℕ → State
turned_at h s t = turned h s t (slice_get s.process.threads t)

-- whether it goes on
abbrev pub flow_of : Option Stop → Flow
flow_of None = Going
flow_of (Some stop) = Stopped
