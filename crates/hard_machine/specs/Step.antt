-- A turn of the hardened machine: one thread does one hardened instruction, or ends (LLVM Language Reference, 'Instruction Reference').
--
-- Choices: a `Do` takes its action on the registers of its side and does it as a step of the source does, with that step's answers; its
-- result goes to a register of its side, and a branch gives both sides' phis their words. Outside a transaction, where all threads are,
-- a failed check and an undefined action stop the machine at their place, and a turn that retires joins the turns of the run at once. A
-- call that must wait changes nothing and keeps its place. What is for transactions alone (`cut`, `begin`, `end`, `tick`, checks
-- inside) takes its turn and does nothing.
use Rattle.std.specs.Prelude.{ℕ, suc, zero, ◌%◌, ◌^◌, ◌==◌, Bool, true, false, List, [], ◌∷◌, ◌++◌, Option, Some, None, slice_get}
use Rattle.ir_core.specs.declared.types.Loc.{Loc}
use Rattle.ir_core.specs.declared.values.Side.TheVariants.{S}
use Rattle.ir_layout.specs.Memory.{layout_of}
use Rattle.mem_image.specs.Opening.{opening as opening_memory}
use Rattle.inst_meaning.specs.Registers.{get}
use Rattle.inst_meaning.specs.World.{opening_world}
use Rattle.process.specs.declared.state.CallStack.{CallStack}
use Rattle.process.specs.declared.state.Thread.{Thread}
use Rattle.process.specs.declared.state.Thread.TheVariants.{Running, Exiting, Ended}
use Rattle.process.specs.declared.state.Step.{Step}
use Rattle.process.specs.declared.state.Step.TheVariants.{Went, Waits, Idle, Undefined, Ended as EndsProgram}
use Rattle.process.specs.State.{ProcessParts, in_frame, new_thread}
use Rattle.process.specs.Process.{with_thread, acted}
use Rattle.src_meaning.specs.State.{main_of}
use Rattle.hard_ir.specs.declared.instruction.HInst.{HInst}
use Rattle.hard_ir.specs.declared.instruction.HInst.TheVariants.{Cut, Begin, End as EndTransaction, Tick, Chk, ChkMem, Mov, Do}
use Rattle.hard_ir.specs.Hardened.{HardParts}
use Rattle.hard_frames.specs.declared.outcome.Stop.{Stop}
use Rattle.hard_frames.specs.declared.outcome.Stop.TheVariants.{End, Fail, Trap}
use Rattle.hard_frames.specs.declared.state.Frame.{Frame}
use Rattle.hard_frames.specs.Code.{inst_at}
use Rattle.hard_frames.specs.Frames.{frames, passed, resulted, action_on, destination_on}
use Rattle.hard_frames.specs.Orders.{is_active}
use Rattle.hard_frames.specs.Places.{place_text}
use Rattle.hard_machine.specs.State.{State}

-- ---- the opening

-- thread 0 stands at the entry of `main`
abbrev pub opening : HardParts → List ℕ → State
opening h arguments = record {
  process = record {
    memory = opening_memory (layout_of h.heads) h.heads.globals;
    threads = new_thread (frames h) 0 (main_of h.heads) [] ∷ [];
    world = opening_world arguments;
  };
  turns = [];
  stop = None;
}

-- ---- what becomes of the machine

-- a turn that retires an instruction of the source is a turn of its run
abbrev pub retired : Bool → ℕ → State → State
retired true t s = record s { turns = s.turns ++ t ∷ [] }
retired false t s = s

abbrev pub stopped : State → Stop → State
stopped s stop = record s { stop = Some stop }

-- it stops where a thread stands: at a check that failed, at an undefined action
abbrev pub failed : HardParts → State → ℕ → Frame → State
failed h s t frame = stopped s (Fail (record { 0 = t }) (place_text h frame))

abbrev pub trapped : HardParts → State → ℕ → Frame → State
trapped h s t frame = stopped s (Trap (record { 0 = t }) (place_text h frame))

-- an action has come to this answer
abbrev pub settled : HardParts → State → ℕ → Frame → Bool → ProcessParts Frame × Step → State
settled h s t frame retires (process, Went) = retired retires t (record s { process = process })
settled h s t frame retires (process, EndsProgram code) = retired retires t (stopped s (End code))
settled h s t frame retires (process, Undefined cause) = trapped h s t frame
settled h s t frame retires (process, Waits) = s
settled h s t frame retires (process, Idle) = s

-- a thread's frame becomes this one
abbrev pub moved : State → ℕ → CallStack Frame → Frame → State
moved s t stack frame = record s { process = with_thread s.process t (in_frame stack frame) }

-- ---- checks and copies

abbrev pub agreed : HardParts → State → ℕ → CallStack Frame → Bool → State
agreed h s t stack true = moved s t stack (passed stack.frame)
agreed h s t stack false = failed h s t stack.frame

abbrev pub compared : HardParts → State → ℕ → CallStack Frame → Option ℕ → Option ℕ → State
compared h s t stack (Some a) (Some b) = agreed h s t stack (a == b)
compared h s t stack (Some a) None = trapped h s t stack.frame
compared h s t stack None b = trapped h s t stack.frame

abbrev pub checked : HardParts → State → ℕ → CallStack Frame → Loc → Bool → State
checked h s t stack reg true = compared h s t stack (get stack.frame.masters reg.0) (get stack.frame.shadows reg.0)
checked h s t stack reg false = moved s t stack (passed stack.frame)

-- the shadow of a register becomes its master
abbrev pub copied : HardParts → State → ℕ → CallStack Frame → Loc → Option ℕ → State
copied h s t stack reg (Some n) = moved s t stack (resulted (Some (S, reg)) n stack.frame)
copied h s t stack reg None = trapped h s t stack.frame

-- ---- turns

abbrev pub stepped : HardParts → State → ℕ → CallStack Frame → HInst → State
stepped h s t stack Cut = moved s t stack (passed stack.frame)
stepped h s t stack Begin = moved s t stack (passed stack.frame)
stepped h s t stack EndTransaction = moved s t stack (passed stack.frame)
stepped h s t stack (Tick n) = moved s t stack (passed stack.frame)
stepped h s t stack (Chk when ty reg) = checked h s t stack reg (is_active when)
stepped h s t stack (ChkMem ty ptr val) = moved s t stack (passed stack.frame)
stepped h s t stack (Mov ty reg) = copied h s t stack reg (get stack.frame.masters reg.0)
stepped h s t stack (Do side inst retires) =
    settled h s t stack.frame retires (acted (frames h) s.process t (destination_on side inst) stack (action_on h side stack.frame inst))

abbrev pub fetched : HardParts → State → ℕ → CallStack Frame → Option HInst → State
fetched h s t stack None = trapped h s t stack.frame
fetched h s t stack (Some inst) = stepped h s t stack inst

-- a thread ends, which is a turn of the source; with thread 0 the program does
abbrev pub exited : State → ℕ → ℕ → State
exited s zero n = retired true zero (stopped s (End (n % 2 ^ 32)))
exited s (suc t) n = retired true (suc t) (record s { process = with_thread s.process (suc t) Ended })

abbrev pub turned : HardParts → State → ℕ → Option (Thread Frame) → State
turned h s t None = s
turned h s t (Some Ended) = s
turned h s t (Some (Exiting n)) = exited s t n
turned h s t (Some (Running stack)) = fetched h s t stack (inst_at h stack.frame)

abbrev pub unless_stopped : Option Stop → State → State → State
unless_stopped None s next = next
unless_stopped (Some stop) s next = s

-- a turn of a thread: once the machine has stopped, nothing changes
abbrev pub turn_of : HardParts → State → ℕ → State
turn_of h s t = unless_stopped s.stop s (turned h s t (slice_get s.process.threads t))
