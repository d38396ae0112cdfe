-- A step of the source: one thread does one instruction, or ends (LLVM Language Reference, 'Instruction Reference').
--
-- Choices: the instruction at a thread's place is looked up, its action taken, and done as a process does it. A step that waits, that is
-- idle or that is undefined gives the state back. A branch and the phis of its target are one step. In an accepted module each place has
-- an instruction and each label a block.
use Rattle.std.specs.Prelude.{ℕ, suc, zero, ◌%◌, ◌^◌, Bool, true, false, List, [], ◌∷◌, Option, Some, None, slice_get}
use Rattle.std.specs.Option.{option_map, option_and_then}
use Rattle.ir_core.specs.declared.types.Loc.{Loc}
use Rattle.ir_core.specs.declared.instruction.Inst.{Inst}
use Rattle.ir_core.specs.declared.instruction.Block.{Block}
use Rattle.ir_core.specs.Module.{ModuleParts}
use Rattle.ir_layout.specs.Memory.{LayoutParts, layout_of}
use Rattle.ir_flow.specs.Edges.{number_of}
use Rattle.mem_image.specs.Opening.{opening as opening_memory}
use Rattle.inst_meaning.specs.declared.actions.Cause.TheVariants.{Unreachable}
use Rattle.inst_meaning.specs.declared.actions.Action.{Action}
use Rattle.inst_meaning.specs.Action.{action_of, callees_of, destination}
use Rattle.inst_meaning.specs.Phis.{phi_count, phis_of, phi_words, assigned, all_assigned}
use Rattle.inst_meaning.specs.World.{opening_world}
use Rattle.process.specs.declared.state.CallStack.{CallStack}
use Rattle.process.specs.declared.state.Thread.{Thread}
use Rattle.process.specs.declared.state.Thread.TheVariants.{Running, Exiting, Ended as HasEnded}
use Rattle.process.specs.declared.state.Step.{Step}
use Rattle.process.specs.declared.state.Step.TheVariants.{Went, Waits, Idle, Undefined, Ended}
use Rattle.process.specs.Frames.{Frames}
use Rattle.process.specs.State.{ProcessParts, new_thread}
use Rattle.process.specs.Process.{with_thread, acted}
use Rattle.src_meaning.specs.declared.state.Frame.{Frame}
use Rattle.src_meaning.specs.State.{State, blocks_at, inst_at, entry_frame, main_of}

-- ---- what a frame can do

-- its instruction is done, without a result, or with one that goes to its register
abbrev pub passed : Frame → Frame
passed frame = record frame { index = suc frame.index }

abbrev pub resulted : Option Loc → ℕ → Frame → Frame
resulted dst n frame = record frame { index = suc frame.index; registers = assigned dst n frame.registers }

-- it stands after the phis of a block, which have taken their words
abbrev pub landed : Frame → ℕ → Block → List (Loc × ℕ) → Frame
landed frame n block words = record frame { block = n; index = phi_count block.insts; registers = all_assigned words frame.registers }

abbrev pub land : LayoutParts → Frame → Block → ℕ → Block → Option Frame
land l frame from n block = option_map (landed frame n block) (phi_words l frame.registers from.label (phis_of block.insts))

-- it goes along the edge from its block to a label's
abbrev pub jump_from : LayoutParts → List Block → Frame → Loc → Block → Option Frame
jump_from l blocks frame label from = option_and_then (λ n. option_and_then (land l frame from n) (slice_get blocks n)) (number_of blocks label)

abbrev pub jump_in : LayoutParts → List Block → Frame → Loc → Option Frame
jump_in l blocks frame label = option_and_then (jump_from l blocks frame label) (slice_get blocks frame.block)

abbrev pub jumped : ModuleParts → Frame → Loc → Option Frame
jumped m frame label = jump_in (layout_of m) (blocks_at m.funcs frame.function) frame label

-- it waits for the function that it called
abbrev pub suspended : Option Loc → Frame → Frame
suspended dst frame = record frame { index = suc frame.index; waiting = dst }

-- what it waited for has come
abbrev pub resumed : ℕ → Frame → Frame
resumed n frame = record frame { registers = assigned frame.waiting n frame.registers; waiting = None }

-- the frames of a module
abbrev pub frames : ModuleParts → Frames Frame (Option Loc)
frames m = record {
  enter = entry_frame m;
  result = resulted;
  advance = passed;
  jump = λ label frame. jumped m frame label;
  suspend = suspended;
  resume = resumed;
  mark = λ frame. frame.mark;
}

-- ---- the opening

-- thread 0 stands at the entry of `main`
abbrev pub opening : ModuleParts → List ℕ → State
opening m arguments = record {
  process = record {
    memory = opening_memory (layout_of m) m.globals;
    threads = new_thread (frames m) 0 (main_of m) [] ∷ [];
    world = opening_world arguments;
  };
  ended = false;
}

-- ---- steps

abbrev pub action_in : ModuleParts → Frame → Inst → Action
action_in m frame inst = action_of (layout_of m) (callees_of m) frame.registers inst

-- the state once an action was done, by its answer: an end is the program's
abbrev pub settled : State → ProcessParts Frame × Step → State × Step
settled s (process, Went) = (record s { process = process }, Went)
settled s (process, Waits) = (s, Waits)
settled s (process, Idle) = (s, Idle)
settled s (process, Undefined cause) = (s, Undefined cause)
settled s (process, Ended code) = (record s { ended = true }, Ended code)

abbrev pub fetched : ModuleParts → State → ℕ → CallStack Frame → Option Inst → State × Step
fetched m s t stack None = (s, Undefined Unreachable)
fetched m s t stack (Some inst) = settled s (acted (frames m) s.process t (destination inst) stack (action_in m stack.frame inst))

-- a thread ends; with thread 0 the program does
abbrev pub exited : State → ℕ → ℕ → State × Step
exited s zero n = (record s { ended = true }, Ended (n % 2 ^ 32))
exited s (suc t) n = (record s { process = with_thread s.process (suc t) HasEnded }, Went)

abbrev pub turned : ModuleParts → State → ℕ → Option (Thread Frame) → State × Step
turned m s t None = (s, Idle)
turned m s t (Some HasEnded) = (s, Idle)
turned m s t (Some (Exiting n)) = exited s t n
turned m s t (Some (Running stack)) = fetched m s t stack (inst_at m stack.frame)

abbrev pub unless_ended : Bool → State → State × Step → State × Step
unless_ended true s next = (s, Idle)
unless_ended false s next = next

-- a step of a thread: once the program has ended, every thread is idle
abbrev pub step : ModuleParts → State → ℕ → State × Step
step m s t = unless_ended s.ended s (turned m s t (slice_get s.process.threads t))
