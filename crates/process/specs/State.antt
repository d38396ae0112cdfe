-- The state of a process: memory, threads and the environment.
--
-- Choices: threads are a list by number, also where there is one; a thread that isn't in the list was never made. A thread has a
-- stack of frames, of which the last entered runs, or has returned from its function and ends at its next turn, or has ended. A caller
-- stands past its call already.
use Rattle.std.specs.Prelude.{ℕ, ◌+◌, ◌*◌, suc, List, [], length}
use Rattle.ir_layout.specs.Memory.{stacks_start, stack_size}
use Rattle.mem_image.specs.Bytes.{Memory}
use Rattle.inst_meaning.specs.World.{WorldParts}
use Rattle.process.specs.declared.state.CallStack.{CallStack}
use Rattle.process.specs.declared.state.Thread.{Thread}
use Rattle.process.specs.declared.state.Thread.TheVariants.{Running}
use Rattle.process.specs.Frames.{Frames}

pub record ProcessParts (F : Type 0) : Type 0 where
  pub memory : Memory
  pub threads : List (Thread F)
  pub world : WorldParts

-- where a thread's stack region begins; the next one's begins where it ends
abbrev pub stack_start : ℕ → ℕ
stack_start t = stacks_start + t * stack_size

abbrev pub frame_count : {F : Type 0} → CallStack F → ℕ
frame_count stack = suc (length stack.callers)

-- its running frame becomes this one
abbrev pub in_frame : {F : Type 0} → CallStack F → F → Thread F
in_frame stack frame = Running (record stack { frame = frame })

-- a new thread in a function
abbrev pub new_thread : {F D : Type 0} → Frames F D → ℕ → ℕ → List ℕ → Thread F
new_thread frames t n words =
    Running (record { mark = stack_start t; frame = frames.enter n words (stack_start t); callers = [] })
