-- An upset of a thread, as its code does it: the register that it names in a frame and the word that this gets; the frame; and the frame's place.
use Rattle.std.specs.Prelude.{ℕ, List, Option, Some, None, slice_get}
use Rattle.std.specs.Option.{option_map, option_and_then}
use Rattle.ir_core.specs.Module.{FuncParts}
use Rattle.inst_meaning.specs.Registers.{put}
use Rattle.process.specs.declared.state.CallStack.{CallStack}
use Rattle.sched_file.specs.declared.entries.UpsetSpec.{UpsetSpec}
use Rattle.hard_ir.specs.declared.instruction.HBlock.{HBlock}
use Rattle.hard_ir.specs.Hardened.{HardParts}
use Rattle.hard_frames.specs.declared.state.Frame.{Frame}
use Rattle.hard_frames.specs.Code.{blocks_at}
use Rattle.hard_frames.specs.Frames.{file, with_file}
use Rattle.hard_meaning.specs.Strikes.{Target, named_in, struck_word, frame_at, with_frame}
use Rattle.tx_machine.specs.declared.strikes.StruckAt.{StruckAt}

-- ---- a frame

-- the register's number and its new word
abbrev pub found_at : FuncParts → List HBlock → UpsetSpec → Frame → ℕ → Option (ℕ × ℕ)
found_at f blocks upset frame at = option_map (λ word. (at, word)) (struck_word f blocks upset frame at)

abbrev pub found_named : HardParts → UpsetSpec → Frame → FuncParts → Option (ℕ × ℕ)
found_named h upset frame f = option_and_then (found_at f (blocks_at h frame.function) upset frame) (named_in f upset.name)

abbrev pub found_in : HardParts → UpsetSpec → Frame → Option (ℕ × ℕ)
found_in h upset frame = option_and_then (found_named h upset frame) (slice_get h.heads.funcs frame.function)

abbrev pub once_struck : UpsetSpec → Option (ℕ × ℕ) → Frame → Frame
once_struck upset None frame = frame
once_struck upset (Some (at, word)) frame = with_file upset.side (put (file upset.side frame) at word) frame

-- where that is
abbrev pub place_struck : UpsetSpec → Frame → ℕ × ℕ → StruckAt
place_struck upset frame found = record {
  function = frame.function;
  block = frame.block;
  index = frame.index;
  reg = record { side = upset.side; loc = record { 0 = found.0 } };
}

abbrev pub struck_place : HardParts → UpsetSpec → Frame → Option StruckAt
struck_place h upset frame = option_map (place_struck upset frame) (found_in h upset frame)

-- ---- a stack

abbrev pub once_struck_at : HardParts → UpsetSpec → CallStack Frame → Option Frame → CallStack Frame
once_struck_at h upset stack None = stack
once_struck_at h upset stack (Some frame) = with_frame stack upset.depth (once_struck upset (found_in h upset frame) frame)

abbrev pub stack_struck : HardParts → UpsetSpec → CallStack Frame → CallStack Frame
stack_struck h upset stack = once_struck_at h upset stack (frame_at stack upset.depth)

abbrev pub stack_place : HardParts → UpsetSpec → CallStack Frame → Option StruckAt
stack_place h upset stack = option_and_then (struck_place h upset) (frame_at stack upset.depth)

-- the place of a target
abbrev pub place_of : Target → StruckAt
place_of to = record { function = to.frame.function; block = to.frame.block; index = to.frame.index; reg = to.register }
