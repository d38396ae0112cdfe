-- Upsets: a register of a frame is replaced by its exclusive or with a mask.
--
-- Choices: an upset strikes a thread that was made, a frame of it, by how many were entered after it, and an assigned register, by its name
-- and side; and it flips bits below the register's width. Else it strikes nothing. A strike that counts leaves its number with what
-- it struck: with the transaction inside, which forgets it when it aborts, and with the thread outside.
use Rattle.std.specs.Prelude.{ℕ, zero, suc, nat_eq, Bool, true, false, ◌&&◌, List, [], ◌∷◌, ◌++◌, length, Option, Some, None, slice_get, slice_set}
use Rattle.std.specs.List.{position}
use Rattle.std.specs.Option.{option_map, option_and_then}
use Rattle.ir_core.specs.Module.{FuncParts}
use Rattle.inst_meaning.specs.Registers.{get, put}
use Rattle.process.specs.declared.state.CallStack.{CallStack}
use Rattle.process.specs.declared.state.Thread.{Thread}
use Rattle.process.specs.declared.state.Thread.TheVariants.{Running, Exiting, Ended}
use Rattle.sched_file.specs.declared.entries.UpsetSpec.{UpsetSpec}
use Rattle.hard_ir.specs.declared.instruction.HBlock.{HBlock}
use Rattle.hard_ir.specs.declared.instruction.HReg.{HReg}
use Rattle.hard_ir.specs.Facts.{hard_width}
use Rattle.hard_ir.specs.Hardened.{HardParts}
use Rattle.hard_frames.specs.declared.state.Frame.{Frame}
use Rattle.hard_frames.specs.Code.{blocks_at}
use Rattle.hard_frames.specs.Frames.{file, with_file}
pub use Rattle.upset_model.specs.Strikes.{strike}
use Rattle.hard_meaning.specs.State.{Mode, Free, Inside, Worker, Upset, Nowhere, OnAnother, InWindow, Struck, State, is_inside}
use Rattle.hard_meaning.specs.Effects.{with_worker}
use Rattle.hard_meaning.specs.Records.{some_stands, records}
use Rattle.hard_meaning.specs.Windows.{in_window, is_edge_checked}

-- ---- places

-- a frame by how many were entered after it
abbrev pub frame_at : CallStack Frame → ℕ → Option Frame
frame_at stack zero = Some stack.frame
frame_at stack (suc depth) = slice_get stack.callers depth

abbrev pub with_frame : CallStack Frame → ℕ → Frame → CallStack Frame
with_frame stack zero frame = record stack { frame = frame }
with_frame stack (suc depth) frame = record stack { callers = slice_set stack.callers depth frame }

abbrev pub same_name : List ℕ → List ℕ → Bool
same_name [] [] = true
same_name [] (b ∷ ys) = false
same_name (a ∷ xs) [] = false
same_name (a ∷ xs) (b ∷ ys) = nat_eq a b && same_name xs ys

-- the number of a name in a function
abbrev pub named_in : FuncParts → List ℕ → Option ℕ
named_in f name = position (same_name name) f.names

-- ---- targets

-- what an upset strikes: a register of a frame, and the word that it gets
pub record Target : Type 0 where
  pub stack : CallStack Frame
  pub frame : Frame
  pub register : HReg
  pub word : ℕ

abbrev pub target_with : UpsetSpec → CallStack Frame → Frame → ℕ → ℕ → Target
target_with upset stack frame at word =
    record { stack = stack; frame = frame; register = record { side = upset.side; loc = record { 0 = at } }; word = word }

abbrev pub struck_word : FuncParts → List HBlock → UpsetSpec → Frame → ℕ → Option ℕ
struck_word f blocks upset frame at =
    option_and_then (λ word. strike word (hard_width f blocks (record { 0 = at })) upset.mask) (get (file upset.side frame) at)

abbrev pub target_at : FuncParts → List HBlock → UpsetSpec → CallStack Frame → Frame → ℕ → Option Target
target_at f blocks upset stack frame at = option_map (target_with upset stack frame at) (struck_word f blocks upset frame at)

abbrev pub target_named : HardParts → UpsetSpec → CallStack Frame → Frame → FuncParts → Option Target
target_named h upset stack frame f = option_and_then (target_at f (blocks_at h frame.function) upset stack frame) (named_in f upset.name)

abbrev pub target_in : HardParts → UpsetSpec → CallStack Frame → Frame → Option Target
target_in h upset stack frame = option_and_then (target_named h upset stack frame) (slice_get h.heads.funcs frame.function)

abbrev pub target_of : HardParts → UpsetSpec → Thread Frame → Option Target
target_of h upset (Running stack) = option_and_then (target_in h upset stack) (frame_at stack upset.depth)
target_of h upset (Exiting n) = None
target_of h upset Ended = None

-- the thread with its register struck
abbrev pub struck : UpsetSpec → Target → Thread Frame
struck upset to = Running (with_frame to.stack upset.depth
    (with_file upset.side (put (file upset.side to.frame) to.register.loc.0 to.word) to.frame))

-- ---- windows

abbrev pub window_in : Bool → List HBlock → Frame → HReg → HBlock → Bool
window_in inside blocks frame r block = in_window inside (is_edge_checked blocks block) r block.list frame.index

abbrev pub window_at : Bool → List HBlock → Frame → HReg → Option HBlock → Bool
window_at inside blocks frame r None = false
window_at inside blocks frame r (Some block) = window_in inside blocks frame r block

abbrev pub is_in_window : HardParts → Mode → Frame → HReg → Bool
is_in_window h mode frame r =
    let blocks = blocks_at h frame.function in
    window_at (is_inside mode) blocks frame r (slice_get blocks frame.block)

-- ---- strikes

-- the upset with a number stands in what it struck
abbrev pub marked : ℕ → Worker → Mode → Worker
marked k w (Free plain) = record w { hits = k ∷ w.hits }
marked k w (Inside tx) = record w { mode = Inside (record tx { struck = k ∷ tx.struck }) }

abbrev pub marked_as : Upset → ℕ → Worker → Worker
marked_as Nowhere k w = w
marked_as OnAnother k w = w
marked_as InWindow k w = w
marked_as Struck k w = marked k w w.mode

-- how an upset that strikes comes: while another stands, in a window, or neither
abbrev pub kind_of : Bool → Bool → Upset
kind_of true window = OnAnother
kind_of false true = InWindow
kind_of false false = Struck

abbrev pub noted : State → Upset → State
noted s upset = record s { upsets = s.upsets ++ upset ∷ [] }

abbrev pub struck_as : State → ℕ → Worker → Thread Frame → Upset → State
struck_as s t w thread kind = noted (with_worker s t (marked_as kind (length s.upsets) (record w { thread = thread }))) kind

abbrev pub struck_at : HardParts → State → UpsetSpec → Worker → Option Target → State
struck_at h s upset w None = noted s Nowhere
struck_at h s upset w (Some to) = struck_as s upset.tid.0 w (struck upset to)
    (kind_of (some_stands (records s)) (is_in_window h w.mode to.frame to.register))

abbrev pub upset_in : HardParts → State → UpsetSpec → Option Worker → State
upset_in h s upset None = noted s Nowhere
upset_in h s upset (Some w) = struck_at h s upset w (target_of h upset w.thread)

abbrev pub upset_by : HardParts → State → UpsetSpec → State
upset_by h s upset = upset_in h s upset (slice_get s.workers upset.tid.0)
