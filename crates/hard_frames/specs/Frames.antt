-- Frames with two copies of each register, and what a frame can do.
--
-- Choices: the masters' registers and the shadows' are two files of one frame. A frame's index counts the instructions of its block's
-- list, where phis don't stand. A call enters its function with masters alone; the register that waits for its result is one of the
-- call's own side. A branch gives the phis of both sides of its target their words together.
use Rattle.std.specs.Prelude.{ℕ, suc, List, [], map, Option, Some, None, slice_get}
use Rattle.std.specs.List.{filter_map, zip}
use Rattle.std.specs.Option.{option_map, option_and_then}
use Rattle.ir_core.specs.declared.types.Loc.{Loc}
use Rattle.ir_core.specs.declared.types.Width.{Width}
use Rattle.ir_core.specs.declared.values.Side.{Side}
use Rattle.ir_core.specs.declared.values.Val.TheVariants as values
use Rattle.ir_core.specs.declared.values.Side.TheVariants.{M, S}
use Rattle.ir_core.specs.declared.instruction.Inst.{Inst}
use Rattle.ir_core.specs.declared.instruction.Block.{Block}
use Rattle.ir_layout.specs.Memory.{LayoutParts, layout_of}
use Rattle.ir_flow.specs.Edges.{number_of}
use Rattle.inst_meaning.specs.declared.actions.Action.{Action}
use Rattle.inst_meaning.specs.Action.{action_of, callees_of, destination}
use Rattle.inst_meaning.specs.Operands.{word_at}
use Rattle.inst_meaning.specs.Phis.{phi_words, all_assigned}
use Rattle.inst_meaning.specs.Registers.{put}
use Rattle.process.specs.Frames.{Frames}
use Rattle.src_meaning.specs.State.{params_at}
use Rattle.hard_ir.specs.declared.instruction.HBlock.{HBlock}
use Rattle.hard_ir.specs.declared.instruction.HVal.{HVal}
use Rattle.hard_ir.specs.declared.instruction.HVal.TheVariants as operands
use Rattle.hard_ir.specs.Hardened.{HardParts}
use Rattle.hard_frames.specs.declared.state.Frame.{Frame}
use Rattle.hard_frames.specs.Code.{blocks_at}

-- ---- registers

-- the registers of a side
abbrev pub file : Side → Frame → List (Option ℕ)
file M frame = frame.masters
file S frame = frame.shadows

abbrev pub with_file : Side → List (Option ℕ) → Frame → Frame
with_file M registers frame = record frame { masters = registers }
with_file S registers frame = record frame { shadows = registers }

-- a function is entered with these words: it stands at its first instruction, and the masters of its parameters have them
abbrev pub entry_frame : HardParts → ℕ → List ℕ → ℕ → Frame
entry_frame h n words mark = record {
  function = n;
  block = 0;
  index = 0;
  masters = all_assigned (zip (params_at h.heads.funcs n) words) [];
  shadows = [];
  mark = mark;
  waiting = None;
}

-- ---- operands of checks of memory

-- the word of an operand of a check of memory, at a width
abbrev pub operand_word : HardParts → Frame → Width → HVal → Option ℕ
operand_word h frame w (operands.Reg reg) = word_at (layout_of h.heads) (file reg.side frame) w (values.Reg reg.loc)
operand_word h frame w (operands.Const val) = word_at (layout_of h.heads) [] w val

-- ---- what a frame can do

abbrev pub passed : Frame → Frame
passed frame = record frame { index = suc frame.index }

-- a word goes to a register of a side, where there is one for it
abbrev pub given_to : Option (Side × Loc) → ℕ → Frame → Frame
given_to None n frame = frame
given_to (Some (side, at)) n frame = with_file side (put (file side frame) at.0 n) frame

-- its instruction is done, without a result, or with one that goes to its register
abbrev pub resulted : Option (Side × Loc) → ℕ → Frame → Frame
resulted dst n frame = passed (given_to dst n frame)

-- the phis of a side, in order
abbrev pub phi_on : Side → Side × Inst → Option Inst
phi_on M (M, phi) = Some phi
phi_on S (S, phi) = Some phi
phi_on M (S, phi) = None
phi_on S (M, phi) = None

abbrev pub phis_on : Side → HBlock → List Inst
phis_on side block = filter_map (phi_on side) block.phis

-- the words that they take from a label
abbrev pub words_on : LayoutParts → Frame → Loc → HBlock → Side → Option (List (Loc × ℕ))
words_on l frame from block side = phi_words l (file side frame) from (phis_on side block)

-- it stands at a block's list, and the phis of both sides have taken their words
abbrev pub landed : Frame → List (Loc × ℕ) → List (Loc × ℕ) → ℕ → Frame
landed frame on_masters on_shadows n = record frame {
  block = n;
  index = 0;
  masters = all_assigned on_masters frame.masters;
  shadows = all_assigned on_shadows frame.shadows;
}

abbrev pub landed_with : Frame → ℕ → Option (List (Loc × ℕ)) → Option (List (Loc × ℕ)) → Option Frame
landed_with frame n (Some on_masters) (Some on_shadows) = Some (landed frame on_masters on_shadows n)
landed_with frame n (Some on_masters) None = None
landed_with frame n None on_shadows = None

abbrev pub land : LayoutParts → Frame → Loc → ℕ → HBlock → Option Frame
land l frame from n block = landed_with frame n (words_on l frame from block M) (words_on l frame from block S)

-- the labels of blocks, as blocks without instructions
abbrev pub labelled : HBlock → Block
labelled block = record { label = block.label; insts = [] }

abbrev pub number_in : List HBlock → Loc → Option ℕ
number_in blocks label = number_of (map labelled blocks) label

-- it goes along the edge from its block to a label's
abbrev pub jump_from : LayoutParts → List HBlock → Frame → Loc → HBlock → Option Frame
jump_from l blocks frame label from = option_and_then (λ n. option_and_then (land l frame from.label n) (slice_get blocks n)) (number_in blocks label)

abbrev pub jump_in : LayoutParts → List HBlock → Frame → Loc → Option Frame
jump_in l blocks frame label = option_and_then (jump_from l blocks frame label) (slice_get blocks frame.block)

abbrev pub jumped : HardParts → Frame → Loc → Option Frame
jumped h frame label = jump_in (layout_of h.heads) (blocks_at h frame.function) frame label

-- its register waits for the function that it called
abbrev pub suspended : Option (Side × Loc) → Frame → Frame
suspended dst frame = record frame { index = suc frame.index; waiting = dst }

-- what it waited for has come
abbrev pub resumed : ℕ → Frame → Frame
resumed n frame = record (given_to frame.waiting n frame) { waiting = None }

-- the frames of a hardened module
abbrev pub frames : HardParts → Frames Frame (Option (Side × Loc))
frames h = record {
  enter = entry_frame h;
  result = resulted;
  advance = passed;
  jump = λ label frame. jumped h frame label;
  suspend = suspended;
  resume = resumed;
  mark = λ frame. frame.mark;
}

-- ---- actions

-- the action of an instruction on a side, and where its result goes
abbrev pub action_on : HardParts → Side → Frame → Inst → Action
action_on h side frame inst = action_of (layout_of h.heads) (callees_of h.heads) (file side frame) inst

abbrev pub destination_on : Side → Inst → Option (Side × Loc)
destination_on side inst = option_map (λ at. (side, at)) (destination inst)
