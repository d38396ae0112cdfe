-- The code of a hardened module, by place.
use Rattle.std.specs.Prelude.{ℕ, List, [], Option, slice_get}
use Rattle.std.specs.Option.{option_map_or}
use Rattle.hard_ir.specs.declared.instruction.HInst.{HInst}
use Rattle.hard_ir.specs.declared.instruction.HBlock.{HBlock}
use Rattle.hard_ir.specs.Hardened.{HardParts}
use Rattle.hard_frames.specs.declared.state.Frame.{Frame}

abbrev pub blocks_at : HardParts → ℕ → List HBlock
blocks_at h n = option_map_or (λ blocks. blocks) (slice_get h.funcs n) []

abbrev pub list_at : List HBlock → ℕ → List HInst
list_at blocks n = option_map_or (λ block. block.list) (slice_get blocks n) []

-- the instruction at a frame's place
abbrev pub inst_at : HardParts → Frame → Option HInst
inst_at h frame = slice_get (list_at (blocks_at h frame.function) frame.block) frame.index
