use Rattle.std.proofs.Common.{◌≡◌, ◌++◌, drop}
use Rattle.std.specs.List.{flat_map}
use Rattle.ir_types.specs.Meanings.{block_meanings}
use Rattle.ir_types.proofs.meaning.add_blocks.Given as goal

abbrev pub invariant-loop-block : goal.invariant-loop-block
invariant-loop-block l = l.names.items ++ flat_map block_meanings (drop l.block-index l.blocks) ≡ l.fn.names.items ++ flat_map block_meanings l.blocks
