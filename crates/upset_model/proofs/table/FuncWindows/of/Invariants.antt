use Rattle.std.proofs.Common.{◌≡◌, map, take}
use Rattle.upset_model.specs.Table.{block_intervals}
use Rattle.upset_model.proofs.table.FuncWindows.of.Given as goal

abbrev pub invariant-loop-block : goal.invariant-loop-block
invariant-loop-block l = l.windows.items ≡ map (block_intervals l.blocks) (take l.block-index l.blocks)
