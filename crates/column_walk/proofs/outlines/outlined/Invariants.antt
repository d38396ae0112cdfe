use Rattle.std.proofs.Common.{◌≡◌, take, map}
use Rattle.column_walk.specs.Columns.{outline}
use Rattle.column_walk.proofs.outlines.outlined.Given as goal

abbrev pub invariant-loop-block : goal.invariant-loop-block
invariant-loop-block l = l.f.blocks ≡ map outline (take l.block-index l.blocks)
