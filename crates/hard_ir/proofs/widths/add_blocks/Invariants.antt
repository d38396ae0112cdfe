use Rattle.std.proofs.Common.{◌≡◌, ◌++◌, drop}
use Rattle.std.specs.List.{flat_map}
use Rattle.hard_ir.specs.Facts.{widths_in}
use Rattle.hard_ir.proofs.widths.add_blocks.Given as goal

abbrev pub invariant-loop-block : goal.invariant-loop-block
invariant-loop-block l = l.widths.items ++ flat_map widths_in (drop l.block-index l.blocks) ≡ l.fn.widths.items ++ flat_map widths_in l.blocks
