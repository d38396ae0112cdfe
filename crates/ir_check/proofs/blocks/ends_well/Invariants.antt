use Rattle.std.proofs.Common.{◌≡◌, length}
use Rattle.ir_check.specs.Blocks.{ends_well}
use Rattle.ir_check.proofs.blocks.ends_well.Given as goal

abbrev pub invariant-loop-left : goal.invariant-loop-left
invariant-loop-left l = ends_well l.left ≡ ends_well l.body

abbrev pub decreases-loop-left : goal.decreases-loop-left
decreases-loop-left l = length l.left
