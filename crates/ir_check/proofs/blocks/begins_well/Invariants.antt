use Rattle.std.proofs.Common.{◌≡◌, length}
use Rattle.ir_check.specs.Blocks.{begins_well}
use Rattle.ir_check.proofs.blocks.begins_well.Given as goal

abbrev pub invariant-loop-left : goal.invariant-loop-left
invariant-loop-left l = begins_well l.left ≡ begins_well l.body

abbrev pub decreases-loop-left : goal.decreases-loop-left
decreases-loop-left l = length l.left
