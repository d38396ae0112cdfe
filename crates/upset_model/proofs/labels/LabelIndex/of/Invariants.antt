use Rattle.std.proofs.Common.{◌≤◌, length}
use Rattle.upset_model.specs.Guards.{IsIndexFrom}
use Rattle.upset_model.proofs.labels.LabelIndex.of.Given as goal

abbrev pub invariant-loop-number : goal.invariant-loop-number
invariant-loop-number l = record {
  within : l.number ≤ length l.blocks;
  index : IsIndexFrom l.blocks l.number l.index;
}

abbrev pub decreases-loop-number : goal.decreases-loop-number
decreases-loop-number l = l.number
