-- the table of the blocks so far
use Rattle.std.proofs.Common.{take}
use Rattle.src_meaning.specs.Labels.{IsTable}
use Rattle.src_meaning.proofs.labels.LabelTable.of.Given as goal

abbrev pub invariant-loop-number : goal.invariant-loop-number
invariant-loop-number l = IsTable (take l.number l.blocks) l.table
