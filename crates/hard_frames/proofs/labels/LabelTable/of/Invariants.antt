-- the table of the blocks so far
use Rattle.std.proofs.Common.{map, take}
use Rattle.src_meaning.specs.Labels.{IsTable}
use Rattle.hard_frames.specs.Frames.{labelled}
use Rattle.hard_frames.proofs.labels.LabelTable.of.Given as goal

abbrev pub invariant-loop-number : goal.invariant-loop-number
invariant-loop-number l = IsTable (map labelled (take l.number l.blocks)) l.table
