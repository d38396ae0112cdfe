use Rattle.std.proofs.Common.{length}
use Rattle.ir_parse_top.specs.Reading.{lines_left}
use Rattle.ir_parse_top.proofs.TreeLines.{InModule}
use Rattle.ir_parse_top.proofs.whole.add_all.Given as goal

abbrev pub invariant-lines : goal.invariant-lines
invariant-lines l = InModule l.fn.lines l.lines l.fn.tree l.tree

abbrev pub decreases-lines : goal.decreases-lines
decreases-lines l = length (lines_left l.lines)
