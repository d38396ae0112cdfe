use Rattle.std.proofs.Common.{length}
use Rattle.ir_parse_top.specs.Reading.{lines_left}
use Rattle.ir_parse_top.proofs.FunctionLines.{InFunction}
use Rattle.ir_parse_top.proofs.bodies.add_lines.Given as goal

abbrev pub invariant-lines : goal.invariant-lines
invariant-lines l = InFunction l.fn.lines l.lines l.fn.f l.f l.entry

abbrev pub decreases-lines : goal.decreases-lines
decreases-lines l = length (lines_left l.lines)
