use Rattle.std.proofs.Common.{◌≡◌, ◌+◌, ◌-◌, [], length}
use Rattle.ir_parse_top.specs.Reading.{Passes}
use Rattle.ir_parse_top.proofs.passing.next_text.Given as goal

abbrev pub invariant-lines : goal.invariant-lines
invariant-lines l = (l.tokens.items ≡ []) × Passes l.place l.fn.lines l.lines

abbrev pub decreases-lines : goal.decreases-lines
decreases-lines l = length l.fn.lines.text + 1 - l.lines.at
