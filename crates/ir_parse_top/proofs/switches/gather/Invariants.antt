use Rattle.std.proofs.Common.{◌+◌, ◌-◌, length}
use Rattle.ir_parse_top.proofs.Gathering.{Gathered}
use Rattle.ir_parse_top.proofs.switches.gather.Given as goal

abbrev pub invariant-lines : goal.invariant-lines
invariant-lines l = Gathered l.fn.lines l.lines l.fn.tokens.items l.tokens.items l.counts.items

abbrev pub decreases-lines : goal.decreases-lines
decreases-lines l = length l.fn.lines.text + 1 - l.lines.at
