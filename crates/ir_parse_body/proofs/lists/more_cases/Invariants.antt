use Rattle.std.proofs.Common.{◌≡◌, length}
use Rattle.ir_grammar.specs.Lines.{more_cases}
use Rattle.ir_parse_body.proofs.lists.more_cases.Given as goal

-- what was read so far and what is read of the rest are all
abbrev pub invariant-more : goal.invariant-more
invariant-more l = (more_cases l.width l.cases).reads l.reader ≡ (more_cases l.width l.fn.cases).reads l.fn.reader

abbrev pub decreases-more : goal.decreases-more
decreases-more l = length l.reader
