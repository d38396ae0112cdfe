use Rattle.std.proofs.Common.{◌≡◌, length}
use Rattle.ir_grammar.specs.Types.{more_listed}
use Rattle.ir_grammar.specs.Lines.{argument}
use Rattle.ir_parse_body.proofs.lists.more_arguments.Given as goal

-- what was read so far and what is read of the rest are all
abbrev pub invariant-more : goal.invariant-more
invariant-more l = (more_listed l.arguments argument).reads l.reader ≡ (more_listed l.fn.arguments argument).reads l.fn.reader

abbrev pub decreases-more : goal.decreases-more
decreases-more l = length l.reader
