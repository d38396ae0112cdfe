use Rattle.std.proofs.Common.{◌≡◌, length}
use Rattle.ir_grammar.specs.Lines.{more_indices}
use Rattle.ir_parse_body.proofs.lists.more_indices.Given as goal

-- what was read so far and what is read of the rest are all
abbrev pub invariant-more : goal.invariant-more
invariant-more l = (more_indices l.indices).reads l.reader ≡ (more_indices l.fn.indices).reads l.fn.reader

abbrev pub decreases-more : goal.decreases-more
decreases-more l = length l.reader
