use Rattle.std.proofs.Common.{◌≡◌, length}
use Rattle.ir_grammar.specs.Lines.{more_arms}
use Rattle.ir_parse_body.proofs.lists.more_arms.Given as goal

-- what was read so far and what is read of the rest are all
abbrev pub invariant-more : goal.invariant-more
invariant-more l = (more_arms l.ty l.arms).reads l.reader ≡ (more_arms l.ty l.fn.arms).reads l.fn.reader

abbrev pub decreases-more : goal.decreases-more
decreases-more l = length l.reader
