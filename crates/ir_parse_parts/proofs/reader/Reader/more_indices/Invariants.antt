use Rattle.std.proofs.Common.{◌≡◌, length}
use Rattle.ir_grammar.specs.Types.{more_listed}
use Rattle.ir_grammar.specs.Values.{constant_index}
use Rattle.ir_parse_parts.proofs.reader.Reader.more_indices.Given as goal

-- the indices so far and those that are read of the rest are all
abbrev pub invariant-more : goal.invariant-more
invariant-more l = (more_listed l.indices constant_index).reads l.self ≡ (more_listed l.fn.indices constant_index).reads l.fn.self

abbrev pub decreases-more : goal.decreases-more
decreases-more l = length l.self
