use Rattle.std.proofs.Common.{◌≡◌, length}
use Rattle.ir_grammar.specs.Tails.{attributes}
use Rattle.ir_parse_parts.proofs.reader.Reader.attributes.Given as goal

abbrev pub invariant-attributes : goal.invariant-attributes
invariant-attributes l = (attributes l.linkage).reads l.self ≡ (attributes l.linkage).reads l.fn.self

abbrev pub decreases-attributes : goal.decreases-attributes
decreases-attributes l = length l.self
