use Rattle.std.proofs.Common.{◌≡◌, ◌+◌, ◌*◌, length}
use Rattle.ir_grammar.specs.Types.{typ, more_listed}
use Rattle.ir_parse_parts.proofs.reader.Reader.+types.Given as goal

abbrev pub decreases-typ : goal.decreases-typ
decreases-typ l = 5 * l.brackets

abbrev pub decreases-type_rest : goal.decreases-type_rest
decreases-type_rest l = 5 * l.inner + 4

abbrev pub decreases-array : goal.decreases-array
decreases-array l = 5 * l.inner + 2

abbrev pub decreases-structure : goal.decreases-structure
decreases-structure l = 5 * l.inner + 3

abbrev pub decreases-type_list : goal.decreases-type_list
decreases-type_list l = 5 * l.inner + 2

abbrev pub decreases-more_types : goal.decreases-more_types
decreases-more_types l = 5 * l.inner + 1

-- the types so far and those that are read of the rest are all
abbrev pub invariant-more_types-more : goal.invariant-more_types-more
invariant-more_types-more l = (more_listed l.types (typ l.inner)).reads l.self ≡ (more_listed l.initial.types (typ l.inner)).reads l.initial.self

abbrev pub decreases-more_types-more : goal.decreases-more_types-more
decreases-more_types-more l = length l.self
