use Rattle.std.proofs.Common.{◌≡◌, ◌+◌, ◌*◌, length}
use Rattle.ir_grammar.specs.Types.{more_listed}
use Rattle.ir_grammar.specs.Top.{typed_init, init}
use Rattle.ir_parse_lines.proofs.initialisers.+inits.Given as goal

abbrev pub decreases-init : goal.decreases-init
decreases-init l = 5 * l.brackets

abbrev pub decreases-init_rest : goal.decreases-init_rest
decreases-init_rest l = 5 * l.inner + 4

abbrev pub decreases-parts : goal.decreases-parts
decreases-parts l = 5 * l.inner + 3

abbrev pub decreases-more_parts : goal.decreases-more_parts
decreases-more_parts l = 5 * l.inner + 2

abbrev pub decreases-typed : goal.decreases-typed
decreases-typed l = 5 * l.inner + 1

-- the initialisers so far and those that are read of the rest are all
abbrev pub invariant-more_parts-more : goal.invariant-more_parts-more
invariant-more_parts-more l = (more_listed l.parts (typed_init (init l.inner))).reads l.reader ≡ (more_listed l.initial.parts (typed_init (init l.inner))).reads l.initial.reader

abbrev pub decreases-more_parts-more : goal.decreases-more_parts-more
decreases-more_parts-more l = length l.reader
