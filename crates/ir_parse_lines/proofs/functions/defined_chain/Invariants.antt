use Rattle.std.proofs.Common.{◌≡◌, length}
use Rattle.ir_grammar.specs.Parts.{chained}
use Rattle.ir_grammar.specs.Top.{defined_param}
use Rattle.ir_parse_lines.proofs.functions.defined_chain.Given as goal

-- the parameters so far and those that are read of the rest are all
abbrev pub invariant-params : goal.invariant-params
invariant-params l = (chained l.params defined_param).reads l.reader ≡ (chained l.fn.params defined_param).reads l.fn.reader

abbrev pub decreases-params : goal.decreases-params
decreases-params l = length l.reader
