use Rattle.std.proofs.Common.{◌≡◌, length}
use Rattle.ir_grammar.specs.Parts.{chained}
use Rattle.ir_grammar.specs.Top.{declared_param}
use Rattle.ir_parse_lines.proofs.functions.declared_chain.Given as goal

-- the parameters so far and those that are read of the rest are all
abbrev pub invariant-params : goal.invariant-params
invariant-params l = (chained l.params declared_param).reads l.reader ≡ (chained l.fn.params declared_param).reads l.fn.reader

abbrev pub decreases-params : goal.decreases-params
decreases-params l = length l.reader
