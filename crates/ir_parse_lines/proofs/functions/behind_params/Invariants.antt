use Rattle.std.proofs.Common.{◌≡◌, length}
use Rattle.ir_grammar.specs.Top.{behind_params}
use Rattle.ir_parse_lines.proofs.functions.behind_params.Given as goal

abbrev pub invariant-tails : goal.invariant-tails
invariant-tails l = behind_params.reads l.reader ≡ behind_params.reads l.fn.reader

abbrev pub decreases-tails : goal.decreases-tails
decreases-tails l = length l.reader
