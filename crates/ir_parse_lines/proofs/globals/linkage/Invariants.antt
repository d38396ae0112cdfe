use Rattle.std.proofs.Common.{◌≡◌, length}
use Rattle.ir_grammar.specs.Top.{linkage}
use Rattle.ir_parse_lines.proofs.globals.linkage.Given as goal

abbrev pub invariant-words : goal.invariant-words
invariant-words l = linkage.reads l.reader ≡ linkage.reads l.fn.reader

abbrev pub decreases-words : goal.decreases-words
decreases-words l = length l.reader
