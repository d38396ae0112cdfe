use Rattle.std.proofs.Common.{◌≡◌, length}
use Rattle.ir_grammar.specs.Parts.{skipped, heads}
use Rattle.ir_grammar.specs.Tokens.{is_punct, comma}
use Rattle.ir_grammar.specs.Tails.{metadata}
use Rattle.ir_parse_parts.proofs.reader.Reader.metadata_pairs.Given as goal

abbrev pub invariant-pairs : goal.invariant-pairs
invariant-pairs l = (skipped (heads (is_punct comma)) metadata).reads l.self ≡ (skipped (heads (is_punct comma)) metadata).reads l.fn.self

abbrev pub decreases-pairs : goal.decreases-pairs
decreases-pairs l = length l.self
