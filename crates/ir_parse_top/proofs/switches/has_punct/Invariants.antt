use Rattle.std.proofs.Common.{◌≡◌, length}
use Rattle.std.specs.List.{list_any, AllByRecursion}
use Rattle.ir_core.specs.Tokens.{IsWithin}
use Rattle.ir_grammar.specs.Tokens.{tokens_of, is_punct}
use Rattle.ir_parse_top.proofs.switches.has_punct.Given as goal

abbrev pub invariant-tokens : goal.invariant-tokens
invariant-tokens l = AllByRecursion (IsWithin (length l.text)) l.left × (list_any (is_punct l.byte) (tokens_of l.text l.left) ≡ list_any (is_punct l.byte) (tokens_of l.text l.fn.tokens))

abbrev pub decreases-tokens : goal.decreases-tokens
decreases-tokens l = length l.left
