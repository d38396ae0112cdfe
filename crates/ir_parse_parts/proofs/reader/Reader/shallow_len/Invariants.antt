use Rattle.std.proofs.Common.{◌≡◌, ◌+◌, length}
use Rattle.ir_grammar.specs.Fitting.{shallow_front}
use Rattle.ir_parse_parts.proofs.reader.Reader.shallow_len.Given as goal

-- the tokens that were passed, and of the rest those before the first bracket too many
abbrev pub invariant-tokens : goal.invariant-tokens
invariant-tokens l = length l.self + length (shallow_front l.standing l.ahead) ≡ length l.ahead + length (shallow_front 0 l.self)

abbrev pub decreases-tokens : goal.decreases-tokens
decreases-tokens l = length l.ahead
