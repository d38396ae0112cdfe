use Rattle.std.proofs.Common.{◌≡◌, ◌++◌, length}
use Rattle.ir_core.specs.Strings.{string_bytes, between_quotes}
use Rattle.ir_lex.proofs.strings.string_bytes.Given as goal

-- the bytes so far and those of the text that is left are all
abbrev pub invariant-bytes : goal.invariant-bytes
invariant-bytes l = l.bytes.items ++ string_bytes l.rest ≡ string_bytes (between_quotes l.token)

abbrev pub decreases-bytes : goal.decreases-bytes
decreases-bytes l = length l.rest
