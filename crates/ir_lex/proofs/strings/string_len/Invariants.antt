use Rattle.std.proofs.Common.{◌≡◌, ◌+◌, ◌≤◌, length}
use Rattle.ir_core.specs.Strings.{string_bytes, between_quotes}
use Rattle.ir_lex.proofs.strings.string_len.Given as goal

-- the bytes counted so far and those of the text that is left are all, and no more than the text is long
abbrev pub invariant-bytes : goal.invariant-bytes
invariant-bytes l = (l.count + length (string_bytes l.rest) ≡ length (string_bytes (between_quotes l.token))) × (l.count + length l.rest ≤ length (between_quotes l.token))

abbrev pub decreases-bytes : goal.decreases-bytes
decreases-bytes l = length l.rest
