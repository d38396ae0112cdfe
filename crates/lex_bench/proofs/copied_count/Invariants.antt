use Rattle.std.proofs.Common.{◌≡◌, vec_len}
use Rattle.lex_bench.proofs.copied_count.Given as goal

abbrev pub invariant-loop-byte : goal.invariant-loop-byte
invariant-loop-byte l = vec_len l.copy ≡ l.byte-index
