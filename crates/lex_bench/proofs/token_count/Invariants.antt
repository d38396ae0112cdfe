use Rattle.std.proofs.Common.{◌≤◌, length}
use Rattle.lex_bench.proofs.token_count.Given as goal

abbrev pub invariant-lines : goal.invariant-lines
invariant-lines l = length l.left ≤ 4194304

abbrev pub decreases-lines : goal.decreases-lines
decreases-lines l = length l.left
