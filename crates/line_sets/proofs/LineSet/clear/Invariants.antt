use Rattle.std.proofs.Common.{vec_len, vec_capacity}
use Rattle.line_sets.specs.code.Chains.{IsSet}
use Rattle.line_sets.proofs.LineSet.clear.Given as goal

abbrev pub invariant-lines : goal.invariant-lines
invariant-lines g l = IsSet g.row.CAP (vec_capacity l.self-inside.lines) (vec_capacity l.self-inside.links) l.self-inside.lines.items l.self-inside.heads.items l.self-inside.links.items

abbrev pub decreases-lines : goal.decreases-lines
decreases-lines g l = vec_len l.self-inside.lines
