use Rattle.line_sets.specs.code.Chains.{buckets}
use Rattle.line_sets.proofs.Chains.{IsWalk}
use Rattle.line_sets.proofs.LineSet.place.Given as goal

abbrev pub invariant-chain : goal.invariant-chain
invariant-chain g l = IsWalk (buckets g.row.CAP) l.self-inside.lines.items l.line l.at

abbrev pub decreases-chain : goal.decreases-chain
decreases-chain g l = l.at
