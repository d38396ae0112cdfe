use Rattle.std.proofs.Common.{◌≡◌, ◌+◌, map, drop, length}
use Rattle.std.specs.List.{sum}
use Rattle.haft_cli.specs.Table.{block_count}
use Rattle.haft_cli.proofs.counts.block_count.Given as goal

abbrev pub invariant-loop-f : goal.invariant-loop-f
invariant-loop-f l = l.count + sum (map (λ f. length f.blocks) (drop l.f-index l.f-items)) ≡ block_count l.m
