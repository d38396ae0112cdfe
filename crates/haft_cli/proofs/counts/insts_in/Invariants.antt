use Rattle.std.proofs.Common.{◌≡◌, ◌+◌, map, drop, length}
use Rattle.std.specs.List.{sum}
use Rattle.haft_cli.specs.Table.{insts_in}
use Rattle.haft_cli.proofs.counts.insts_in.Given as goal

abbrev pub invariant-loop-block : goal.invariant-loop-block
invariant-loop-block l = l.count + sum (map (λ block. length block.insts) (drop l.block-index l.block-items)) ≡ insts_in l.f
