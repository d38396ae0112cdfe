use Rattle.std.proofs.Common.{◌≡◌, ◌+◌, map, drop}
use Rattle.std.specs.List.{sum}
use Rattle.haft_cli.specs.Table.{insts_in, inst_count}
use Rattle.haft_cli.proofs.counts.inst_count.Given as goal

abbrev pub invariant-loop-f : goal.invariant-loop-f
invariant-loop-f l = l.count + sum (map insts_in (drop l.f-index l.f-items)) ≡ inst_count l.m
