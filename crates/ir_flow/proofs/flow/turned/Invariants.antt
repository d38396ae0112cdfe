use Rattle.std.proofs.Common.{◌≡◌, map, take}
use Rattle.ir_flow.specs.Phis.{turned}
use Rattle.ir_flow.proofs.flow.turned.Given as goal

abbrev pub invariant-loop-from : goal.invariant-loop-from
invariant-loop-from l = l.pairs.items ≡ map turned (take l.from-index l.from-items)
