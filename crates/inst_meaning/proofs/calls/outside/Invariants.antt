-- the callees so far are those of the names so far
use Rattle.std.proofs.Common.{◌≡◌, map, take}
use Rattle.inst_meaning.specs.Action.{outside_callee}
use Rattle.inst_meaning.proofs.calls.outside.Given as goal

abbrev pub invariant-loop-number : goal.invariant-loop-number
invariant-loop-number l = l.callees.items ≡ map outside_callee (take l.number l.m.syms)
