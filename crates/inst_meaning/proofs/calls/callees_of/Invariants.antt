-- the functions from the number on count
use Rattle.std.proofs.Common.{◌≡◌}
use Rattle.inst_meaning.proofs.NamedCallees.{callees_from}
use Rattle.inst_meaning.proofs.calls.callees_of.Given as goal

abbrev pub invariant-loop-number : goal.invariant-loop-number
invariant-loop-number l = l.callees.items ≡ callees_from l.m l.number
