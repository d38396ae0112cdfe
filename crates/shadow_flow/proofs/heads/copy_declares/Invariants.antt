use Rattle.std.proofs.Common.{◌≡◌, ◌++◌, take}
use Rattle.shadow_flow.proofs.heads.copy_declares.Given as goal

abbrev pub invariant-loop-declare : goal.invariant-loop-declare
invariant-loop-declare l = l.m ≡ record l.fn.m { declares = l.fn.m.declares ++ take l.declare-index l.declares }
