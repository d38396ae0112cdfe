use Rattle.std.proofs.Common.{◌≡◌, ◌++◌, take}
use Rattle.shadow_flow.proofs.heads.copy_globals.Given as goal

abbrev pub invariant-loop-global : goal.invariant-loop-global
invariant-loop-global l = l.m ≡ record l.fn.m { globals = l.fn.m.globals ++ take l.global-index l.globals }
