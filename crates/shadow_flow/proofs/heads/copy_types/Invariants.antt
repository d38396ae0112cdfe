use Rattle.std.proofs.Common.{◌≡◌, ◌++◌, take}
use Rattle.shadow_flow.proofs.heads.copy_types.Given as goal

abbrev pub invariant-loop-id : goal.invariant-loop-id
invariant-loop-id l = l.m ≡ record l.fn.m { types = l.fn.m.types ++ take l.id-index l.types }
