use Rattle.std.proofs.Common.{◌≡◌, ◌++◌, map, take}
use Rattle.hard_ir.specs.Hardened.{head_of}
use Rattle.shadow_flow.proofs.heads.copy_heads.Given as goal

abbrev pub invariant-loop-f : goal.invariant-loop-f
invariant-loop-f l = l.m ≡ record l.fn.m { funcs = l.fn.m.funcs ++ map head_of (take l.f-index l.funcs) }
