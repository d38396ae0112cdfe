use Rattle.std.proofs.Common.{◌≡◌, ◌++◌, take}
use Rattle.shadow_flow.proofs.heads.copy_params.Given as goal

abbrev pub invariant-loop-ty : goal.invariant-loop-ty
invariant-loop-ty l = l.f ≡ record l.fn.f { params = l.fn.f.params ++ take l.ty-index l.params }
