use Rattle.std.proofs.Common.{◌≡◌, map, drop}
use Rattle.std.specs.List.{list_all}
use Rattle.ir_types.specs.Scopes.{fits_in}
use Rattle.ir_types.specs.Types.{typed_arm}
use Rattle.ir_types.proofs.operands.Scope.arms_fit.Given as goal

abbrev pub invariant-loop-val : goal.invariant-loop-val
invariant-loop-val l = list_all (fits_in l.self) (map (typed_arm l.ty) (drop l.val-index l.arms)) ≡ list_all (fits_in l.self) (map (typed_arm l.ty) l.arms)
