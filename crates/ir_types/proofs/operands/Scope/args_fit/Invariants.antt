use Rattle.std.proofs.Common.{◌≡◌, drop}
use Rattle.std.specs.List.{list_all}
use Rattle.ir_types.specs.Scopes.{fits_in}
use Rattle.ir_types.proofs.operands.Scope.args_fit.Given as goal

abbrev pub invariant-loop-ty : goal.invariant-loop-ty
invariant-loop-ty l = list_all (fits_in l.self) (drop l.ty-index l.args) ≡ list_all (fits_in l.self) l.args
