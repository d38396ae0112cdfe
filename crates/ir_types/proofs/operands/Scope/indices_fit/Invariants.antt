use Rattle.std.proofs.Common.{◌≡◌, map, drop}
use Rattle.std.specs.List.{list_all}
use Rattle.ir_types.specs.Scopes.{fits_in}
use Rattle.ir_types.specs.Types.{typed_index}
use Rattle.ir_types.proofs.operands.Scope.indices_fit.Given as goal

abbrev pub invariant-loop-width : goal.invariant-loop-width
invariant-loop-width l = list_all (fits_in l.self) (map typed_index (drop l.width-index l.indices)) ≡ list_all (fits_in l.self) (map typed_index l.indices)
