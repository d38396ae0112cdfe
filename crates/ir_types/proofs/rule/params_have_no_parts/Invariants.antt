use Rattle.std.proofs.Common.{◌≡◌, List, map, drop}
use Rattle.std.specs.List.{list_all}
use Rattle.ir_core.specs.declared.types.Ty.{Ty}
use Rattle.ir_core.specs.declared.types.Loc.{Loc}
use Rattle.ir_types.specs.Types.{has_no_parts}
use Rattle.ir_types.proofs.rule.params_have_no_parts.Given as goal

abbrev pub invariant-loop-ty : goal.invariant-loop-ty
invariant-loop-ty l = let types : List (Ty × Loc) → List Ty = map (λ param. param.0) in list_all has_no_parts (types (drop l.ty-index l.params)) ≡ list_all has_no_parts (types l.params)
