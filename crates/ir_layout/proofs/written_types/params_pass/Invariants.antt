use Rattle.std.proofs.Common.{◌≡◌, List, map, drop}
use Rattle.std.specs.List.{list_all}
use Rattle.ir_core.specs.declared.types.Ty.{Ty}
use Rattle.ir_core.specs.declared.types.Loc.{Loc}
use Rattle.ir_layout.proofs.written_types.params_pass.Given as goal

abbrev pub invariant-loop-ty : goal.invariant-loop-ty
invariant-loop-ty g l = let types : List (Ty × Loc) → List Ty = map (λ param. param.0) in list_all (g.T.TypeTest.passes l.test) (types (drop l.ty-index l.params)) ≡ list_all (g.T.TypeTest.passes l.test) (types l.params)
