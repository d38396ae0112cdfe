use Rattle.std.proofs.Common.{◌≡◌, List, map, drop}
use Rattle.std.specs.List.{list_all}
use Rattle.ir_core.specs.declared.types.Ty.{Ty}
use Rattle.ir_core.specs.declared.types.TypeId.{TypeId}
use Rattle.ir_layout.proofs.written_types.bodies_pass.Given as goal

abbrev pub invariant-loop-body : goal.invariant-loop-body
invariant-loop-body g l = let bodies : List (TypeId × Ty) → List Ty = map (λ named. named.1) in list_all (g.T.TypeTest.passes l.test) (bodies (drop l.body-index l.types)) ≡ list_all (g.T.TypeTest.passes l.test) (bodies l.types)
