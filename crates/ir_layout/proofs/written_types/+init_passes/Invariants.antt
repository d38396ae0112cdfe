use Rattle.std.proofs.Common.{◌≡◌, List, ◌∷◌, map, drop}
use Rattle.std.specs.List.{flat_map, list_all}
use Rattle.ir_core.specs.declared.types.Ty.{Ty}
use Rattle.ir_core.specs.declared.values.Init.{Init}
use Rattle.ir_layout.specs.WrittenTypes.{types_in_init}
use Rattle.ir_layout.proofs.written_types.+init_passes.Given as goal

abbrev pub invariant-loop-ty : goal.invariant-loop-ty
invariant-loop-ty g l = let seen : List (Ty × Init) → List Ty = λ parts. flat_map (λ (part : Ty × List Ty). part.0 ∷ part.1) (map (λ (part : Ty × Init). (part.0, types_in_init part.1)) parts) in list_all (g.T.TypeTest.passes l.test) (seen (drop l.ty-index l.ty-items)) ≡ list_all (g.T.TypeTest.passes l.test) (seen l.ty-items)
