use Rattle.std.proofs.Common.{◌≡◌, List, map, drop}
use Rattle.std.specs.List.{list_all}
use Rattle.ir_core.specs.declared.types.Ty.{Ty}
use Rattle.std.proofs.Common.{Bool}
use Rattle.ir_core.specs.declared.values.Init.{Init}
use Rattle.ir_types.specs.Types.{init_fits, part_fits, fields_fit}
use Rattle.ir_types.proofs.initialisers.+init_fits.Given as goal

abbrev pub invariant-loop-own : goal.invariant-loop-own
invariant-loop-own l = let asked : List (Ty × Init) → List (Ty × (Ty → Bool)) = map (λ (part : Ty × Init). (part.0, init_fits l.layout.types part.1)) in list_all (part_fits l.element) (asked (drop l.own-index l.parts)) ≡ list_all (part_fits l.element) (asked l.parts)

abbrev pub invariant-loop-written : goal.invariant-loop-written
invariant-loop-written l = let asked : List (Ty × Init) → List (Ty × (Ty → Bool)) = map (λ (part : Ty × Init). (part.0, init_fits l.layout.types part.1)) in fields_fit l.fields (asked (drop l.written-index l.written-items)) ≡ fields_fit l.initial.fields (asked l.written-items)
