use Rattle.std.proofs.Common.{◌≡◌, ◌++◌, List, drop, map}
use Rattle.std.specs.List.{flat_map}
use Rattle.ir_core.specs.declared.types.Ty.{Ty}
use Rattle.ir_core.specs.declared.values.Init.{Init}
use Rattle.ir_numbering.specs.declared.places.Place.{Place}
use Rattle.ir_numbering.specs.Places.{places_of_ty, places_of_init}
use Rattle.ir_numbering.proofs.values.InitNumbered.+add_places.Given as goal

-- the parts with the places of each initialiser, as the definition takes them
abbrev seen : List (Ty × Init) → List Place
seen parts = flat_map (λ (part : Ty × List Place). places_of_ty part.0 ++ part.1) (map (λ (part : Ty × Init). (part.0, places_of_init part.1)) parts)

abbrev pub invariant-loop-ty : goal.invariant-loop-ty
invariant-loop-ty l = l.list ++ seen (drop l.ty-index l.ty-items) ≡ l.fn.list ++ seen l.ty-items
