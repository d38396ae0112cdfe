use Rattle.std.proofs.Common.{◌≡◌, ◌++◌, List, [], ◌∷◌, drop}
use Rattle.std.specs.List.{flat_map}
use Rattle.ir_core.specs.declared.types.Ty.{Ty}
use Rattle.ir_core.specs.declared.types.Loc.{Loc}
use Rattle.ir_numbering.specs.Places.{places_of_ty}
use Rattle.ir_numbering.specs.declared.places.Place.{Place}
use Rattle.ir_numbering.specs.declared.places.Place.TheVariants.{Local}
use Rattle.ir_names.proofs.mentions.places_of_head.Given as goal

abbrev places_of_params : List (Ty × Loc) → List Place
places_of_params = flat_map (λ param. places_of_ty param.0 ++ Local param.1 ∷ [])

abbrev pub invariant-loop-param : goal.invariant-loop-param
invariant-loop-param l = l.places ++ places_of_params (drop l.param-index l.param-items) ≡ l.initial.places ++ places_of_params l.param-items
