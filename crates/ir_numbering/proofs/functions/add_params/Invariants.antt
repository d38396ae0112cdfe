use Rattle.std.proofs.Common.{◌≡◌, ◌++◌, List, drop, map}
use Rattle.ir_core.specs.declared.types.Ty.{Ty}
use Rattle.ir_core.specs.declared.types.Loc.{Loc}
use Rattle.ir_numbering.specs.declared.places.Place.{Place}
use Rattle.ir_numbering.specs.declared.places.Place.TheVariants.{Local}
use Rattle.ir_numbering.proofs.functions.add_params.Given as goal

abbrev defined : List (Ty × Loc) → List Place
defined = map (λ (param : Ty × Loc). Local param.1)

abbrev pub invariant-loop-at : goal.invariant-loop-at
invariant-loop-at l = l.list ++ defined (drop l.at-index l.params) ≡ l.fn.list ++ defined l.params
