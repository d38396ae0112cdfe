use Rattle.std.proofs.Common.{◌≡◌, ◌++◌, drop, map}
use Rattle.std.specs.List.{flat_map}
use Rattle.ir_numbering.specs.Places.{places_of_ty}
use Rattle.ir_numbering.proofs.values.TyNumbered.+add_places.Given as goal

abbrev pub invariant-loop-part : goal.invariant-loop-part
invariant-loop-part l = l.list ++ flat_map (λ part. part) (map places_of_ty (drop l.part-index l.part-items)) ≡ l.fn.list ++ flat_map (λ part. part) (map places_of_ty l.part-items)
