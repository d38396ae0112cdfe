use Rattle.std.proofs.Common.{◌≡◌, map, take}
use Rattle.std.specs.Prelude.{fold}
use Rattle.ir_layout.specs.Shapes.{known_shape, with_field, nothing}
use Rattle.ir_layout.specs.KeptShapes.{kept}
use Rattle.ir_layout.proofs.offsets.taken.Given as goal

abbrev pub invariant-loop-part : goal.invariant-loop-part
invariant-loop-part l = l.taken ≡ kept (fold with_field nothing (map (known_shape l.types) (take l.part-index l.parts)))
