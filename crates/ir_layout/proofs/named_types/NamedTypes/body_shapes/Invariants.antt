use Rattle.std.proofs.Common.{◌≡◌, map, take}
use Rattle.std.specs.Option.{option_map}
use Rattle.ir_layout.specs.Shapes.{named_shape, body_shape}
use Rattle.ir_layout.specs.KeptShapes.{kept}
use Rattle.ir_layout.proofs.named_types.NamedTypes.body_shapes.Given as goal

abbrev pub invariant-loop-body : goal.invariant-loop-body
invariant-loop-body l = l.shapes.items ≡ map (λ definition. option_map kept (body_shape (named_shape l.self.types l.self.rounds) definition)) (take l.body-index l.body-items)
