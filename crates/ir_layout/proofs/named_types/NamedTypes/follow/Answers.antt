use Rattle.std.proofs.Common.{◌≡◌, map, sym, subst}
use Rattle.std.specs.Prelude.{nat_eq}
use Rattle.std.specs.Option.{option_map}
use Rattle.std.specs.HashMap.{get}
use Rattle.ir_layout.specs.Shapes.{body_shape, named_shape}
use Rattle.ir_layout.specs.KeptShapes.{kept}
use Rattle.ir_layout.specs.Followed.{Followed}
use Rattle.ir_layout.proofs.Definitions.{followed}
use Rattle.ir_layout.proofs.named_types.NamedTypes.follow.Goals as goal

pub invariant_of-self : goal.invariant_of-self
invariant_of-self c =
    let shapes = subst (λ (n : Followed). c.in_ok-shapes.shapes.items ≡ map (λ d. option_map kept (body_shape (named_shape n.types n.rounds) d)) n.types) (sym c.self.view_is) c.in_ok-shapes.ensures in
    (c.self.invariant.0, λ id. followed c.self.inside.types c.self.inside.rounds (get nat_eq c.self.inside.places id) id c.in_ok-shapes.shapes.items (c.self.invariant.0 id) shapes)
