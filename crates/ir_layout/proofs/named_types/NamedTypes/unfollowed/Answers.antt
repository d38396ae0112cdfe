use Rattle.std.proofs.Common.{List, ap, ◌∙◌}
use Rattle.std.specs.Prelude.{nat_eq, Option}
use Rattle.std.specs.HashMap.{get}
use Rattle.ir_layout.specs.NamedTypes.{looked_up}
use Rattle.ir_layout.specs.declared.shapes.KeptShape.{KeptShape}
use Rattle.ir_layout.proofs.Definitions.{unfollowed}
use Rattle.ir_layout.proofs.named_types.NamedTypes.unfollowed.Goals as goal

pub invariant_of-result : goal.invariant_of-result
invariant_of-result c = (rw c.in_ok-types.ensures c.in_ok-places.ensures, λ id. ap (λ (xs : List (Option KeptShape)). looked_up c.in_ok-places.places xs id) c.new.ensures.items ∙ unfollowed c.in_ok-types.types (get nat_eq c.in_ok-places.places id) id)
