use Rattle.std.specs.Prelude.{nat_eq}
use Rattle.std.specs.HashMap.{get}
use Rattle.ir_layout.proofs.Definitions.{placed-more}
use Rattle.ir_layout.proofs.named_types.places_of.Goals as goal

pub loop-place-preserved : goal.loop-place-preserved
loop-place-preserved c = placed-more c.args.types.now c.loop-place.place c.index-types-place.result (get nat_eq c.loop-place.places) (get nat_eq c.insert.new.self) c.loop-place-test.true c.index-types-place.is (c.in_ok-insert.ensures.updates.1) (c.in_ok-insert.ensures.updates.2) c.loop-place.invariant
