use Rattle.ir_layout.proofs.Fields.{taken-more}
use Rattle.ir_layout.proofs.offsets.taken.Goals as goal

pub loop-part-preserved : goal.loop-part-preserved
loop-part-preserved c = rw c.with_field-taken.ensures (taken-more c.args.types.now c.args.parts.now c.loop-part.part-index c.part-item.result c.loop-part.taken c.known_shape.result c.loop-part-test.true c.part-item.is c.loop-part.invariant c.known_shape.ensures)
