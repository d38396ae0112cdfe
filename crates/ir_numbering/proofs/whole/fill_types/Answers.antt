use Rattle.ir_numbering.proofs.Adding.{next_of_types}
use Rattle.ir_numbering.proofs.whole.fill_types.Goals as goal

pub loop-named-preserved : goal.loop-named-preserved
loop-named-preserved c =
    next_of_types c.args.text.now c.args.m.now c.args.types.now _ _ c.loop-named.named-index c.named-item.result (c.in_ok-id.id, c.in_ok-id.ty) c.loop-named-test.true c.named-item.is c.in_ok-id.ensures c.loop-named.invariant c.in_ok-add_type.ensures.ok
