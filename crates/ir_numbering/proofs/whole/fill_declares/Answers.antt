use Rattle.ir_numbering.proofs.Adding.{next_of_declares}
use Rattle.ir_numbering.proofs.whole.fill_declares.Goals as goal

pub loop-declare-preserved : goal.loop-declare-preserved
loop-declare-preserved c =
    next_of_declares c.args.text.now c.args.m.now c.args.declares.now _ _ c.loop-declare.declare-index c.declare-item.result _ c.loop-declare-test.true c.declare-item.is c.in_ok-declare.ensures c.loop-declare.invariant c.in_ok-add_declare.ensures.ok
