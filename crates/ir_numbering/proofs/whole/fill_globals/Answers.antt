use Rattle.ir_numbering.proofs.Adding.{next_of_globals}
use Rattle.ir_numbering.proofs.whole.fill_globals.Goals as goal

pub loop-global-preserved : goal.loop-global-preserved
loop-global-preserved c =
    next_of_globals c.args.text.now c.args.m.now c.args.globals.now _ _ c.loop-global.global-index c.global-item.result _ c.loop-global-test.true c.global-item.is c.in_ok-global.ensures c.loop-global.invariant c.in_ok-add_global.ensures.ok
