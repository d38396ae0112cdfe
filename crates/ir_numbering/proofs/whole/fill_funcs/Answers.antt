use Rattle.ir_numbering.proofs.Adding.{next_of_funcs}
use Rattle.ir_numbering.proofs.whole.fill_funcs.Goals as goal

pub loop-func-preserved : goal.loop-func-preserved
loop-func-preserved c =
    next_of_funcs c.args.text.now c.args.m.now c.args.funcs.now _ _ c.loop-func.func-index c.func-item.result _ c.loop-func-test.true c.func-item.is c.in_ok-func.ensures c.loop-func.invariant c.in_ok-add_func.ensures.ok
