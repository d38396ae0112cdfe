use Rattle.tx_machine.proofs.StruckFrames.{on-ok, on-err, back-struck, back-same}
use Rattle.tx_machine.proofs.strikes.strike_caller.Goals as goal

pub returns-clause-ok : goal.returns-clause-ok
returns-clause-ok c =
    on-ok c.strike_frame-struck.result
    (back-struck c.args.program.now c.args.upset.now c.args.stack.now c.args.depth c.swap.new.frame c.strike_frame-struck.new.frame c.swap.new.self
    c.swap-2.new.self c.swap-2.new.frame c.swap.ensures.frame c.swap.ensures.callers c.swap-2.ensures.callers c.swap-2.ensures.frame c.requires.depth)
    c.strike_frame-struck.ensures.ok

pub returns-clause-err : goal.returns-clause-err
returns-clause-err c =
    on-err c.strike_frame-struck.result
    (back-same c.args.program.now c.args.upset.now c.args.stack.now c.args.depth c.swap.new.frame c.strike_frame-struck.new.frame c.swap.new.self
    c.swap-2.new.self c.swap-2.new.frame c.swap.ensures.frame c.swap.ensures.callers c.swap-2.ensures.callers c.swap-2.ensures.frame)
    c.strike_frame-struck.ensures.err
