use Rattle.tx_machine.proofs.StruckFrames.{back-same}
use Rattle.tx_machine.proofs.strikes.place_in_caller.Goals as goal

pub returns-clause-same : goal.returns-clause-same
returns-clause-same c =
    back-same c.args.program.now c.args.upset.now c.args.stack.now c.args.depth c.swap.new.frame c.place_in_frame-place.new.frame c.swap.new.self
    c.swap-2.new.self c.swap-2.new.frame c.swap.ensures.frame c.swap.ensures.callers c.swap-2.ensures.callers c.swap-2.ensures.frame
    c.place_in_frame-place.ensures.same
