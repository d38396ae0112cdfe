use Rattle.std.proofs.Common.{sym}
use Rattle.inst_meaning.proofs.Takes.{map-take_more}
use Rattle.inst_meaning.specs.Action.{outside_callee}
use Rattle.inst_meaning.proofs.calls.outside.Goals as goal

pub loop-number-preserved : goal.loop-number-preserved
loop-number-preserved c =
    rw (c.in_ok-push.ensures.items, c.loop-number.invariant, c.outside_callee.ensures) (sym (map-take_more outside_callee c.args.m.now.syms c.loop-number.number c.sym_name.result.now c.sym_name.ensures))
