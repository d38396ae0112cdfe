use Rattle.std.proofs.Common.{◌∙◌, ap}
use Rattle.tx_machine.specs.Core.{core_untold}
use Rattle.tx_machine.proofs.Told.{untold-told}
use Rattle.tx_machine.proofs.parts.Core.call_done.Goals as goal

pub returns-in-Err-clause-err : goal.returns-in-Err-clause-err
returns-in-Err-clause-err c = c.untell.ensures ∙ ap (core_untold c.args.retires c.args.t.0) (c.in-Err.ensures.err ∙ c.in_ok-tell.ensures.ok)
    ∙ untold-told c.args.retires c.args.t.0 c.args.self.now
