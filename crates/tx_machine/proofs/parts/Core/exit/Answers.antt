use Rattle.std.proofs.Common.{true, ◌∙◌, ap}
use Rattle.tx_machine.specs.Core.{core_untold}
use Rattle.tx_machine.proofs.Told.{untold-told}
use Rattle.tx_machine.proofs.parts.Core.exit.Goals as goal

pub returns-in-Err-clause-err : goal.returns-in-Err-clause-err
returns-in-Err-clause-err c = c.untell.ensures ∙ ap (core_untold true c.args.t.0) (c.in-Err.ensures.err ∙ c.in_ok-tell.ensures.ok)
    ∙ untold-told true c.args.t.0 c.args.self.now
