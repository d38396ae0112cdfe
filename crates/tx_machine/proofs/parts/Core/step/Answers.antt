use Rattle.tx_machine.proofs.Turned.{begins-outside}
use Rattle.tx_machine.proofs.parts.Core.step.Goals as goal

pub begin-requires-clause-outside : goal.begin-requires-clause-outside
begin-requires-clause-outside c = begins-outside c.args.self.now c.args.t.0 c.requires.tied
