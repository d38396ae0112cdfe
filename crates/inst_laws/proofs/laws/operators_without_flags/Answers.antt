use Rattle.inst_laws.proofs.Flags.{action-plain}
use Rattle.inst_laws.proofs.laws.operators_without_flags.Goals as goal

pub returns : goal.returns
returns c = action-plain
