use Rattle.tx_bounds.proofs.Outer.{ends-outside}
use Rattle.tx_bounds.proofs.laws.little_is_done_outside.Goals as goal

pub returns : goal.returns
returns c = record { outside = ends-outside }
