use Rattle.tx_bounds.proofs.Steadiness.{runs-steady}
use Rattle.tx_bounds.proofs.laws.attempts_stay_few.Goals as goal

pub returns : goal.returns
returns c = record { steady = runs-steady }
