use Rattle.tx_simulation.proofs.AcceptedSamples.{sum-accepted, counted-accepted}
use Rattle.tx_simulation.proofs.GoodSum.{sum-good}
use Rattle.tx_simulation.proofs.GoodThreads.{counted-good}
use Rattle.tx_simulation.proofs.GoodPrograms.{sum-meant, counted-meant}
use Rattle.tx_simulation.proofs.samples.good_programs_exist.Goals as goal

pub returns-clause-accepted : goal.returns-clause-accepted
returns-clause-accepted c = (sum-accepted, counted-accepted)

pub returns-clause-good : goal.returns-clause-good
returns-clause-good c = λ arguments. (sum-good arguments, counted-good arguments)

pub returns-clause-sums_mean : goal.returns-clause-sums_mean
returns-clause-sums_mean c = sum-meant

pub returns-clause-counts_mean : goal.returns-clause-counts_mean
returns-clause-counts_mean c = counted-meant
