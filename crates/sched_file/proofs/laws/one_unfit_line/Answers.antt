use Rattle.sched_file.proofs.SoFar.{same_unfit}
use Rattle.sched_file.proofs.laws.one_unfit_line.Goals as goal

pub returns : goal.returns
returns c bytes number other h k = same_unfit bytes number other h k
