use Rattle.sched_file.proofs.Decided.{verdict}
use Rattle.sched_file.proofs.laws.schedule_or_unfit.Goals as goal

pub returns : goal.returns
returns c = verdict
