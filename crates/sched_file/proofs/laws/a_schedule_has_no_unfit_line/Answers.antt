use Rattle.sched_file.proofs.SoFar.{not_unfit}
use Rattle.sched_file.proofs.laws.a_schedule_has_no_unfit_line.Goals as goal

pub returns : goal.returns
returns c bytes args lines number h k = not_unfit bytes args lines number h k
