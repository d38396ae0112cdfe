use Rattle.src_laws.proofs.Steps.{is_step, ended_idle}
use Rattle.src_laws.proofs.laws.steps_that_do_nothing.Goals as goal

pub returns-clause-still : goal.returns-clause-still
returns-clause-still c = is_step

pub returns-clause-over : goal.returns-clause-over
returns-clause-over c = ended_idle
