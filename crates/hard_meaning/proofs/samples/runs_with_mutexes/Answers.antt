use Rattle.hard_meaning.proofs.Rows.{locked-twice, locks-watched, watch-conflicts, falls-back}
use Rattle.hard_meaning.proofs.samples.runs_with_mutexes.Goals as goal

pub returns-clause-twice : goal.returns-clause-twice
returns-clause-twice c = locked-twice

pub returns-clause-watched : goal.returns-clause-watched
returns-clause-watched c = locks-watched

pub returns-clause-taken : goal.returns-clause-taken
returns-clause-taken c = watch-conflicts

pub returns-clause-held : goal.returns-clause-held
returns-clause-held c = falls-back
