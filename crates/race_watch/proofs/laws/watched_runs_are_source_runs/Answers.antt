use Rattle.race_watch.proofs.SourceRuns.{watch-runs, good-finds-none}
use Rattle.race_watch.proofs.laws.watched_runs_are_source_runs.Goals as goal

pub returns-clause-source : goal.returns-clause-source
returns-clause-source c = watch-runs

pub returns-clause-good : goal.returns-clause-good
returns-clause-good c = good-finds-none
