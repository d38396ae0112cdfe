use Rattle.hard_meaning.proofs.Rows.{store-undone, write-conflicts, read-conflicts, both-commit, write-fits, write-overflows, read-fits, read-overflows}
use Rattle.hard_meaning.proofs.samples.runs_with_memory.Goals as goal

pub returns-clause-undone : goal.returns-clause-undone
returns-clause-undone c = store-undone

pub returns-clause-written : goal.returns-clause-written
returns-clause-written c = write-conflicts

pub returns-clause-read : goal.returns-clause-read
returns-clause-read c = read-conflicts

pub returns-clause-apart : goal.returns-clause-apart
returns-clause-apart c = both-commit

pub returns-clause-write_fits : goal.returns-clause-write_fits
returns-clause-write_fits c = write-fits

pub returns-clause-write_full : goal.returns-clause-write_full
returns-clause-write_full c = write-overflows

pub returns-clause-read_fits : goal.returns-clause-read_fits
returns-clause-read_fits c = read-fits

pub returns-clause-read_full : goal.returns-clause-read_full
returns-clause-read_full c = read-overflows
