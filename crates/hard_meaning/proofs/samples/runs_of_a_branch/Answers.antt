use Rattle.hard_meaning.proofs.Rows.{branch-struck, edge-checked}
use Rattle.hard_meaning.proofs.samples.runs_of_a_branch.Goals as goal

pub returns-clause-window : goal.returns-clause-window
returns-clause-window c = branch-struck

pub returns-clause-checked : goal.returns-clause-checked
returns-clause-checked c = edge-checked
