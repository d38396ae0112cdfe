use Rattle.tx_bounds.proofs.Events.{commits-where}
use Rattle.tx_bounds.proofs.laws.commits_come_where_they_may.Goals as goal

pub returns : goal.returns
returns c = record { commits = commits-where }
