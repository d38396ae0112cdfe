use Rattle.tx_simulation.proofs.GoodRows.{elided, aborted, fallen-back, healed-inside, stopped-outside, hit-late, hit-twice, hit-between}
use Rattle.tx_simulation.proofs.samples.runs_of_two_threads.Goals as goal

pub returns-clause-elided : goal.returns-clause-elided
returns-clause-elided c = elided

pub returns-clause-aborted : goal.returns-clause-aborted
returns-clause-aborted c = aborted

pub returns-clause-fallen_back : goal.returns-clause-fallen_back
returns-clause-fallen_back c = fallen-back

pub returns-clause-undone : goal.returns-clause-undone
returns-clause-undone c = healed-inside

pub returns-clause-stopped : goal.returns-clause-stopped
returns-clause-stopped c = stopped-outside

pub returns-clause-unused : goal.returns-clause-unused
returns-clause-unused c = hit-late

pub returns-clause-stacked : goal.returns-clause-stacked
returns-clause-stacked c = hit-twice

pub returns-clause-window : goal.returns-clause-window
returns-clause-window c = hit-between
