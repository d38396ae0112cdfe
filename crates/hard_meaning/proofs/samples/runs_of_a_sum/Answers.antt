use Rattle.hard_meaning.proofs.Rows.{sum-is-hardened, whole, unfinished, upset-undone, upset-hit, upset-in-window, upset-unused, upset-missed, undone-twice, upset-stacked, hit-stands, trapped}
use Rattle.hard_meaning.proofs.samples.runs_of_a_sum.Goals as goal

pub returns-clause-text : goal.returns-clause-text
returns-clause-text c = sum-is-hardened

pub returns-clause-whole : goal.returns-clause-whole
returns-clause-whole c = whole

pub returns-clause-unfinished : goal.returns-clause-unfinished
returns-clause-unfinished c = unfinished

pub returns-clause-undone : goal.returns-clause-undone
returns-clause-undone c = upset-undone

pub returns-clause-hit : goal.returns-clause-hit
returns-clause-hit c = upset-hit

pub returns-clause-window : goal.returns-clause-window
returns-clause-window c = upset-in-window

pub returns-clause-unused : goal.returns-clause-unused
returns-clause-unused c = upset-unused

pub returns-clause-missed : goal.returns-clause-missed
returns-clause-missed c = upset-missed

pub returns-clause-undone_twice : goal.returns-clause-undone_twice
returns-clause-undone_twice c = undone-twice

pub returns-clause-stacked : goal.returns-clause-stacked
returns-clause-stacked c = upset-stacked

pub returns-clause-stands : goal.returns-clause-stands
returns-clause-stands c = hit-stands

pub returns-clause-trapped : goal.returns-clause-trapped
returns-clause-trapped c = trapped
