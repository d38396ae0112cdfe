use Rattle.hard_laws.proofs.Fitting.{flow-fits, check-fits, relax-fits, place-fits, harden-fits}
use Rattle.hard_laws.proofs.laws.accepted_modules_fit.Goals as goal

pub returns-clause-flow : goal.returns-clause-flow
returns-clause-flow c = flow-fits

pub returns-clause-checks : goal.returns-clause-checks
returns-clause-checks c = check-fits

pub returns-clause-relax : goal.returns-clause-relax
returns-clause-relax c = relax-fits

pub returns-clause-place : goal.returns-clause-place
returns-clause-place c = place-fits

pub returns-clause-whole : goal.returns-clause-whole
returns-clause-whole c = harden-fits
