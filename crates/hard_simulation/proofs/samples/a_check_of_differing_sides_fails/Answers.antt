use Rattle.hard_simulation.proofs.Differing.{goes-on, fails-then}
use Rattle.hard_simulation.proofs.samples.a_check_of_differing_sides_fails.Goals as goal

pub returns-clause-before : goal.returns-clause-before
returns-clause-before c = goes-on

pub returns-clause-fails : goal.returns-clause-fails
returns-clause-fails c = fails-then
