use Rattle.hard_simulation.proofs.Hardening.{hardened-is-image}
use Rattle.hard_simulation.proofs.Simulation.{told-runs, meant-runs}
use Rattle.hard_simulation.proofs.laws.hardened_runs_stand_for_the_source.Goals as goal

pub returns-clause-images : goal.returns-clause-images
returns-clause-images c = hardened-is-image

pub returns-clause-told : goal.returns-clause-told
returns-clause-told c = λ m h arguments events accepted image free. told-runs m h image accepted arguments events free

pub returns-clause-meaning : goal.returns-clause-meaning
returns-clause-meaning c = λ m h arguments events accepted image free good. meant-runs m h image accepted arguments events free good
