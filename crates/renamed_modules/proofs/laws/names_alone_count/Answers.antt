use Rattle.renamed_modules.proofs.NumberedModules.{are-numbered}
use Rattle.renamed_modules.proofs.SameModules.{renames, same-answers, same-outputs, same-good}
use Rattle.renamed_modules.proofs.RenamedAccepted.{accepted-where-few}
use Rattle.renamed_modules.proofs.laws.names_alone_count.Goals as goal

pub returns-clause-numbered : goal.returns-clause-numbered
returns-clause-numbered c = are-numbered

pub returns-clause-accepted : goal.returns-clause-accepted
returns-clause-accepted c = λ m other same numbered few accepted. accepted-where-few m other same numbered accepted few

pub returns-clause-answers : goal.returns-clause-answers
returns-clause-answers c = λ m other arguments turns same numbered. same-answers m other same numbered arguments turns

pub returns-clause-outputs : goal.returns-clause-outputs
returns-clause-outputs c = λ m other arguments turns same numbered. same-outputs m other same numbered arguments turns

pub returns-clause-good : goal.returns-clause-good
returns-clause-good c = λ m other arguments same numbered good. same-good m other same numbered arguments good
