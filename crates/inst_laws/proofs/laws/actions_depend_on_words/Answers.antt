use Rattle.inst_laws.proofs.Agreement.{actions-same, phis-same, assigned-agrees, all_assigned-agrees}
use Rattle.inst_laws.proofs.laws.actions_depend_on_words.Goals as goal

pub returns-clause-action : goal.returns-clause-action
returns-clause-action c = λ l callees a b inst h. actions-same l a b h callees inst

pub returns-clause-phis : goal.returns-clause-phis
returns-clause-phis c = λ l a b label phis h. phis-same l a b h label phis

pub returns-clause-assigned : goal.returns-clause-assigned
returns-clause-assigned c = assigned-agrees

pub returns-clause-all_assigned : goal.returns-clause-all_assigned
returns-clause-all_assigned c = all_assigned-agrees
