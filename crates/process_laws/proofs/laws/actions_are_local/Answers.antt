use Rattle.process_laws.proofs.Locality.{same_answer, same_thread, valid_where_done, words_elsewhere}
use Rattle.process_laws.proofs.laws.actions_are_local.Goals as goal

pub returns-clause-answer : goal.returns-clause-answer
returns-clause-answer g c = λ frames. same_answer frames

pub returns-clause-thread : goal.returns-clause-thread
returns-clause-thread g c = λ frames. same_thread frames

pub returns-clause-valid : goal.returns-clause-valid
returns-clause-valid g c = λ frames. valid_where_done frames

pub returns-clause-elsewhere : goal.returns-clause-elsewhere
returns-clause-elsewhere g c = words_elsewhere
