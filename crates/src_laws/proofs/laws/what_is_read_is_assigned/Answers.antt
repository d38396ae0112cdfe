use Rattle.src_laws.proofs.Reading.{stands-next, reads-next}
use Rattle.src_laws.proofs.laws.what_is_read_is_assigned.Goals as goal

pub returns-clause-stands : goal.returns-clause-stands
returns-clause-stands c = stands-next

pub returns-clause-words : goal.returns-clause-words
returns-clause-words c = reads-next
