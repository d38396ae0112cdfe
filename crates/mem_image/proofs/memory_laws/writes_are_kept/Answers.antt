use Rattle.mem_image.proofs.Laws.{read_back, read_elsewhere, writes_commute, poke_whole, poke_places}
use Rattle.mem_image.proofs.memory_laws.writes_are_kept.Goals as goal

pub returns-clause-back : goal.returns-clause-back
returns-clause-back c = read_back

pub returns-clause-others : goal.returns-clause-others
returns-clause-others c mem a n v b m whole h = read_elsewhere mem a n v b m whole h.first h.second h.apart

pub returns-clause-commute : goal.returns-clause-commute
returns-clause-commute c mem a n v b m w whole h = writes_commute mem a n v b m w whole h.first h.second h.apart

pub returns-clause-places : goal.returns-clause-places
returns-clause-places c = record { whole = poke_whole; places = poke_places }
