use Rattle.edge_laws.proofs.EdgedFits.{edged-all-fits}
use Rattle.edge_laws.proofs.laws.edged_modules_fit.Goals as goal

pub returns : goal.returns
returns c = λ m accepted text within. edged-all-fits m within accepted text
