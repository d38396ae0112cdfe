use Rattle.edge_laws.proofs.EdgedModules.{edged-named}
use Rattle.edge_laws.proofs.laws.edged_modules_are_images.Goals as goal

pub returns : goal.returns
returns c = λ m chosen accepted short. edged-named m chosen accepted short
