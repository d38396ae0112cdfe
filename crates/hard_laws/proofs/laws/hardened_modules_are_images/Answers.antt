use Rattle.hard_laws.proofs.ImageRows.{hardened-is-image, image-loose}
use Rattle.hard_laws.proofs.laws.hardened_modules_are_images.Goals as goal

pub returns-clause-exact : goal.returns-clause-exact
returns-clause-exact c = hardened-is-image

pub returns-clause-loose : goal.returns-clause-loose
returns-clause-loose c = image-loose
