-- The hardened module of an accepted module is a loose image of it, so that what is proved of loose images holds of it.
use Rattle.ir_core.specs.Module.{ModuleParts}
use Rattle.hard_ir.specs.Facts.{AreShort}
use Rattle.hard_ir.specs.Hardened.{harden}
use Rattle.hard_ir.specs.Images.{IsLooseImage}
use Rattle.hard_laws.proofs.ImageRows.{hardened-is-image, image-loose}

-- where no list of instructions is too long
pub hardened-loose : (m : ModuleParts) → AreShort (harden m).funcs → IsLooseImage m (harden m)
hardened-loose m short = image-loose m (harden m) (hardened-is-image m short)
