use Rattle.ir_numbering.proofs.Kept.{HasNumber-with}
use Rattle.ir_numbering.proofs.laws.places_are_numbered.Goals as goal

pub returns : goal.returns
returns c = HasNumber-with
