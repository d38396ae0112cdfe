use Rattle.ir_numbering.proofs.Kept.{number_given-with_names}
use Rattle.ir_numbering.proofs.laws.numbers_stay.Goals as goal

pub returns : goal.returns
returns c = number_given-with_names
