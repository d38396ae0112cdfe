use Rattle.ir_numbering.proofs.Kept.{tables_alone}
use Rattle.ir_numbering.proofs.laws.only_tables_change.Goals as goal

pub returns : goal.returns
returns c = tables_alone
