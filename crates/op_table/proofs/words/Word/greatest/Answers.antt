use Rattle.op_table.proofs.Powers.{greatest_is}
use Rattle.op_table.proofs.words.Word.greatest.Goals as goal

pub returns : goal.returns
returns g c = greatest_is g.row.W c.requires
