use Rattle.op_table.proofs.Powers.{masked}
use Rattle.op_table.proofs.words.low_bits.Goals as goal

pub returns : goal.returns
returns c = masked c.args.n c.args.count c.requires
