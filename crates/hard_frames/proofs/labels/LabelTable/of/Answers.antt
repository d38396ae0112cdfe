use Rattle.hard_frames.proofs.Tables.{table_more}
use Rattle.hard_frames.proofs.labels.LabelTable.of.Goals as goal

pub loop-number-preserved : goal.loop-number-preserved
loop-number-preserved c = table_more c.args.blocks.now c.loop-number.number c.index-blocks-number.result c.loop-number.table c.set.new.self c.loop-number-test.true c.index-blocks-number.is c.in_ok-set.ensures c.loop-number.invariant
