use Rattle.ir_numbering.proofs.Adding.{next_of_blocks}
use Rattle.ir_numbering.proofs.functions.fill_blocks.Goals as goal

pub loop-block-preserved : goal.loop-block-preserved
loop-block-preserved c =
    next_of_blocks c.args.text.now c.args.m.now c.args.f.now c.args.blocks.now _ _ c.loop-block.block-index c.block-item.result c.loop-block-test.true c.block-item.is c.loop-block.invariant c.in_ok-fill_block.ensures
