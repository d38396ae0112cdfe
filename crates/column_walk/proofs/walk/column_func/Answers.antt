use Rattle.std.proofs.Common.{◌≡◌, ◌∙◌, map}
use Rattle.column_walk.specs.Columns.{outline, pairs_among}
use Rattle.column_walk.proofs.NextBlock.{next_block, next_short}
use Rattle.column_walk.proofs.walk.column_func.Goals as goal

pub loop-n-preserved : goal.loop-n-preserved
loop-n-preserved g c = record {
  made = next_block (g.C.Column.parts c.args.column.now) c.args.f.now (pairs_among (map outline c.args.blocks.now)) c.loop-n.n c.args.blocks.now c.loop-n.made c.push.new.self c.index-blocks-n.result c.in_ok-block.block c.is_marked-is_head.result
      c.loop-n-test.true c.index-blocks-n.is c.is_marked-is_head.ensures c.in_ok-block.ensures.block c.in_ok-push.ensures.ok ∙ c.loop-n.invariant.made;
  short = next_short c.loop-n.made c.push.new.self c.in_ok-block.block c.loop-n.invariant.short c.in_ok-block.ensures.short c.in_ok-push.ensures.ok;
}
