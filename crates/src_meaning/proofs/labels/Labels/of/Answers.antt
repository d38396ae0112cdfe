use Rattle.std.proofs.Common.{arith}
use Rattle.std.proofs.lemmas.Grind.{common_steps}
use Rattle.src_meaning.proofs.Tables.{AreTables-more}
use Rattle.src_meaning.proofs.labels.Labels.of.Goals as goal

pub loop-f-preserved : goal.loop-f-preserved
loop-f-preserved c = record {
  count = grind (arith, common_steps);
  each = AreTables-more c.args.funcs.now c.loop-f.f-index c.f-item.result c.loop-f.tables.items c.push.new.self.items c.in_ok-of.field-0 c.loop-f-test.true c.f-item.is c.loop-f.invariant.count c.in_ok-push.ensures.items c.loop-f.invariant.each (rw c.blocks-in-loop-f.ensures at c.in_ok-of.ensures);
}
