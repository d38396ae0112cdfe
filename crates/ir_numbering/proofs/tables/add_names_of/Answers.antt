use Rattle.std.proofs.Common.{arith}
use Rattle.ir_numbering.proofs.Filled.{names-next}
use Rattle.ir_numbering.proofs.tables.add_names_of.Goals as goal

pub names-preserved : goal.names-preserved
names-preserved c = record {
  within = omega (arith, c.names-test.true, c.loc_count-count.ensures.count);
  front = names-next c.args.f.now c.names.f c.loc.new.self c.args.table.now.names c.names.at _ c.loc_count-count.ensures.distinct c.loc_name.ensures c.names.invariant.front c.in_ok-loc.ensures.ok;
}
