use Rattle.std.proofs.Common.{arith}
use Rattle.ir_numbering.proofs.Filled.{type_names-next}
use Rattle.ir_numbering.proofs.tables.add_type_names_of.Goals as goal

pub names-preserved : goal.names-preserved
names-preserved c = record {
  within = omega (arith, c.names-test.true, c.type_count-count.ensures.count);
  front = type_names-next c.args.m.now c.names.m c.type_id.new.self c.args.table.now.type_names c.names.at _ c.type_count-count.ensures.distinct c.type_name.ensures c.names.invariant.front c.in_ok-type_id.ensures.ok;
}
