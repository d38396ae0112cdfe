use Rattle.std.proofs.Common.{arith}
use Rattle.ir_numbering.proofs.Filled.{syms-next}
use Rattle.ir_numbering.proofs.tables.add_syms_of.Goals as goal

pub names-preserved : goal.names-preserved
names-preserved c = record {
  within = omega (arith, c.names-test.true, c.sym_count-count.ensures.count);
  front = syms-next c.args.m.now c.names.m c.sym.new.self c.args.table.now.syms c.names.at _ c.sym_count-count.ensures.distinct c.sym_name.ensures c.names.invariant.front c.in_ok-sym.ensures.ok;
}
