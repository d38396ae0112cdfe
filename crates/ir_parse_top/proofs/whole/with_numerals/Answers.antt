use Rattle.ir_parse_top.specs.Sheet.{with_numerals}
use Rattle.ir_parse_top.proofs.Numerals.{numerals_more, numerals_over}
use Rattle.ir_parse_top.proofs.whole.with_numerals.Goals as goal

pub loop-n-preserved : goal.loop-n-preserved
loop-n-preserved c = numerals_more c.loop-n.bytes.items c.add_numeral.new.text.items (with_numerals c.args.count c.args.text.now) c.loop-n.n c.args.count c.loop-n-test.true c.in_ok-add_numeral.ensures c.loop-n.invariant

pub returns : goal.returns
returns c = numerals_over c.loop-n.bytes.items (with_numerals c.args.count c.args.text.now) c.loop-n.n c.args.count c.loop-n-test.false c.loop-n.invariant
