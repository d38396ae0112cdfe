use Rattle.ir_grammar.proofs.LineLaws.{instruction_law}
use Rattle.ir_parse_parts.proofs.WholeLines.{within, stands_for, unfit_at}
use Rattle.ir_parse_body.proofs.parse.read_inst.Goals as goal

pub answered-requires : goal.answered-requires
answered-requires c = within instruction_law c.args.line.now c.args.tokens.now c.new-reader.result c.instruction.result c.instruction.new.reader c.len-fitting.result c.new-reader.ensures c.len-fitting.ensures c.instruction.ensures

pub returns-clause-inst : goal.returns-clause-inst
returns-clause-inst c = stands_for instruction_law c.args.line.now c.args.tokens.now c.new-reader.result c.instruction.result c.instruction.new.reader c.len-fitting.result c.new-reader.ensures c.len-fitting.ensures c.instruction.ensures c.answered.result c.answered.ensures

pub returns-clause-unfit : goal.returns-clause-unfit
returns-clause-unfit c = unfit_at instruction_law c.args.line.now c.args.tokens.now c.new-reader.result c.instruction.result c.instruction.new.reader c.len-fitting.result c.new-reader.ensures c.len-fitting.ensures c.instruction.ensures c.answered.result c.answered.ensures
