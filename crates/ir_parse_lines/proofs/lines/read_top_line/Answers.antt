use Rattle.ir_grammar.proofs.TopLaws.{top_line_law}
use Rattle.ir_parse_parts.proofs.WholeLines.{within, stands_for, unfit_at}
use Rattle.ir_parse_lines.proofs.lines.read_top_line.Goals as goal

pub answered-requires : goal.answered-requires
answered-requires c = within top_line_law c.args.line.now c.args.tokens.now c.new-reader.result c.top_line.result c.top_line.new.reader c.len-fitting.result c.new-reader.ensures c.len-fitting.ensures c.top_line.ensures

pub returns-clause-line : goal.returns-clause-line
returns-clause-line c = stands_for top_line_law c.args.line.now c.args.tokens.now c.new-reader.result c.top_line.result c.top_line.new.reader c.len-fitting.result c.new-reader.ensures c.len-fitting.ensures c.top_line.ensures c.answered.result c.answered.ensures

pub returns-clause-unfit : goal.returns-clause-unfit
returns-clause-unfit c = unfit_at top_line_law c.args.line.now c.args.tokens.now c.new-reader.result c.top_line.result c.top_line.new.reader c.len-fitting.result c.new-reader.ensures c.len-fitting.ensures c.top_line.ensures c.answered.result c.answered.ensures
