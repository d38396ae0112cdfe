use Rattle.ir_grammar.proofs.TopLaws.{top_line_law}
use Rattle.ir_grammar.proofs.Lines.{decided}
use Rattle.ir_grammar.proofs.laws.top_line_or_unfit.Goals as goal

pub returns : goal.returns
returns c = decided top_line_law
