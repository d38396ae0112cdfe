use Rattle.ir_grammar.proofs.TopLaws.{body_line_law}
use Rattle.ir_grammar.proofs.Lines.{decided}
use Rattle.ir_grammar.proofs.laws.body_line_or_unfit.Goals as goal

pub returns : goal.returns
returns c = decided body_line_law
