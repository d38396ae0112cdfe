use Rattle.ir_grammar.proofs.LineLaws.{instruction_law}
use Rattle.ir_grammar.proofs.Lines.{decided}
use Rattle.ir_grammar.proofs.laws.instruction_or_unfit.Goals as goal

pub returns : goal.returns
returns c = decided instruction_law
