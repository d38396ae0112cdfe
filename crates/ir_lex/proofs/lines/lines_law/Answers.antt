use Rattle.ir_core.proofs.LineLaws.{lines_joined, lines_apart}
use Rattle.ir_lex.proofs.lines.lines_law.Goals as goal

pub returns-clause-joined : goal.returns-clause-joined
returns-clause-joined c = lines_joined c.args.text.now

pub returns-clause-apart : goal.returns-clause-apart
returns-clause-apart c = lines_apart c.args.text.now
