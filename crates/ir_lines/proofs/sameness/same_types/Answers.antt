use Rattle.ir_lines.proofs.Parts.{uneven}
use Rattle.ir_lines.proofs.sameness.same_types.Goals as goal

pub returns-then-a-b : goal.returns-then-a-b
returns-then-a-b c = uneven c.args.a.now c.args.b.now c.if-a-b.true
