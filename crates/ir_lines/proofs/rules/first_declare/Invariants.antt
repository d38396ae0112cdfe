use Rattle.std.proofs.Common.{◌≡◌, map, drop}
use Rattle.ir_lines.specs.Lines.{first_break, DeclareLine}
use Rattle.ir_lines.proofs.rules.first_declare.Given as goal

abbrev pub invariant-loop-declare : goal.invariant-loop-declare
invariant-loop-declare g l = first_break (g.R.Rule.keeps l.rule) (map DeclareLine (drop l.declare-index l.declares)) ≡ first_break (g.R.Rule.keeps l.rule) (map DeclareLine l.declares)
