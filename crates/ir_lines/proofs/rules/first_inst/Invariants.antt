use Rattle.std.proofs.Common.{◌≡◌, drop}
use Rattle.ir_lines.specs.Lines.{first_break, inst_lines}
use Rattle.ir_lines.proofs.rules.first_inst.Given as goal

abbrev pub invariant-loop-i : goal.invariant-loop-i
invariant-loop-i g l = first_break (g.R.Rule.keeps l.rule) (inst_lines l.n l.f l.b l.i (drop l.i l.insts)) ≡ first_break (g.R.Rule.keeps l.rule) (inst_lines l.n l.f l.b 0 l.insts)
