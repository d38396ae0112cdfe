use Rattle.std.proofs.Common.{◌≡◌, drop}
use Rattle.ir_lines.specs.Lines.{first_told, inst_lines}
use Rattle.ir_check.specs.CodeLimits.{limit_in}
use Rattle.ir_check.proofs.code_limits.first_of_insts.Given as goal

abbrev pub invariant-loop-i : goal.invariant-loop-i
invariant-loop-i l = first_told (limit_in l.layout.types) (inst_lines l.n l.f l.b l.i (drop l.i l.insts)) ≡ first_told (limit_in l.layout.types) (inst_lines l.n l.f l.b 0 l.insts)
