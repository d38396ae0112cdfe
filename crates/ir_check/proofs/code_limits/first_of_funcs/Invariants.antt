use Rattle.std.proofs.Common.{◌≡◌, drop}
use Rattle.ir_lines.specs.Lines.{first_told, funcs_lines}
use Rattle.ir_check.specs.CodeLimits.{limit_in}
use Rattle.ir_check.proofs.code_limits.first_of_funcs.Given as goal

abbrev pub invariant-loop-n : goal.invariant-loop-n
invariant-loop-n l = first_told (limit_in l.layout.types) (funcs_lines l.n (drop l.n l.funcs)) ≡ first_told (limit_in l.layout.types) (funcs_lines 0 l.funcs)
