use Rattle.std.proofs.Common.{◌≡◌, drop}
use Rattle.ir_lines.specs.Lines.{first_break, funcs_lines}
use Rattle.ir_lines.proofs.rules.first_in_funcs.Given as goal

abbrev pub invariant-loop-n : goal.invariant-loop-n
invariant-loop-n g l = first_break (g.R.Rule.keeps l.rule) (funcs_lines l.n (drop l.n l.funcs)) ≡ first_break (g.R.Rule.keeps l.rule) (funcs_lines 0 l.funcs)
