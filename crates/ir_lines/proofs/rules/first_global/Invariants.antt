use Rattle.std.proofs.Common.{◌≡◌, map, drop}
use Rattle.ir_lines.specs.Lines.{first_break, GlobalLine}
use Rattle.ir_lines.proofs.rules.first_global.Given as goal

abbrev pub invariant-loop-global : goal.invariant-loop-global
invariant-loop-global g l = first_break (g.R.Rule.keeps l.rule) (map GlobalLine (drop l.global-index l.globals)) ≡ first_break (g.R.Rule.keeps l.rule) (map GlobalLine l.globals)
