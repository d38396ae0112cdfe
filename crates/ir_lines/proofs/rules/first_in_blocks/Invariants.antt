use Rattle.std.proofs.Common.{◌≡◌, drop}
use Rattle.ir_lines.specs.Lines.{first_break, blocks_lines}
use Rattle.ir_lines.proofs.rules.first_in_blocks.Given as goal

abbrev pub invariant-loop-b : goal.invariant-loop-b
invariant-loop-b g l = first_break (g.R.Rule.keeps l.rule) (blocks_lines l.n l.f l.b (drop l.b l.blocks)) ≡ first_break (g.R.Rule.keeps l.rule) (blocks_lines l.n l.f 0 l.blocks)
