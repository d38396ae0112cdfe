use Rattle.std.proofs.Common.{◌≡◌, drop}
use Rattle.ir_lines.specs.Lines.{first_told, blocks_lines}
use Rattle.ir_check.specs.CodeLimits.{limit_in}
use Rattle.ir_check.proofs.code_limits.first_of_blocks.Given as goal

abbrev pub invariant-loop-b : goal.invariant-loop-b
invariant-loop-b l = first_told (limit_in l.layout.types) (blocks_lines l.n l.f l.b (drop l.b l.blocks)) ≡ first_told (limit_in l.layout.types) (blocks_lines l.n l.f 0 l.blocks)
