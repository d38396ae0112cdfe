use Rattle.std.proofs.Common.{◌≡◌, drop}
use Rattle.ir_lines.specs.Lines.{blocks_lines}
use Rattle.ir_names.specs.Sets.{has_name}
use Rattle.ir_names.specs.Names.{first_unknown}
use Rattle.ir_names.proofs.mentions.in_blocks.Given as goal

abbrev pub invariant-loop-b : goal.invariant-loop-b
invariant-loop-b l = first_unknown (has_name l.known) (blocks_lines l.n l.f l.b (drop l.b l.blocks)) ≡ first_unknown (has_name l.known) (blocks_lines l.n l.f 0 l.blocks)
