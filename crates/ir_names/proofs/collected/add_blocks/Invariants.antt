use Rattle.std.proofs.Common.{◌≡◌, ◌++◌, drop}
use Rattle.ir_lines.specs.Lines.{blocks_lines}
use Rattle.ir_names.specs.Names.{definitions_of}
use Rattle.ir_names.proofs.collected.add_blocks.Given as goal

abbrev pub invariant-loop-b : goal.invariant-loop-b
invariant-loop-b l = l.list ++ definitions_of (blocks_lines l.n l.f l.b (drop l.b l.blocks)) ≡ l.fn.list ++ definitions_of (blocks_lines l.n l.f 0 l.blocks)
