use Rattle.std.proofs.Common.{◌≡◌, ◌++◌, drop}
use Rattle.ir_lines.specs.Lines.{inst_lines}
use Rattle.ir_names.specs.Names.{definitions_of}
use Rattle.ir_names.proofs.collected.add_results.Given as goal

abbrev pub invariant-loop-i : goal.invariant-loop-i
invariant-loop-i l = l.list ++ definitions_of (inst_lines l.n l.f l.b l.i (drop l.i l.insts)) ≡ l.fn.list ++ definitions_of (inst_lines l.n l.f l.b 0 l.insts)
