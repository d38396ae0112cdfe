use Rattle.std.proofs.Common.{◌≡◌, ◌++◌, drop}
use Rattle.ir_lines.specs.Lines.{funcs_lines}
use Rattle.ir_names.specs.Names.{definitions_of}
use Rattle.ir_names.proofs.collected.add_funcs.Given as goal

abbrev pub invariant-loop-n : goal.invariant-loop-n
invariant-loop-n l = l.list ++ definitions_of (funcs_lines l.n (drop l.n l.funcs)) ≡ l.fn.list ++ definitions_of (funcs_lines 0 l.funcs)
