use Rattle.std.proofs.Common.{◌≡◌, drop}
use Rattle.ir_lines.specs.Lines.{funcs_lines}
use Rattle.ir_names.specs.Sets.{has_name}
use Rattle.ir_names.specs.Names.{first_unknown}
use Rattle.ir_names.proofs.mentions.in_funcs.Given as goal

abbrev pub invariant-loop-n : goal.invariant-loop-n
invariant-loop-n l = first_unknown (has_name l.known) (funcs_lines l.n (drop l.n l.funcs)) ≡ first_unknown (has_name l.known) (funcs_lines 0 l.funcs)
