use Rattle.std.proofs.Common.{◌≡◌, drop}
use Rattle.ir_lines.specs.Lines.{inst_lines}
use Rattle.ir_names.specs.Sets.{has_name}
use Rattle.ir_names.specs.Names.{first_unknown}
use Rattle.ir_names.proofs.mentions.in_insts.Given as goal

abbrev pub invariant-loop-i : goal.invariant-loop-i
invariant-loop-i l = first_unknown (has_name l.known) (inst_lines l.n l.f l.b l.i (drop l.i l.insts)) ≡ first_unknown (has_name l.known) (inst_lines l.n l.f l.b 0 l.insts)
