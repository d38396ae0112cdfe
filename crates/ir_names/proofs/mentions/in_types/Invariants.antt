use Rattle.std.proofs.Common.{◌≡◌, map, drop}
use Rattle.ir_lines.specs.Lines.{TypeLine}
use Rattle.ir_names.specs.Sets.{has_name}
use Rattle.ir_names.specs.Names.{first_unknown}
use Rattle.ir_names.proofs.mentions.in_types.Given as goal

abbrev pub invariant-loop-id : goal.invariant-loop-id
invariant-loop-id l = first_unknown (has_name l.known) (map TypeLine (drop l.id-index l.types)) ≡ first_unknown (has_name l.known) (map TypeLine l.types)
