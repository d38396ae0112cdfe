use Rattle.std.proofs.Common.{◌≡◌, map, drop}
use Rattle.ir_lines.specs.Lines.{DeclareLine}
use Rattle.ir_names.specs.Sets.{has_name}
use Rattle.ir_names.specs.Names.{first_unknown}
use Rattle.ir_names.proofs.mentions.in_declares.Given as goal

abbrev pub invariant-loop-declare : goal.invariant-loop-declare
invariant-loop-declare l = first_unknown (has_name l.known) (map DeclareLine (drop l.declare-index l.declares)) ≡ first_unknown (has_name l.known) (map DeclareLine l.declares)
