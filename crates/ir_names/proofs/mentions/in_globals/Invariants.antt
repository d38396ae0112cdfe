use Rattle.std.proofs.Common.{◌≡◌, map, drop}
use Rattle.ir_lines.specs.Lines.{GlobalLine}
use Rattle.ir_names.specs.Sets.{has_name}
use Rattle.ir_names.specs.Names.{first_unknown}
use Rattle.ir_names.proofs.mentions.in_globals.Given as goal

abbrev pub invariant-loop-global : goal.invariant-loop-global
invariant-loop-global l = first_unknown (has_name l.known) (map GlobalLine (drop l.global-index l.globals)) ≡ first_unknown (has_name l.known) (map GlobalLine l.globals)
