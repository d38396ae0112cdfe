use Rattle.std.proofs.Common.{◌≡◌, drop, None}
use Rattle.std.specs.List.{find}
use Rattle.std.specs.Option.{option_map_or}
use Rattle.upset_model.specs.Windows.{assigns_on, arm_of, phi_value}
use Rattle.upset_model.proofs.edges.phi_value.Given as goal

abbrev pub invariant-loop-on : goal.invariant-loop-on
invariant-loop-on l = option_map_or (arm_of l.label) (find (assigns_on l.side l.reg) (drop l.on-index l.on-items)) None ≡ phi_value l.block l.side l.reg l.label
