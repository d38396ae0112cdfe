use Rattle.std.proofs.Common.{◌≡◌, ◌++◌, drop}
use Rattle.std.specs.List.{filter_map}
use Rattle.hard_ir.specs.Facts.{width_of_phi}
use Rattle.hard_ir.proofs.widths.add_phis.Given as goal

abbrev pub invariant-loop-phi : goal.invariant-loop-phi
invariant-loop-phi l = l.widths.items ++ filter_map width_of_phi (drop l.phi-index l.phis) ≡ l.fn.widths.items ++ filter_map width_of_phi l.phis
