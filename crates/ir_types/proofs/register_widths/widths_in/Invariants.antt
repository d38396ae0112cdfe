use Rattle.std.proofs.Common.{◌≡◌, ◌++◌, map, drop}
use Rattle.ir_types.specs.Tables.{with_width}
use Rattle.ir_types.proofs.register_widths.widths_in.Given as goal

abbrev pub invariant-loop-at : goal.invariant-loop-at
invariant-loop-at l = l.all.items ++ map with_width (drop l.at-index l.names) ≡ map with_width l.names
