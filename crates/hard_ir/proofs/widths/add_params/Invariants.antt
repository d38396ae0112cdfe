use Rattle.std.proofs.Common.{◌≡◌, ◌++◌, map, drop}
use Rattle.hard_ir.specs.Facts.{width_of_param}
use Rattle.hard_ir.proofs.widths.add_params.Given as goal

abbrev pub invariant-loop-ty : goal.invariant-loop-ty
invariant-loop-ty l = l.widths.items ++ map width_of_param (drop l.ty-index l.params) ≡ l.fn.widths.items ++ map width_of_param l.params
