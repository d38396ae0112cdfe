use Rattle.std.proofs.Common.{◌≡◌, ◌++◌, drop}
use Rattle.std.specs.List.{filter_map}
use Rattle.hard_ir.specs.Facts.{width_in}
use Rattle.hard_ir.proofs.widths.add_list.Given as goal

abbrev pub invariant-loop-inst : goal.invariant-loop-inst
invariant-loop-inst l = l.widths.items ++ filter_map width_in (drop l.inst-index l.list) ≡ l.fn.widths.items ++ filter_map width_in l.list
