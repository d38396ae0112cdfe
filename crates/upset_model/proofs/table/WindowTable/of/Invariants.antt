use Rattle.std.proofs.Common.{◌≡◌, map, take}
use Rattle.upset_model.specs.Table.{func_intervals}
use Rattle.upset_model.proofs.table.WindowTable.of.Given as goal

abbrev pub invariant-loop-number : goal.invariant-loop-number
invariant-loop-number l = l.funcs.items ≡ map func_intervals (take l.number l.h.funcs)
