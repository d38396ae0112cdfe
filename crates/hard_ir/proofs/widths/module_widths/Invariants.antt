use Rattle.std.proofs.Common.{◌≡◌, ◌++◌, drop}
use Rattle.hard_ir.specs.Facts.{module_widths}
use Rattle.hard_ir.proofs.widths.module_widths.Given as goal

abbrev pub invariant-loop-n : goal.invariant-loop-n
invariant-loop-n l = l.tables.items ++ module_widths (drop l.n l.heads) (drop l.n l.funcs) ≡ module_widths l.heads l.funcs
