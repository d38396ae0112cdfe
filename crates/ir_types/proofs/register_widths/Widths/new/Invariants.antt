use Rattle.std.proofs.Common.{◌≡◌, ◌++◌, map, drop}
use Rattle.ir_types.specs.Tables.{widths}
use Rattle.ir_types.proofs.register_widths.Widths.new.Given as goal

abbrev pub invariant-loop-f : goal.invariant-loop-f
invariant-loop-f l = l.funcs.items ++ map widths (drop l.f-index l.f-items) ≡ map widths l.f-items
