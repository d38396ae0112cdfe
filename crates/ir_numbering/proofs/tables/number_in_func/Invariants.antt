use Rattle.std.proofs.Common.{◌≡◌, take}
use Rattle.ir_numbering.specs.Numbers.{func_with}
use Rattle.ir_numbering.proofs.tables.number_in_func.Given as goal

abbrev pub invariant-loop-place : goal.invariant-loop-place
invariant-loop-place l = l.f ≡ func_with l.text (take l.place-index l.places) l.fn.f
