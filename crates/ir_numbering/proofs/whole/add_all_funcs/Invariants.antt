use Rattle.std.proofs.Common.{◌≡◌, ◌++◌, drop}
use Rattle.std.specs.List.{flat_map}
use Rattle.ir_numbering.specs.Places.{places_of_func}
use Rattle.ir_numbering.proofs.whole.add_all_funcs.Given as goal

abbrev pub invariant-loop-func : goal.invariant-loop-func
invariant-loop-func l = l.list ++ flat_map places_of_func (drop l.func-index l.funcs) ≡ l.fn.list ++ flat_map places_of_func l.funcs
