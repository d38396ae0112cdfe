use Rattle.std.proofs.Common.{◌≡◌, ◌++◌, map, take}
use Rattle.ir_numbering.specs.Numbers.{numbered_func}
use Rattle.ir_numbering.proofs.whole.fill_funcs.Given as goal

abbrev pub invariant-loop-func : goal.invariant-loop-func
invariant-loop-func l = l.m ≡ record l.fn.m { funcs = l.fn.m.funcs ++ map (numbered_func l.text l.fn.m) (take l.func-index l.funcs) }
