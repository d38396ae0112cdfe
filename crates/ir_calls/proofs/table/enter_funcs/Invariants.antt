use Rattle.std.proofs.Common.{◌≡◌, map, drop}
use Rattle.std.specs.Option.{option_or}
use Rattle.ir_core.specs.declared.types.Sym.{Sym}
use Rattle.ir_calls.specs.Calls.{first_standing, of_func}
use Rattle.ir_calls.specs.Standings.{looked_up}
use Rattle.ir_calls.proofs.table.enter_funcs.Given as goal

-- what is entered and then what is left
abbrev pub invariant-loop-f : goal.invariant-loop-f
invariant-loop-f l = (other : Sym) → option_or (looked_up l.items other) (first_standing other (map of_func (drop l.f-index l.funcs))) ≡ option_or (looked_up l.fn.items other) (first_standing other (map of_func l.funcs))
