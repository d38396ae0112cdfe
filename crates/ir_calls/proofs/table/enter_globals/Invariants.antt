use Rattle.std.proofs.Common.{◌≡◌, map, drop}
use Rattle.std.specs.Option.{option_or}
use Rattle.ir_core.specs.declared.types.Sym.{Sym}
use Rattle.ir_calls.specs.Calls.{first_standing, of_global}
use Rattle.ir_calls.specs.Standings.{looked_up}
use Rattle.ir_calls.proofs.table.enter_globals.Given as goal

-- what is entered and then what is left
abbrev pub invariant-loop-global : goal.invariant-loop-global
invariant-loop-global l = (other : Sym) → option_or (looked_up l.items other) (first_standing other (map of_global (drop l.global-index l.globals))) ≡ option_or (looked_up l.fn.items other) (first_standing other (map of_global l.globals))
