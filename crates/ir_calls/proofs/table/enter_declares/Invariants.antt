use Rattle.std.proofs.Common.{◌≡◌, map, drop}
use Rattle.std.specs.Option.{option_or}
use Rattle.ir_core.specs.declared.types.Sym.{Sym}
use Rattle.ir_calls.specs.Calls.{first_standing, of_declare}
use Rattle.ir_calls.specs.Standings.{looked_up}
use Rattle.ir_calls.proofs.table.enter_declares.Given as goal

-- what is entered and then what is left
abbrev pub invariant-loop-declare : goal.invariant-loop-declare
invariant-loop-declare l = (other : Sym) → option_or (looked_up l.items other) (first_standing other (map of_declare (drop l.declare-index l.declares))) ≡ option_or (looked_up l.fn.items other) (first_standing other (map of_declare l.declares))
