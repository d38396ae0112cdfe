use Rattle.std.proofs.Common.{◌≡◌, ◌++◌, map, drop}
use Rattle.ir_types.specs.Meanings.{meanings}
use Rattle.ir_types.proofs.rule.names_of_all.Given as goal

abbrev pub invariant-loop-f : goal.invariant-loop-f
invariant-loop-f l = l.names.items ++ map meanings (drop l.f-index l.funcs) ≡ map meanings l.funcs
