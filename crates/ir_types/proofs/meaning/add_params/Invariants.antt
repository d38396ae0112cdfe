use Rattle.std.proofs.Common.{◌≡◌, ◌++◌, map, drop}
use Rattle.ir_types.specs.Meanings.{param_meaning}
use Rattle.ir_types.proofs.meaning.add_params.Given as goal

abbrev pub invariant-loop-ty : goal.invariant-loop-ty
invariant-loop-ty l = l.names.items ++ map param_meaning (drop l.ty-index l.params) ≡ l.fn.names.items ++ map param_meaning l.params
