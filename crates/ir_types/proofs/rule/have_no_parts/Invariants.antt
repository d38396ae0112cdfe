use Rattle.std.proofs.Common.{◌≡◌, drop}
use Rattle.std.specs.List.{list_all}
use Rattle.ir_types.specs.Types.{has_no_parts}
use Rattle.ir_types.proofs.rule.have_no_parts.Given as goal

abbrev pub invariant-loop-ty : goal.invariant-loop-ty
invariant-loop-ty l = list_all has_no_parts (drop l.ty-index l.types) ≡ list_all has_no_parts l.types
