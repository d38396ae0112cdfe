use Rattle.std.proofs.Common.{◌≡◌, map, drop}
use Rattle.ir_lines.specs.SameTypes.{same_types}
use Rattle.ir_calls.specs.Scalars.{type_of}
use Rattle.ir_calls.proofs.scalars.are.Given as goal

abbrev pub invariant-loop-ty : goal.invariant-loop-ty
invariant-loop-ty l = same_types (drop l.ty-index l.types) (map type_of l.left) ≡ same_types l.types (map type_of l.scalars)
