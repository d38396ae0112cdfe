use Rattle.std.proofs.Common.{◌≡◌, map, drop}
use Rattle.ir_core.specs.declared.types.Ty.{Ty}
use Rattle.ir_core.specs.declared.values.Val.{Val}
use Rattle.ir_lines.specs.SameTypes.{same_types}
use Rattle.ir_calls.proofs.signatures.args_are.Given as goal

abbrev pub invariant-loop-arg : goal.invariant-loop-arg
invariant-loop-arg l = same_types (map (λ (arg : Ty × Val). arg.0) (drop l.arg-index l.args)) l.left ≡ same_types (map (λ (arg : Ty × Val). arg.0) l.args) l.types
