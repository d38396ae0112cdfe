use Rattle.std.proofs.Common.{◌≡◌, drop}
use Rattle.ir_layout.specs.Limits.{first_of_types}
use Rattle.ir_layout.proofs.placing.check_types.Given as goal

abbrev pub invariant-loop-id : goal.invariant-loop-id
invariant-loop-id l = first_of_types l.m (drop l.id-index l.id-items) ≡ first_of_types l.m l.m.types
