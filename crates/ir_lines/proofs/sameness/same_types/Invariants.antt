use Rattle.std.proofs.Common.{◌≡◌, drop}
use Rattle.ir_lines.specs.SameTypes as same
use Rattle.ir_lines.proofs.sameness.same_types.Given as goal

abbrev pub invariant-loop-place : goal.invariant-loop-place
invariant-loop-place l = same.same_types (drop l.place l.a) (drop l.place l.b) ≡ same.same_types l.a l.b
