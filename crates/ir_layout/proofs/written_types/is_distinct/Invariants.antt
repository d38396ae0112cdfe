use Rattle.std.proofs.Common.{◌≡◌, drop}
use Rattle.ir_layout.specs.WrittenTypes.{are_distinct}
use Rattle.ir_layout.proofs.written_types.is_distinct.Given as goal

abbrev pub invariant-loop-place : goal.invariant-loop-place
invariant-loop-place l = are_distinct (drop l.place l.types) ≡ are_distinct l.types
