use Rattle.std.proofs.Common.{◌≡◌, drop, ◌==◌}
use Rattle.std.specs.List.{list_any}
use Rattle.ir_check.specs.Blocks.{enters}
use Rattle.ir_check.proofs.blocks.enters.Given as goal

abbrev pub invariant-loop-to : goal.invariant-loop-to
invariant-loop-to l = list_any (λ edge. edge.1 == 0) (drop l.to-index l.to-items) ≡ enters l.fn.f
