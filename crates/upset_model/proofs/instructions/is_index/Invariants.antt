use Rattle.std.proofs.Common.{◌≡◌, drop}
use Rattle.std.specs.List.{flat_map}
use Rattle.ir_flow.specs.Uses.{reg_in_index}
use Rattle.upset_model.specs.Intervals.{is_in}
use Rattle.upset_model.proofs.instructions.is_index.Given as goal

abbrev pub invariant-loop-val : goal.invariant-loop-val
invariant-loop-val l = is_in l.reg (flat_map reg_in_index (drop l.val-index l.index)) ≡ is_in l.reg (flat_map reg_in_index l.fn.index)
