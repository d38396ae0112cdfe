use Rattle.std.proofs.Common.{◌≡◌, drop}
use Rattle.std.specs.List.{flat_map}
use Rattle.ir_flow.specs.Uses.{reg_in_arg}
use Rattle.upset_model.specs.Intervals.{is_in}
use Rattle.upset_model.proofs.instructions.is_argument.Given as goal

abbrev pub invariant-loop-val : goal.invariant-loop-val
invariant-loop-val l = is_in l.reg (flat_map reg_in_arg (drop l.val-index l.args)) ≡ is_in l.reg (flat_map reg_in_arg l.fn.args)
