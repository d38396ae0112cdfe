use Rattle.std.proofs.Common.{◌≡◌, ◌++◌, drop}
use Rattle.std.specs.List.{flat_map}
use Rattle.ir_flow.specs.Uses.{reg_in_arg}
use Rattle.upset_model.proofs.instructions.add_arguments.Given as goal

abbrev pub invariant-loop-val : goal.invariant-loop-val
invariant-loop-val l = l.regs.items ++ flat_map reg_in_arg (drop l.val-index l.args) ≡ l.fn.regs.items ++ flat_map reg_in_arg l.args
