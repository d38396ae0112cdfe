use Rattle.std.proofs.Common.{◌≡◌, ◌++◌, drop}
use Rattle.std.specs.List.{flat_map}
use Rattle.ir_flow.specs.Uses.{reg_in_index}
use Rattle.ir_flow.proofs.uses.add_indices.Given as goal

abbrev pub invariant-loop-val : goal.invariant-loop-val
invariant-loop-val l = l.regs.items ++ flat_map reg_in_index (drop l.val-index l.index) ≡ l.initial.regs.items ++ flat_map reg_in_index l.index
