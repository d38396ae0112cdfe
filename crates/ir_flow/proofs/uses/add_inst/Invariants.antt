use Rattle.std.proofs.Common.{◌≡◌, ◌++◌, drop}
use Rattle.std.specs.List.{flat_map}
use Rattle.ir_flow.specs.Uses.{uses_of_arm}
use Rattle.ir_flow.proofs.uses.add_inst.Given as goal

abbrev pub invariant-loop-arm : goal.invariant-loop-arm
invariant-loop-arm l = l.uses.items ++ flat_map (uses_of_arm l.blocks l.block l.number) (drop l.arm-index l.arm-items) ≡ l.initial.uses.items ++ flat_map (uses_of_arm l.blocks l.block l.number) l.arm-items
