use Rattle.std.proofs.Common.{◌≡◌, ◌++◌, drop}
use Rattle.ir_flow.specs.Uses.{uses_of_body}
use Rattle.ir_flow.proofs.uses.add_body.Given as goal

abbrev pub invariant-loop-inst : goal.invariant-loop-inst
invariant-loop-inst l = record { place : l.number ≡ l.inst-index; so_far : l.uses.items ++ uses_of_body l.blocks l.block l.inst-index (drop l.inst-index l.body) ≡ l.fn.uses.items ++ uses_of_body l.blocks l.block 0 l.body }
