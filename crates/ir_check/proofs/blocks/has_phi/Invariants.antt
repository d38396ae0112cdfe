use Rattle.std.proofs.Common.{◌≡◌, drop}
use Rattle.std.specs.List.{list_any}
use Rattle.ir_core.specs.Instructions.{is_phi}
use Rattle.ir_check.proofs.blocks.has_phi.Given as goal

abbrev pub invariant-loop-inst : goal.invariant-loop-inst
invariant-loop-inst l = list_any is_phi (drop l.inst-index l.body) ≡ list_any is_phi l.body
