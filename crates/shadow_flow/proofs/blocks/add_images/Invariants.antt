use Rattle.std.proofs.Common.{◌≡◌, ◌++◌, drop}
use Rattle.std.specs.List.{flat_map}
use Rattle.hard_ir.specs.Image.{flow}
use Rattle.shadow_flow.proofs.blocks.add_images.Given as goal

abbrev pub invariant-loop-inst : goal.invariant-loop-inst
invariant-loop-inst l = l.list ++ flat_map flow (drop l.inst-index l.insts) ≡ l.fn.list ++ flat_map flow l.insts
