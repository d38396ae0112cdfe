use Rattle.std.proofs.Common.{◌≡◌, ◌++◌, drop}
use Rattle.std.specs.List.{flat_map}
use Rattle.hard_ir.specs.Image.{phi_image}
use Rattle.shadow_flow.proofs.blocks.phis_of.Given as goal

abbrev pub invariant-loop-inst : goal.invariant-loop-inst
invariant-loop-inst l = l.phis ++ flat_map phi_image (drop l.inst-index l.insts) ≡ flat_map phi_image l.insts
