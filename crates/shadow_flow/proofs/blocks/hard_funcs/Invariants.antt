use Rattle.std.proofs.Common.{◌≡◌, take, map}
use Rattle.hard_ir.specs.Hardened.{hard_func}
use Rattle.hard_ir.specs.Image.{flow_table}
use Rattle.hard_ir.specs.Facts.{AreShort}
use Rattle.shadow_flow.proofs.blocks.hard_funcs.Given as goal

abbrev pub invariant-loop-f : goal.invariant-loop-f
invariant-loop-f l = record { made : l.hardened ≡ map (hard_func flow_table) (take l.f-index l.funcs); short : AreShort l.hardened }
