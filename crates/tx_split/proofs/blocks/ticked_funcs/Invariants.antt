use Rattle.std.proofs.Common.{◌≡◌, take, map}
use Rattle.hard_ir.specs.Facts.{AreShort}
use Rattle.hard_ir.specs.Hardened.{ticked_block}
use Rattle.tx_split.proofs.blocks.ticked_funcs.Given as goal

abbrev pub invariant-loop-blocks : goal.invariant-loop-blocks
invariant-loop-blocks l = record { made : l.ticked ≡ map (map ticked_block) (take l.blocks-index l.funcs); short : AreShort l.ticked }
