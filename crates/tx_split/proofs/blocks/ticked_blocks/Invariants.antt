use Rattle.std.proofs.Common.{◌≡◌, take, map}
use Rattle.std.specs.List.{All}
use Rattle.hard_ir.specs.Facts.{IsShort}
use Rattle.hard_ir.specs.Hardened.{ticked_block}
use Rattle.tx_split.proofs.blocks.ticked_blocks.Given as goal

abbrev pub invariant-loop-block : goal.invariant-loop-block
invariant-loop-block l = record { made : l.ticked ≡ map ticked_block (take l.block-index l.blocks); short : All IsShort l.ticked }
