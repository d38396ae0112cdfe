use Rattle.std.proofs.Common.{◌≡◌, take, map}
use Rattle.std.specs.List.{All}
use Rattle.hard_ir.specs.Facts.{IsShort}
use Rattle.check_insert.specs.Checks.{checked_block}
use Rattle.check_insert.proofs.blocks.checked_blocks.Given as goal

abbrev pub invariant-loop-block : goal.invariant-loop-block
invariant-loop-block l = record { made : l.checked ≡ map checked_block (take l.block-index l.blocks); short : All IsShort l.checked }
