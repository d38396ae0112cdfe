use Rattle.std.proofs.Common.{◌≡◌, take}
use Rattle.hard_ir.specs.Facts.{AreShort}
use Rattle.check_insert.specs.Checks.{checked_funcs}
use Rattle.check_insert.proofs.blocks.checked_funcs.Given as goal

abbrev pub invariant-loop-blocks : goal.invariant-loop-blocks
invariant-loop-blocks l = record { made : l.checked ≡ checked_funcs (take l.blocks-index l.funcs); short : AreShort l.checked }
