use Rattle.std.proofs.Common.{◌≡◌, take}
use Rattle.ir_core.proofs.copying.TyCopied.+copy.Given as goal

abbrev pub invariant-loop-part : goal.invariant-loop-part
invariant-loop-part l = l.copies ≡ take l.part-index l.part-items
