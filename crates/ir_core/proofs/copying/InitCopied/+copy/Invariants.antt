use Rattle.std.proofs.Common.{◌≡◌, take}
use Rattle.ir_core.proofs.copying.InitCopied.+copy.Given as goal

abbrev pub invariant-loop-ty : goal.invariant-loop-ty
invariant-loop-ty l = l.copies ≡ take l.ty-index l.ty-items
