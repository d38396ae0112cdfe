use Rattle.std.proofs.Common.{◌≡◌, take}
use Rattle.ir_layout.proofs.named_types.copy_of.Given as goal

abbrev pub invariant-loop-named : goal.invariant-loop-named
invariant-loop-named l = l.copy ≡ take l.named-index l.types
