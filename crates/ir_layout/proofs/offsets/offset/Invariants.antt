use Rattle.std.proofs.Common.{◌≡◌, ◌+◌, drop}
use Rattle.std.specs.Option.{option_map}
use Rattle.ir_layout.specs.KeptShapes.{word}
use Rattle.ir_layout.specs.Offsets.{inner_offset, offset_of}
use Rattle.ir_layout.proofs.offsets.offset.Given as goal

abbrev pub invariant-loop-width : goal.invariant-loop-width
invariant-loop-width l = option_map (λ further. word (l.total + further)) (inner_offset l.types l.at (drop l.width-index l.rest)) ≡ offset_of l.types l.base l.index
