use Rattle.std.proofs.Common.{◌≡◌, map, take}
use Rattle.ir_check.specs.Blocks.{enters}
use Rattle.ir_check.proofs.blocks.entered_functions.Given as goal

abbrev pub invariant-loop-f : goal.invariant-loop-f
invariant-loop-f l = l.entered.items ≡ map enters (take l.f-index l.f-items)
