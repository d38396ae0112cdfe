use Rattle.std.proofs.Common.{◌≡◌, ◌+◌, drop}
use Rattle.hard_ir.specs.Image.{to_ender}
use Rattle.tx_split.proofs.numbers.to_ender.Given as goal

abbrev pub invariant-loop-n : goal.invariant-loop-n
invariant-loop-n l = l.n + to_ender (drop l.n l.items) ≡ to_ender l.items
