use Rattle.std.proofs.Common.{◌≡◌, ◌-◌, ◌++◌}
use Rattle.ir_parse_top.specs.Sheet.{numerals, with_numerals}
use Rattle.ir_parse_top.proofs.whole.with_numerals.Given as goal

abbrev pub invariant-loop-n : goal.invariant-loop-n
invariant-loop-n l = l.bytes.items ++ numerals l.n (l.count - l.n) ≡ with_numerals l.count l.text
