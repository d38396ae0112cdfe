use Rattle.std.proofs.Common.{◌≡◌, take}
use Rattle.ir_parse_top.specs.Text.{numerals_for}
use Rattle.ir_parse_top.proofs.whole.numerals_for.Given as goal

abbrev pub invariant-loop-f : goal.invariant-loop-f
invariant-loop-f l = l.most ≡ numerals_for (take l.f-index l.funcs)
