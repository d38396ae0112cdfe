use Rattle.std.proofs.Common.{◌≡◌, ◌-◌, ◌++◌, replicate}
use Rattle.ir_parse_top.proofs.whole.add_blanks.Given as goal

abbrev pub invariant-loop-blank : goal.invariant-loop-blank
invariant-loop-blank l = l.text.items ++ replicate (8 - l._blank) 32 ≡ l.fn.text.items ++ replicate (8 - l.fn.len) 32
