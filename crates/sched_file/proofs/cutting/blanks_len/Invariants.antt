use Rattle.std.proofs.Common.{◌≡◌, ◌+◌, drop}
use Rattle.std.specs.List.{prefix_len}
use Rattle.ir_core.specs.Tokens.{is_blank}
use Rattle.sched_file.proofs.cutting.blanks_len.Given as goal

abbrev pub invariant-loop-byte : goal.invariant-loop-byte
invariant-loop-byte l = (l.len ≡ l.byte-index) × (l.len + prefix_len is_blank (drop l.byte-index l.line) ≡ prefix_len is_blank l.line)
