use Rattle.std.proofs.Common.{◌≡◌, ◌+◌, drop}
use Rattle.std.specs.List.{prefix_len}
use Rattle.sched_file.specs.Cutting.{isnt_blank}
use Rattle.sched_file.proofs.cutting.field_len.Given as goal

abbrev pub invariant-loop-byte : goal.invariant-loop-byte
invariant-loop-byte l = (l.len ≡ l.byte-index) × (l.len + prefix_len isnt_blank (drop l.byte-index l.line) ≡ prefix_len isnt_blank l.line)
