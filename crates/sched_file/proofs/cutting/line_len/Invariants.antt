use Rattle.std.proofs.Common.{◌≡◌, ◌+◌, drop}
use Rattle.std.specs.List.{prefix_len}
use Rattle.sched_file.specs.Cutting.{isnt_feed}
use Rattle.sched_file.proofs.cutting.line_len.Given as goal

abbrev pub invariant-loop-byte : goal.invariant-loop-byte
invariant-loop-byte l = (l.len ≡ l.byte-index) × (l.len + prefix_len isnt_feed (drop l.byte-index l.text) ≡ prefix_len isnt_feed l.text)
