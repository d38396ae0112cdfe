use Rattle.std.proofs.Common.{◌≡◌, ◌+◌, ◌<◌, ℕ, length, slice_index}
use Rattle.std.specs.Prelude.{unwrap_or}
use Rattle.rtm_core.specs.code.Slots.{held_in}
use Rattle.rtm_core.proofs.buffers.Buffer.word.Given as goal

abbrev pub invariant-loop-k : goal.invariant-loop-k
invariant-loop-k l = record {
  count : length l.word ≡ 8;
  small : (j : ℕ) → j < l.k → slice_index l.word j < 256;
  done : (j : ℕ) → j < l.k → slice_index l.word j ≡ unwrap_or (held_in l.self (l.at + j)) (slice_index l.old j);
}
