use Rattle.std.proofs.Common.{◌≡◌, vec_len}
use Rattle.rtm_core.proofs.slots.Slot.new.Given as goal

abbrev pub invariant-loop-turn : goal.invariant-loop-turn
invariant-loop-turn g l = vec_len l.buffers ≡ l._turn
