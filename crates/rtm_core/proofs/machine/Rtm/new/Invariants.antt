use Rattle.std.proofs.Common.{◌≡◌, None, replicate}
use Rattle.rtm_core.proofs.machine.Rtm.new.Given as goal

abbrev pub invariant-threads : goal.invariant-threads
invariant-threads g l = l.slots.items ≡ replicate l._turn None
