-- What was written so far is the front of the bytes.
use Rattle.std.proofs.Common.{length, take, ◌-◌, ◌≡◌, ◌≤◌, []}
use Rattle.haft_io.specs.Device.{Puts}
use Rattle.haft_io.proofs.whole.write_whole.Given as goal

abbrev pub invariant-writes : goal.invariant-writes
invariant-writes g l = record {
  within : l.done ≤ length l.bytes;
  front : Puts (g.O.Sink.written l.fn.out) (take l.done l.bytes) (g.O.Sink.written l.out);
  none : l.bytes ≡ [] → l.out ≡ l.fn.out;
  never_falls : g.O.Sink.faults l.fn.out ≤ g.O.Sink.faults l.out;
}

abbrev pub decreases-writes : goal.decreases-writes
decreases-writes g l = length l.bytes - l.done
