-- The bytes so far, then those left, are the ones that were left at first.
use Rattle.std.proofs.Common.{vec_len, ◌-◌, ◌≡◌, ◌≤◌}
use Rattle.haft_io.specs.Device.{other, Takes}
use Rattle.haft_io.proofs.whole.read_whole.Given as goal

abbrev pub invariant-reads : goal.invariant-reads
invariant-reads g l = record {
  within : vec_len l.bytes ≤ l.limit;
  bytes : Takes (g.I.Inputs.left l.fn.inputs l.which) l.bytes.items (g.I.Inputs.left l.inputs l.which);
  never_falls : g.I.Inputs.faults l.fn.inputs l.which ≤ g.I.Inputs.faults l.inputs l.which;
  other_left : g.I.Inputs.left l.inputs (other l.which) ≡ g.I.Inputs.left l.fn.inputs (other l.which);
  other_faults : g.I.Inputs.faults l.inputs (other l.which) ≡ g.I.Inputs.faults l.fn.inputs (other l.which);
}

abbrev pub decreases-reads : goal.decreases-reads
decreases-reads g l = l.limit - vec_len l.bytes
