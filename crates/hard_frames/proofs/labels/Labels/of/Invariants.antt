-- the tables of the functions so far
use Rattle.std.proofs.Common.{◌≡◌, length, take}
use Rattle.hard_frames.specs.Labels.{AreTables}
use Rattle.hard_frames.proofs.labels.Labels.of.Given as goal

abbrev pub invariant-loop-number : goal.invariant-loop-number
invariant-loop-number l = record {
  count : length l.tables.items ≡ l.number;
  each : AreTables (take l.number l.h.funcs) l.tables.items;
}
