-- the tables of the functions so far
use Rattle.std.proofs.Common.{◌≡◌, length, take}
use Rattle.src_meaning.specs.Labels.{AreTables}
use Rattle.src_meaning.proofs.labels.Labels.of.Given as goal

abbrev pub invariant-loop-f : goal.invariant-loop-f
invariant-loop-f l = record {
  count : length l.tables.items ≡ l.f-index;
  each : AreTables (take l.f-index l.funcs) l.tables.items;
}
