use Rattle.std.proofs.Common.{◌≡◌, ◌≤◌, ◌++◌, drop, reverse, take}
use Rattle.upset_model.specs.Intervals.{copies_from, intervals_from, intervals_of}
use Rattle.upset_model.proofs.blocks.BlockWindows.of.Given as goal

abbrev pub invariant-loop-at : goal.invariant-loop-at
invariant-loop-at l = record {
  from : l.from ≡ copies_from (reverse (take l.at l.list));
  within : l.from ≤ l.at;
  intervals : l.intervals.items ++ intervals_from l.checked (reverse (take l.at l.list)) (drop l.at l.list) ≡ intervals_of l.checked l.list;
}
