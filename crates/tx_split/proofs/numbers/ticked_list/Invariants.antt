use Rattle.std.proofs.Common.{◌≡◌, ◌≤◌, ◌++◌, drop}
use Rattle.hard_ir.specs.Image.{ticked}
use Rattle.tx_split.proofs.numbers.ticked_list.Given as goal

abbrev pub invariant-loop-n : goal.invariant-loop-n
invariant-loop-n l = record {
  made : l.list ++ ticked l.since (drop l.n l.items) ≡ ticked 0 l.items;
  within : l.since ≤ l.n;
}
