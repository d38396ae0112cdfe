-- The names so far are the front of the other table.
use Rattle.std.proofs.Common.{◌≡◌, ◌≤◌, ◌-◌, length, take}
use Rattle.ir_numbering.proofs.tables.add_names_of.Given as goal

abbrev pub invariant-names : goal.invariant-names
invariant-names l = record {
  within : l.at ≤ length l.table.names;
  front : l.f ≡ record l.fn.f { names = take l.at l.table.names };
}

abbrev pub decreases-names : goal.decreases-names
decreases-names l = l.count - l.at
