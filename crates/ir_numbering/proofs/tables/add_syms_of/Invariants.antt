-- The names so far are the front of the other table.
use Rattle.std.proofs.Common.{◌≡◌, ◌≤◌, ◌-◌, length, take}
use Rattle.ir_numbering.proofs.tables.add_syms_of.Given as goal

abbrev pub invariant-names : goal.invariant-names
invariant-names l = record {
  within : l.at ≤ length l.table.syms;
  front : l.m ≡ record l.fn.m { syms = take l.at l.table.syms };
}

abbrev pub decreases-names : goal.decreases-names
decreases-names l = l.count - l.at
