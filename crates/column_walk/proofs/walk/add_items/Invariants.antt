use Rattle.std.proofs.Common.{◌≡◌, ◌++◌, drop}
use Rattle.std.specs.List.{flat_map}
use Rattle.column_walk.specs.Columns.{retired}
use Rattle.column_walk.proofs.walk.add_items.Given as goal

abbrev pub invariant-loop-item : goal.invariant-loop-item
invariant-loop-item g l = l.list ++ flat_map (g.C.Column.parts l.column).image (retired (drop l.item-index l.items)) ≡ l.fn.list ++ flat_map (g.C.Column.parts l.column).image (retired l.items)
