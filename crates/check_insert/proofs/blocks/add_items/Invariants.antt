use Rattle.std.proofs.Common.{◌≡◌, ◌++◌, drop}
use Rattle.std.specs.List.{flat_map}
use Rattle.check_insert.specs.Checks.{checked_item}
use Rattle.check_insert.proofs.blocks.add_items.Given as goal

abbrev pub invariant-loop-item : goal.invariant-loop-item
invariant-loop-item l = l.list ++ flat_map checked_item (drop l.item-index l.items) ≡ l.fn.list ++ flat_map checked_item l.items
