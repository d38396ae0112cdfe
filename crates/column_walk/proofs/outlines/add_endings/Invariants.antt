use Rattle.std.proofs.Common.{◌≡◌, ◌<◌, drop, fold, length}
use Rattle.std.specs.List.{filter_map}
use Rattle.ir_core.specs.Module.{with_inst}
use Rattle.column_walk.specs.Columns.{ending_by}
use Rattle.column_walk.proofs.outlines.add_endings.Given as goal

abbrev pub invariant-loop-item : goal.invariant-loop-item
invariant-loop-item l = record {
  some : 0 < length l.f.blocks;
  made : fold with_inst l.f.blocks (filter_map ending_by (drop l.item-index l.items)) ≡ fold with_inst l.fn.f.blocks (filter_map ending_by l.items);
}
