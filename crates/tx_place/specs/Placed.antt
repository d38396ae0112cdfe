-- The column of transactions.
use Rattle.ir_core.specs.Module.{ModuleParts}
use Rattle.hard_ir.specs.Image.{cut_point, place_table, placed}
use Rattle.hard_ir.specs.Hardened.{HardParts, hardened_by}
use Rattle.column_walk.specs.Columns.{ColumnParts}

-- in a module of these heads
abbrev pub place_parts : ModuleParts → ColumnParts
place_parts heads = record { point = cut_point; image = placed heads }

-- the hardened module with transactions
abbrev pub placed_by : ModuleParts → HardParts
placed_by m = hardened_by (place_table m) m
