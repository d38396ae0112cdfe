-- The column of ticks, which have no number yet.
use Rattle.ir_core.specs.Module.{ModuleParts}
use Rattle.hard_ir.specs.Image.{cut_point, row}
use Rattle.column_walk.specs.Columns.{ColumnParts}

-- in a module of these heads
abbrev pub split_parts : ModuleParts → ColumnParts
split_parts heads = record { point = cut_point; image = row heads 0 }
