-- The column of double loads and late checks.
use Rattle.std.specs.Prelude.{[]}
use Rattle.hard_ir.specs.Image.{relaxed}
use Rattle.column_walk.specs.Columns.{ColumnParts}

abbrev pub relax_parts : ColumnParts
relax_parts = record { point = []; image = relaxed }
