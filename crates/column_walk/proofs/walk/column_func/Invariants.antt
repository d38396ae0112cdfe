use Rattle.std.proofs.Common.{◌≡◌, ◌++◌, drop, map}
use Rattle.std.specs.List.{All}
use Rattle.hard_ir.specs.Facts.{IsShort}
use Rattle.column_walk.specs.Columns.{column_blocks, column_func, outline, pairs_among}
use Rattle.column_walk.proofs.walk.column_func.Given as goal

abbrev pub invariant-loop-n : goal.invariant-loop-n
invariant-loop-n g l = record {
  made : l.made ++ column_blocks (g.C.Column.parts l.column) l.f (pairs_among (map outline l.blocks)) l.n (drop l.n l.blocks) ≡ column_func (g.C.Column.parts l.column) l.f l.blocks;
  short : All IsShort l.made;
}
