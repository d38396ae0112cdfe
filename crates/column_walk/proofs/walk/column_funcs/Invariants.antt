use Rattle.std.proofs.Common.{◌≡◌, ◌++◌, drop, map}
use Rattle.std.specs.List.{zip}
use Rattle.hard_ir.specs.Facts.{AreShort}
use Rattle.column_walk.specs.Columns.{column_funcs, column_pair}
use Rattle.column_walk.proofs.walk.column_funcs.Given as goal

abbrev pub invariant-loop-n : goal.invariant-loop-n
invariant-loop-n g l = record {
  made : l.made ++ map (column_pair (g.C.Column.parts l.column)) (zip (drop l.n l.heads) (drop l.n l.funcs)) ≡ column_funcs (g.C.Column.parts l.column) l.heads l.funcs;
  short : AreShort l.made;
}
