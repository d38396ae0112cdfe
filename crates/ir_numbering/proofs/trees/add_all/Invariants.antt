use Rattle.std.proofs.Common.{◌≡◌, ◌++◌, drop}
use Rattle.std.specs.List.{flat_map}
use Rattle.ir_numbering.proofs.trees.add_all.Given as goal

abbrev pub invariant-loop-tree : goal.invariant-loop-tree
invariant-loop-tree g l = l.list ++ flat_map g.T.Numbered.places (drop l.tree-index l.trees) ≡ l.fn.list ++ flat_map g.T.Numbered.places l.trees
