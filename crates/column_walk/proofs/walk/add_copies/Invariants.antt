use Rattle.std.proofs.Common.{◌≡◌, ◌++◌, drop, map}
use Rattle.hard_ir.specs.Image.{copy_of}
use Rattle.column_walk.proofs.walk.add_copies.Given as goal

abbrev pub invariant-loop-ty : goal.invariant-loop-ty
invariant-loop-ty l = l.list ++ map copy_of (drop l.ty-index l.params) ≡ l.fn.list ++ map copy_of l.params
