use Rattle.std.proofs.Common.{◌≡◌, ◌++◌, drop}
use Rattle.std.specs.List.{flat_map}
use Rattle.hard_ir.specs.Image.{check}
use Rattle.check_insert.proofs.items.add_all.Given as goal

abbrev pub invariant-loop-ty : goal.invariant-loop-ty
invariant-loop-ty l = l.list ++ flat_map check (drop l.ty-index l.args) ≡ l.fn.list ++ flat_map check l.args
