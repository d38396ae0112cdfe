use Rattle.std.proofs.Common.{◌≡◌, drop}
use Rattle.std.specs.List.{list_all}
use Rattle.ir_layout.proofs.written_types.types_pass.Given as goal

abbrev pub invariant-loop-ty : goal.invariant-loop-ty
invariant-loop-ty g l = list_all (g.T.TypeTest.passes l.test) (drop l.ty-index l.types) ≡ list_all (g.T.TypeTest.passes l.test) (l.types)
