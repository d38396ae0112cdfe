use Rattle.std.proofs.Common.{◌≡◌, drop}
use Rattle.std.specs.List.{flat_map, list_all}
use Rattle.ir_layout.specs.WrittenTypes.{types_in_arg}
use Rattle.ir_layout.proofs.written_types.args_pass.Given as goal

abbrev pub invariant-loop-ty : goal.invariant-loop-ty
invariant-loop-ty g l = list_all (g.T.TypeTest.passes l.test) (flat_map types_in_arg (drop l.ty-index l.args)) ≡ list_all (g.T.TypeTest.passes l.test) (flat_map types_in_arg (l.args))
