use Rattle.std.proofs.Common.{◌≡◌, drop}
use Rattle.std.specs.List.{flat_map, list_all}
use Rattle.ir_layout.specs.WrittenTypes.{types_in_func}
use Rattle.ir_layout.proofs.written_types.funcs_pass.Given as goal

abbrev pub invariant-loop-f : goal.invariant-loop-f
invariant-loop-f g l = list_all (g.T.TypeTest.passes l.test) (flat_map types_in_func (drop l.f-index l.funcs)) ≡ list_all (g.T.TypeTest.passes l.test) (flat_map types_in_func (l.funcs))
