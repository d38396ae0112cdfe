use Rattle.std.proofs.Common.{◌≡◌, drop}
use Rattle.std.specs.List.{flat_map, list_all}
use Rattle.ir_layout.specs.WrittenTypes.{types_in_declare}
use Rattle.ir_layout.proofs.written_types.declares_pass.Given as goal

abbrev pub invariant-loop-declare : goal.invariant-loop-declare
invariant-loop-declare g l = list_all (g.T.TypeTest.passes l.test) (flat_map types_in_declare (drop l.declare-index l.declares)) ≡ list_all (g.T.TypeTest.passes l.test) (flat_map types_in_declare (l.declares))
