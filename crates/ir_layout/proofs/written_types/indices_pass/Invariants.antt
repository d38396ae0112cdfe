use Rattle.std.proofs.Common.{◌≡◌, drop}
use Rattle.std.specs.List.{flat_map, list_all}
use Rattle.ir_layout.specs.WrittenTypes.{types_in_index}
use Rattle.ir_layout.proofs.written_types.indices_pass.Given as goal

abbrev pub invariant-loop-val : goal.invariant-loop-val
invariant-loop-val g l = list_all (g.T.TypeTest.passes l.test) (flat_map types_in_index (drop l.val-index l.indices)) ≡ list_all (g.T.TypeTest.passes l.test) (flat_map types_in_index (l.indices))
