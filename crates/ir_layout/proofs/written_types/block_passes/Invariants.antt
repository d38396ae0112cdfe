use Rattle.std.proofs.Common.{◌≡◌, drop}
use Rattle.std.specs.List.{flat_map, list_all}
use Rattle.ir_layout.specs.WrittenTypes.{types_in_inst}
use Rattle.ir_layout.proofs.written_types.block_passes.Given as goal

abbrev pub invariant-loop-inst : goal.invariant-loop-inst
invariant-loop-inst g l = list_all (g.T.TypeTest.passes l.test) (flat_map types_in_inst (drop l.inst-index l.inst-items)) ≡ list_all (g.T.TypeTest.passes l.test) (flat_map types_in_inst l.inst-items)
