use Rattle.std.proofs.Common.{◌≡◌, drop}
use Rattle.std.specs.List.{flat_map, list_all}
use Rattle.ir_layout.specs.WrittenTypes.{types_in_block}
use Rattle.ir_layout.proofs.written_types.blocks_pass.Given as goal

abbrev pub invariant-loop-block : goal.invariant-loop-block
invariant-loop-block g l = list_all (g.T.TypeTest.passes l.test) (flat_map types_in_block (drop l.block-index l.blocks)) ≡ list_all (g.T.TypeTest.passes l.test) (flat_map types_in_block (l.blocks))
