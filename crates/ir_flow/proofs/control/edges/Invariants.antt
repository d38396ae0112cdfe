use Rattle.std.proofs.Common.{◌≡◌, ◌++◌, drop}
use Rattle.ir_flow.specs.Edges.{edges_from}
use Rattle.ir_flow.proofs.control.edges.Given as goal

abbrev pub invariant-loop-block : goal.invariant-loop-block
invariant-loop-block l = record {
  place : l.from ≡ l.block-index;
  so_far : l.pairs.items ++ edges_from l.f.blocks l.block-index (drop l.block-index l.block-items) ≡ edges_from l.f.blocks 0 l.f.blocks;
}
