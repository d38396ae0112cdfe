use Rattle.std.proofs.Common.{◌≡◌, ◌<◌, ℕ, false, length, take}
use Rattle.std.specs.Prelude.{slice_index_or}
use Rattle.ir_flow.specs.Edges.{is_loop_head}
use Rattle.ir_flow.proofs.control.loop_heads.Given as goal

abbrev pub invariant-loop-from : goal.invariant-loop-from
invariant-loop-from l = record {
  count : length l.heads.items ≡ l.e.blocks;
  each : (block : ℕ) → block < l.e.blocks → slice_index_or l.heads.items block false ≡ is_loop_head (take l.from-index l.from-items) block;
}
