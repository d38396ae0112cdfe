use Rattle.std.proofs.Common.{◌≡◌, ◌∙◌, subst, refl, ℕ, false, ◌||◌, ◌&&◌, get_or}
use Rattle.std.specs.Prelude.{slice_index_or, nat_lt, nat_le, ◌==◌}
use Rattle.ir_flow.proofs.Labelled.{heads-more}
use Rattle.ir_flow.proofs.control.loop_heads.Goals as goal

pub loop-from-preserved : goal.loop-from-preserved
loop-from-preserved c = record {
  count = c.mark_head.ensures.count ∙ c.loop-from.invariant.count;
  each = λ block small.
      let d : ℕ × ℕ = (0, 0) in
      let edge : ℕ × ℕ = get_or c.pairs-from-items.result.now c.loop-from.from-index d in
      let now = c.mark_head.ensures.each block in
      heads-more c.pairs-from-items.result.now c.loop-from.from-index edge d block c.args.e.now.blocks _ _ c.loop-from-test.true refl small (c.loop-from.invariant.each block small) (subst (λ (n : ℕ). slice_index_or c.mark_head.new.heads.items block false ≡ (slice_index_or c.loop-from.heads.items block false || (nat_lt block n && (edge.1 == block && nat_le block edge.0)))) c.loop-from.invariant.count now);
}
