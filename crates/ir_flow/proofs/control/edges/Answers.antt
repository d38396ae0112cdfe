use Rattle.std.proofs.Common.{◌≡◌, ◌++◌, ◌+◌, List, ℕ, drop, ap, subst, ◌∙◌, arith}
use Rattle.ir_core.specs.declared.types.Loc.{Loc}
use Rattle.ir_core.specs.declared.instruction.Block.{Block}
use Rattle.std.specs.List.{filter_map}
use Rattle.ir_flow.specs.Edges.{edges_from, edge_to, edges_of_block, last_labels}
use Rattle.ir_flow.specs.Labels.{found_edge, AreNumbers}
use Rattle.ir_flow.proofs.Labelled.{found-edges, next-edges}
use Rattle.ir_flow.proofs.control.edges.Goals as goal

pub loop-block-preserved : goal.loop-block-preserved
loop-block-preserved c =
    let labels : c.as_slice.result.now ≡ last_labels c.block-item.result.insts = c.as_slice.ensures.value ∙ c.in_ok-labels.ensures in
    let known : AreNumbers c.args.f.now.blocks c.in_ok-numbers.numbers = subst (λ (blocks : List Block). AreNumbers blocks c.in_ok-numbers.numbers) c.blocks-2.ensures c.in_ok-numbers.ensures in
    let found : filter_map (found_edge c.in_ok-numbers.numbers c.loop-block.from) c.as_slice.result.now ≡ edges_of_block c.args.f.now.blocks c.loop-block.block-index c.block-item.result =
    ap (λ (xs : List Loc). filter_map (found_edge c.in_ok-numbers.numbers c.loop-block.from) xs) labels
    ∙ found-edges c.args.f.now.blocks c.in_ok-numbers.numbers c.loop-block.from (last_labels c.block-item.result.insts) known
    ∙ ap (λ (n : ℕ). filter_map (edge_to c.args.f.now.blocks n) (last_labels c.block-item.result.insts)) c.loop-block.invariant.place in
    let later = edges_from c.args.f.now.blocks (c.loop-block.block-index + 1) (drop (c.loop-block.block-index + 1) c.blocks-block-items.result.now) in
    record {
      place = grind (arith, c.in_ok-from.ensures.value, c.checked_add.ensures);
      so_far =
          ap (λ (xs : List (ℕ × ℕ)). xs ++ later) (c.in_ok-add_edges.ensures ∙ ap (λ (xs : List (ℕ × ℕ)). c.loop-block.pairs.items ++ xs) found)
          ∙ next-edges c.args.f.now.blocks c.blocks-block-items.result.now c.loop-block.block-index c.block-item.result c.loop-block.pairs.items c.loop-block-test.true c.block-item.is
          ∙ c.loop-block.invariant.so_far;
    }
