use Rattle.std.proofs.Common.{◌∙◌, ap, ℕ, arith}
use Rattle.std.specs.Prelude.{Some, nat_eq}
use Rattle.std.specs.HashMap.{get}
use Rattle.ir_flow.proofs.Labelled.{numbers-more}
use Rattle.ir_flow.proofs.control.numbers_of.Goals as goal

pub loop-block-preserved : goal.loop-block-preserved
loop-block-preserved c = record {
  place = grind (arith, c.in_ok-number.ensures.value, c.checked_add.ensures);
  so_far = numbers-more c.args.blocks.now c.loop-block.block-index c.block-item.result (get nat_eq c.loop-block.numbers) (get nat_eq c.insert.new.self) c.loop-block-test.true c.block-item.is (c.in_ok-insert.ensures.updates.1 ∙ ap (λ (n : ℕ). Some n) c.loop-block.invariant.place) c.in_ok-insert.ensures.updates.2 c.loop-block.invariant.so_far;
}
