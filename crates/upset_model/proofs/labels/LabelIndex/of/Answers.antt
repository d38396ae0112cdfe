use Rattle.std.proofs.Common.{ℕ, ◌≡◌, ◌∙◌, ◌-◌, ◌<◌, suc, List, length, subst, ap, sym, arith}
use Rattle.inst_meaning.specs.Registers.{put}
use Rattle.hard_ir.specs.declared.instruction.HBlock.{HBlock}
use Rattle.upset_model.specs.Guards.{IsIndexFrom}
use Rattle.upset_model.proofs.TableLaws.{index-more}
use Rattle.upset_model.proofs.labels.LabelIndex.of.Goals as goal

pub loop-number-preserved : goal.loop-number-preserved
loop-number-preserved c =
    let blocks : List HBlock = c.args.blocks.now in
    let block : HBlock = c.index-blocks-number.result in
    let n : ℕ = c.loop-number.number - 1 in
    let less : n < length blocks = omega (arith, c.loop-number.invariant.within, c.loop-number-test.true) in
    let more : suc n ≡ c.loop-number.number = omega (arith, c.loop-number-test.true) in
    let rest : IsIndexFrom blocks (suc n) c.loop-number.index =
    subst (λ (k : ℕ). IsIndexFrom blocks k c.loop-number.index) (sym more) c.loop-number.invariant.index in
    let set : c.set.new.self ≡ put c.loop-number.index block.label.0 n =
    c.in_ok-set.ensures ∙ sym (ap (λ (b : HBlock). put c.loop-number.index b.label.0 n) c.index-blocks-number.is) in
    record {
      within = omega (arith, less);
      index = subst (IsIndexFrom blocks n) (sym set) (index-more blocks n block c.loop-number.index less c.index-blocks-number.is rest);
    }
