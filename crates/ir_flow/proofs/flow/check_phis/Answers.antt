use Rattle.std.proofs.Common.{◌≡◌, ◌<◌, ◌+◌, ◌++◌, ℕ, List, map, drop, length, sym, ap, subst, ◌∙◌, arith}
use Rattle.ir_core.specs.declared.instruction.Block.{Block}
use Rattle.ir_core.specs.declared.instruction.Inst.{Inst}
use Rattle.ir_flow.specs.Edges.{edges_of}
use Rattle.ir_flow.specs.Searches.{targets_of}
use Rattle.ir_flow.specs.Phis.{turned, PhiAt, AllFitting, FirstMismatch, phis_of, phis_of_body, phis_from}
use Rattle.ir_flow.proofs.Walks.{targets-at}
use Rattle.ir_flow.proofs.PhiPlaces.{all-append, first-left, first-right}
use Rattle.ir_flow.proofs.Preds.{preds-are, next-block, fault-of}
use Rattle.ir_flow.proofs.flow.check_phis.Goals as goal

pub check_body-checked-requires-clause-preds : goal.check_body-checked-requires-clause-preds
check_body-checked-requires-clause-preds c =
    let f = c.args.f.now in
    let here : c.loop-each.block < length f.blocks = subst (λ (n : ℕ). n < length f.blocks) (sym c.loop-each.invariant.place) (subst (λ (bs : List Block). c.loop-each.each-index < length bs) c.blocks-each-items.ensures c.loop-each-test.true) in
    let inside : c.loop-each.block < length c.args.preds.now = subst (λ (n : ℕ). c.loop-each.block < n) (sym c.requires.count) here in
    let list : c.as_slice.result.now ≡ targets_of (map turned (edges_of f).pairs) c.loop-each.block = c.as_slice.ensures.value ∙ sym (targets-at c.args.preds.now c.loop-each.block c.index-preds-block.result inside c.index-preds-block.is) ∙ c.requires.each c.loop-each.block here in
    preds-are f c.loop-each.block c.as_slice.result.now list

pub returns-in-Err-clause-fault : goal.returns-in-Err-clause-fault
returns-in-Err-clause-fault c =
    let f = c.args.f.now in
    let rest = phis_from (c.loop-each.each-index + 1) (drop (c.loop-each.each-index + 1) c.blocks-each-items.result.now) in
    let body : phis_of_body c.loop-each.block 0 c.items.result.now ≡ phis_of_body c.loop-each.each-index 0 c.each-item.result.insts = ap (λ (n : ℕ). phis_of_body n 0 c.items.result.now) c.loop-each.invariant.place ∙ ap (λ (is : List Inst). phis_of_body c.loop-each.each-index 0 is) c.items.ensures in
    let whole : phis_from c.loop-each.each-index (drop c.loop-each.each-index c.blocks-each-items.result.now) ≡ phis_of_body c.loop-each.block 0 c.items.result.now ++ rest = next-block c.loop-each.each-index c.each-item.result c.blocks-each-items.result.now c.loop-each-test.true c.each-item.is ∙ ap (λ (phis : List PhiAt). phis ++ rest) (sym body) in
    fault-of f (phis_of_body c.loop-each.block 0 c.items.result.now) (phis_of f) c.in-Err.error (λ b i h. c.loop-each.invariant.first b i (subst (λ (phis : List PhiAt). FirstMismatch f phis b i) (sym whole) (first-left f (phis_of_body c.loop-each.block 0 c.items.result.now) rest b i h))) c.in-Err.ensures.fault

pub loop-each-preserved : goal.loop-each-preserved
loop-each-preserved c =
    let f = c.args.f.now in
    let rest = phis_from (c.loop-each.each-index + 1) (drop (c.loop-each.each-index + 1) c.blocks-each-items.result.now) in
    let body : phis_of_body c.loop-each.block 0 c.items.result.now ≡ phis_of_body c.loop-each.each-index 0 c.each-item.result.insts = ap (λ (n : ℕ). phis_of_body n 0 c.items.result.now) c.loop-each.invariant.place ∙ ap (λ (is : List Inst). phis_of_body c.loop-each.each-index 0 is) c.items.ensures in
    let whole : phis_from c.loop-each.each-index (drop c.loop-each.each-index c.blocks-each-items.result.now) ≡ phis_of_body c.loop-each.block 0 c.items.result.now ++ rest = next-block c.loop-each.each-index c.each-item.result c.blocks-each-items.result.now c.loop-each-test.true c.each-item.is ∙ ap (λ (phis : List PhiAt). phis ++ rest) (sym body) in
    let fit : AllFitting f (phis_of_body c.loop-each.block 0 c.items.result.now) = c.in_default.ensures.ok in
    record {
      place = grind (arith, c.in_ok-block.ensures.value, c.checked_add.ensures);
      all = λ more. c.loop-each.invariant.all (subst (λ (phis : List PhiAt). AllFitting f phis) (sym whole) (all-append f (phis_of_body c.loop-each.block 0 c.items.result.now) rest fit more));
      first = λ b i h. c.loop-each.invariant.first b i (subst (λ (phis : List PhiAt). FirstMismatch f phis b i) (sym whole) (first-right f (phis_of_body c.loop-each.block 0 c.items.result.now) rest b i fit h));
    }
