use Rattle.std.proofs.Common.{◌≡◌, ◌+◌, sym, ap, subst, ◌∙◌}
use Rattle.std.specs.Prelude.{Some, true, false, nat_eq}
use Rattle.std.specs.HashMap.{get}
use Rattle.std.specs.List.{list_any}
use Rattle.std.proofs.lemmas.Option.{slice_get_within}
use Rattle.ir_core.specs.declared.types.Loc.{Loc}
use Rattle.ir_core.specs.declared.values.Val.{Val}
use Rattle.ir_flow.specs.Edges.{number_of}
use Rattle.ir_flow.specs.Phis.{ArmsKnown, Places}
use Rattle.ir_flow.proofs.Arms.{known-again, known-new, arms-differ}
use Rattle.ir_flow.proofs.phis.first_arms.Goals as goal
use Rattle.ir_flow.proofs.phis.first_arms.Goals.{in-None+in_ok-insert-in-None, in-Some-copied+else-not-same_val}

pub returns-then-not-same_val : goal.returns-then-not-same_val
returns-then-not-same_val c =
    let of_block : number_of c.args.blocks.now c.index-arms-place.result.1 ≡ Some c.in-Some.from = sym (c.requires.numbers c.index-arms-place.result.1) ∙ sym c.get.ensures.value ∙ sym c.copied.ensures ∙ c.in-Some.is in
    let here : get nat_eq c.loop-place.places c.in-Some.from ≡ Some c.in-Some-copied.first = sym c.get-in-loop-place.ensures.value ∙ sym c.copied-in-loop-place.ensures ∙ c.in-Some-copied.is in
    let known = c.loop-place.invariant.sound c.in-Some.from c.in-Some-copied.first here in
    arms-differ c.args.blocks.now c.args.preds.now c.args.arms.now c.loop-place.place c.loop-place.places c.index-arms-place.result c.index-arms-first.result c.in-Some.from c.in-Some-copied.first c.loop-place.invariant c.loop-place-test.true c.index-arms-place.is of_block here (slice_get_within c.args.arms.now c.in-Some-copied.first known.0 known.1) c.index-arms-first.is (λ e. let first = ap (λ (x : Val × Loc). x.0) (sym c.index-arms-first.is) in let f : false ≡ true = c.if-not-same_val.ensures.1 (first ∙ e) in absurd cc)

pub loop-place-preserved : goal.loop-place-preserved
loop-place-preserved c =
    let of_block : number_of c.args.blocks.now c.index-arms-place.result.1 ≡ Some c.in-Some.from = sym (c.requires.numbers c.index-arms-place.result.1) ∙ sym c.get.ensures.value ∙ sym c.copied.ensures ∙ c.in-Some.is in
    let pred : list_any (nat_eq c.in-Some.from) c.args.preds.now ≡ true = sym (c.requires.known c.in-Some.from) ∙ sym c.if-not-contains.ensures in
    let looked : get nat_eq c.loop-place.places c.in-Some.from ≡ c.copied-in-loop-place.result = sym c.get-in-loop-place.ensures.value ∙ sym c.copied-in-loop-place.ensures in
    elim c.match-copied-2.branch [
      | in-None+in_ok-insert-in-None w ↦ subst (λ (places : Places). ArmsKnown c.args.blocks.now c.args.preds.now c.args.arms.now (c.loop-place.place + 1) places) (sym w.places-is) (known-new c.args.blocks.now c.args.preds.now c.args.arms.now c.loop-place.place c.loop-place.places w.insert.new.self c.index-arms-place.result c.in-Some.from c.loop-place.invariant c.loop-place-test.true c.index-arms-place.is of_block pred (looked ∙ w.in-None.is) w.in_ok-insert-in-None.ensures.updates.1 w.in_ok-insert-in-None.ensures.updates.2)
      | in-Some-copied+else-not-same_val w ↦
          let here : get nat_eq c.loop-place.places c.in-Some.from ≡ Some w.in-Some-copied.first = looked ∙ w.in-Some-copied.is in
          let known = c.loop-place.invariant.sound c.in-Some.from w.in-Some-copied.first here in
          let first = ap (λ (x : Val × Loc). x.0) w.index-arms-first.is in
          subst (λ (places : Places). ArmsKnown c.args.blocks.now c.args.preds.now c.args.arms.now (c.loop-place.place + 1) places) (sym w.places-is) (known-again c.args.blocks.now c.args.preds.now c.args.arms.now c.loop-place.place c.loop-place.places c.index-arms-place.result w.index-arms-first.result c.in-Some.from w.in-Some-copied.first c.loop-place.invariant c.loop-place-test.true c.index-arms-place.is of_block pred here (slice_get_within c.args.arms.now w.in-Some-copied.first known.0 known.1) w.index-arms-first.is (first ∙ w.same_val.ensures.0 w.if-not-same_val.false))
    ]
