use Rattle.std.proofs.Common.{◌≡◌, ◌∙◌, List, [], ◌∷◌, length, slice_set, refl, ap, sym, subst, arith}
use Rattle.std.proofs.lemmas.List.{length-set}
use Rattle.rtm_core.specs.Calls.{AreThreads}
use Rattle.rtm_core.specs.declared.Aborted.{Aborted}
use Rattle.tx_machine.specs.Own.{OwnParts}
use Rattle.tx_machine.specs.Undone.{own_all, watches_all}
use Rattle.tx_machine.proofs.Undone.{own-last, watches-last, threads-last, undone-there, undone-nowhere}
use Rattle.tx_machine.proofs.conflicts.undo_each.Goals as goal

no-more : {A : Type 0} (xs : List A) → length xs ≡ 0 → xs ≡ []
no-more [] e = refl
no-more (x ∷ xs) e = absurd (omega (arith, e))

pub loop-tid-init : goal.loop-tid-init
loop-tid-init c = record { below = c.requires; own = refl; watches = refl; count = refl; kept = omega arith }

pub clear-requires : goal.clear-requires
clear-requires c = record {
  thread = (threads-last c.pop.new.self.items c.in-Some.field-0
      (subst (λ (list : List (Aborted _)). AreThreads list) c.in-Some.ensures.items c.loop-tid.invariant.below)).1;
}

pub loop-tid-preserved-in-Some-get_mut : goal.loop-tid-preserved-in-Some-get_mut
loop-tid-preserved-in-Some-get_mut c = record {
  below = (threads-last c.pop.new.self.items c.in-Some.field-0 (subst (λ (list : List (Aborted _)). AreThreads list) c.in-Some.ensures.items c.loop-tid.invariant.below)).0;
  own = ap (λ (w : OwnParts). own_all c.pop.new.self.items (slice_set c.loop-tid.workers.items c.in-Some.field-0.tid.0 w)) c.undo.ensures
      ∙ ap (own_all c.pop.new.self.items) (sym (undone-there c.loop-tid.workers.items c.in-Some.field-0.tid.0 c.in-Some.field-0.keep c.in-Some-get_mut.worker.now
      (omega (arith, c.in-Some-get_mut.ensures.variant.0 refl)) c.in-Some-get_mut.ensures.value))
      ∙ sym (own-last c.pop.new.self.items c.in-Some.field-0 c.loop-tid.workers.items)
      ∙ ap (λ list. own_all list c.loop-tid.workers.items) (sym c.in-Some.ensures.items) ∙ c.loop-tid.invariant.own;
  watches = ap (watches_all c.pop.new.self.items) c.clear.ensures ∙ sym (watches-last c.pop.new.self.items c.in-Some.field-0 c.loop-tid.elision)
      ∙ ap (λ list. watches_all list c.loop-tid.elision) (sym c.in-Some.ensures.items) ∙ c.loop-tid.invariant.watches;
  count = length-set c.loop-tid.workers.items c.in-Some.field-0.tid.0 c.undo.new.self ∙ c.loop-tid.invariant.count;
  kept = omega (arith, c.loop-tid.invariant.kept, c.in-Some.ensures.capacity);
}

pub loop-tid-preserved : goal.loop-tid-preserved
loop-tid-preserved c = record {
  below = (threads-last c.pop.new.self.items c.in-Some.field-0 (subst (λ (list : List (Aborted _)). AreThreads list) c.in-Some.ensures.items c.loop-tid.invariant.below)).0;
  own = ap (own_all c.pop.new.self.items) (sym (undone-nowhere c.loop-tid.workers.items c.in-Some.field-0.tid.0 c.in-Some.field-0.keep
      (λ within. let clash = c.in_default-get_mut.ensures.variant.1 (omega (arith, within)) in cc)))
      ∙ sym (own-last c.pop.new.self.items c.in-Some.field-0 c.loop-tid.workers.items)
      ∙ ap (λ list. own_all list c.loop-tid.workers.items) (sym c.in-Some.ensures.items) ∙ c.loop-tid.invariant.own;
  watches = ap (watches_all c.pop.new.self.items) c.clear.ensures ∙ sym (watches-last c.pop.new.self.items c.in-Some.field-0 c.loop-tid.elision)
      ∙ ap (λ list. watches_all list c.loop-tid.elision) (sym c.in-Some.ensures.items) ∙ c.loop-tid.invariant.watches;
  count = c.loop-tid.invariant.count;
  kept = omega (arith, c.loop-tid.invariant.kept, c.in-Some.ensures.capacity);
}

pub returns-clause-own : goal.returns-clause-own
returns-clause-own c = ap (λ list. own_all list c.loop-tid.workers.items) (sym (no-more c.loop-tid.aborted.items (omega (arith, c.in_default.ensures.cases.0))))
    ∙ c.loop-tid.invariant.own

pub returns-clause-watches : goal.returns-clause-watches
returns-clause-watches c = ap (λ list. watches_all list c.loop-tid.elision) (sym (no-more c.loop-tid.aborted.items (omega (arith, c.in_default.ensures.cases.0))))
    ∙ c.loop-tid.invariant.watches

pub returns-clause-count : goal.returns-clause-count
returns-clause-count c = c.loop-tid.invariant.count

pub returns-clause-capacity : goal.returns-clause-capacity
returns-clause-capacity c = omega (arith, c.loop-tid.invariant.kept, c.in_default.ensures.capacity)
