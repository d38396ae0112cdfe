use Rattle.std.proofs.Common.{◌≡◌, List, get_or, refl, sym, ap, subst, ◌∙◌, arith}
use Rattle.std.specs.Prelude.{Bool, MatchBool, Some, slice_get}
use Rattle.std.proofs.lemmas.Option.{slice_get-get_or}
use Rattle.ir_flow.specs.Paths.{IsAssigned, IsUnassigned}
use Rattle.ir_flow.specs.Uses.{uses_of, UseAssigned}
use Rattle.ir_flow.specs.declared.uses.Use.{Use}
use Rattle.ir_flow.proofs.Firsts.{before-more, before-all}
use Rattle.ir_flow.proofs.UsePlaces.{use-within}
use Rattle.ir_flow.proofs.flow.check_uses.Goals as goal

abbrev nowhere : Use
nowhere = record { block = 0; inst = 0; reg = record { 0 = 0 }; at_block = 0; at_inst = 0 }

pub is_settled-requires-clause-within : goal.is_settled-requires-clause-within
is_settled-requires-clause-within c =
    let uses : c.deref-u-items.result.now ≡ uses_of c.args.f.now = c.deref-u-items.ensures.value ∙ c.in_ok-uses.ensures in
    let at : slice_get (uses_of c.args.f.now) c.loop-u.u-index ≡ Some (get_or c.deref-u-items.result.now c.loop-u.u-index nowhere) = ap (λ (us : List Use). slice_get us c.loop-u.u-index) (sym uses) ∙ slice_get-get_or c.deref-u-items.result.now c.loop-u.u-index nowhere c.loop-u-test.true in
    use-within c.args.f.now c.loop-u.u-index (get_or c.deref-u-items.result.now c.loop-u.u-index nowhere) at

pub returns-then-not-branch-clause-fault : goal.returns-then-not-branch-clause-fault
returns-then-not-branch-clause-fault c =
    let uses : c.deref-u-items.result.now ≡ uses_of c.args.f.now = c.deref-u-items.ensures.value ∙ c.in_ok-uses.ensures in
    let u : Use = get_or c.deref-u-items.result.now c.loop-u.u-index nowhere in
    record {
      place = c.loop-u.u-index;
      u = get_or c.deref-u-items.result.now c.loop-u.u-index nowhere;
      stands = ap (λ (us : List Use). slice_get us c.loop-u.u-index) (sym uses) ∙ slice_get-get_or c.deref-u-items.result.now c.loop-u.u-index nowhere c.loop-u-test.true;
      unassigned = subst (λ (b : Bool). MatchBool b (IsAssigned c.args.f.now u.at_block u.at_inst u.reg) (IsUnassigned c.args.f.now u.at_block u.at_inst u.reg)) c.if-not-branch.true c.in_ok-is_settled.ensures;
      before = λ k other less there. c.loop-u.invariant k other less (ap (λ (us : List Use). slice_get us k) uses ∙ there);
      at = (refl, refl, refl);
    }

pub loop-u-preserved : goal.loop-u-preserved
loop-u-preserved c =
    let u : Use = get_or c.deref-u-items.result.now c.loop-u.u-index nowhere in
    let now = subst (λ (b : Bool). MatchBool b (IsAssigned c.args.f.now u.at_block u.at_inst u.reg) (IsUnassigned c.args.f.now u.at_block u.at_inst u.reg)) c.if-not-branch.false c.in_ok-is_settled.ensures in
    before-more (UseAssigned c.args.f.now) c.deref-u-items.result.now c.loop-u.u-index u (slice_get-get_or c.deref-u-items.result.now c.loop-u.u-index nowhere c.loop-u-test.true) now c.loop-u.invariant

pub returns-clause-ok : goal.returns-clause-ok
returns-clause-ok c =
    let uses : c.deref-u-items.result.now ≡ uses_of c.args.f.now = c.deref-u-items.ensures.value ∙ c.in_ok-uses.ensures in
    let all = before-all (UseAssigned c.args.f.now) c.deref-u-items.result.now c.loop-u.u-index (omega arith) c.loop-u.invariant in
    λ place u there. all place u (ap (λ (us : List Use). slice_get us place) uses ∙ there)
