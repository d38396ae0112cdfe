use Rattle.std.proofs.Common.{◌≡◌, ◌+◌, ◌++◌, ℕ, List, drop, sym, ap, subst, ◌∙◌, arith}
use Rattle.std.specs.Prelude.{Bool, MatchBool}
use Rattle.ir_flow.specs.Phis.{PhiAt, AllFitting, FirstMismatch, phi_at, phis_of_body}
use Rattle.ir_flow.proofs.PhiPlaces.{all-append, first-left, first-right, next-phis}
use Rattle.ir_flow.proofs.phis.check_body.Goals as goal

pub returns-then-not-branch-clause-fault : goal.returns-then-not-branch-clause-fault
returns-then-not-branch-clause-fault c =
    let f = c.args.f.now in
    let rest = phis_of_body c.args.block (c.loop-inst.inst-index + 1) (drop (c.loop-inst.inst-index + 1) c.args.body.now) in
    let here = subst (λ (b : Bool). MatchBool b (AllFitting f (phi_at c.args.block c.loop-inst.number c.inst-item.result)) (FirstMismatch f (phi_at c.args.block c.loop-inst.number c.inst-item.result) c.args.block c.loop-inst.number)) c.if-not-branch.true c.in_ok-inst_fits.ensures in
    let place = c.loop-inst.invariant.place in
    let whole : phis_of_body c.args.block c.loop-inst.inst-index (drop c.loop-inst.inst-index c.args.body.now) ≡ phi_at c.args.block c.loop-inst.number c.inst-item.result ++ rest = next-phis c.args.block c.loop-inst.inst-index c.inst-item.result c.args.body.now c.loop-inst-test.true c.inst-item.is ∙ ap (λ (n : ℕ). phi_at c.args.block n c.inst-item.result ++ rest) (sym place) in
    c.loop-inst.invariant.first c.args.block c.loop-inst.number (subst (λ (phis : List PhiAt). FirstMismatch f phis c.args.block c.loop-inst.number) (sym whole) (first-left f (phi_at c.args.block c.loop-inst.number c.inst-item.result) rest c.args.block c.loop-inst.number here))

pub loop-inst-preserved : goal.loop-inst-preserved
loop-inst-preserved c =
    let f = c.args.f.now in
    let rest = phis_of_body c.args.block (c.loop-inst.inst-index + 1) (drop (c.loop-inst.inst-index + 1) c.args.body.now) in
    let here = subst (λ (b : Bool). MatchBool b (AllFitting f (phi_at c.args.block c.loop-inst.number c.inst-item.result)) (FirstMismatch f (phi_at c.args.block c.loop-inst.number c.inst-item.result) c.args.block c.loop-inst.number)) c.if-not-branch.false c.in_ok-inst_fits.ensures in
    let place = c.loop-inst.invariant.place in
    let whole : phis_of_body c.args.block c.loop-inst.inst-index (drop c.loop-inst.inst-index c.args.body.now) ≡ phi_at c.args.block c.loop-inst.number c.inst-item.result ++ rest = next-phis c.args.block c.loop-inst.inst-index c.inst-item.result c.args.body.now c.loop-inst-test.true c.inst-item.is ∙ ap (λ (n : ℕ). phi_at c.args.block n c.inst-item.result ++ rest) (sym place) in
    record {
      place = grind (arith, c.in_ok-number.ensures.value, c.checked_add.ensures);
      all = λ fit. c.loop-inst.invariant.all (subst (λ (phis : List PhiAt). AllFitting f phis) (sym whole) (all-append f (phi_at c.args.block c.loop-inst.number c.inst-item.result) rest here fit));
      first = λ b i h. c.loop-inst.invariant.first b i (subst (λ (phis : List PhiAt). FirstMismatch f phis b i) (sym whole) (first-right f (phi_at c.args.block c.loop-inst.number c.inst-item.result) rest b i here h));
    }
