use Rattle.std.proofs.Common.{◌≡◌, List, ℕ, ◌∷◌, sym, ap, subst, ◌∙◌}
use Rattle.std.specs.Prelude.{Option, None, Some}
use Rattle.ir_core.specs.declared.types.Ty.{Ty}
use Rattle.ir_core.specs.declared.types.TypeId.{TypeId}
use Rattle.ir_layout.specs.declared.limits.LimitKind.{LimitKind}
use Rattle.ir_layout.specs.Limits.{limit_of, Refuses}
use Rattle.ir_layout.proofs.PlacingLemmas.{first-type, next-type}
use Rattle.ir_layout.proofs.placing.check_types.Goals as goal

pub returns-in-Some-clause-limit : goal.returns-in-Some-clause-limit
returns-in-Some-clause-limit c =
    let limit : limit_of c.args.m.now.types c.loop-id-item.result.1 ≡ Some c.in-Some.kind = ap (λ (types : List (TypeId × Ty)). limit_of types c.loop-id-item.result.1) (sym c.requires) ∙ sym c.in-Some.ensures in
    let first = first-type c.args.m.now c.types-id-items.result.now c.loop-id.id-index c.loop-id-item.result c.in-Some.kind c.loop-id-test.true c.loop-id-item.is limit in
    let e = subst (λ (name : List ℕ). Refuses (Some (c.in-Some.kind, 37 ∷ name)) c.refusal.result) c.type_name.ensures c.refusal.ensures in
    subst (λ (found : Option (LimitKind × List ℕ)). Refuses found c.refusal.result) (sym first ∙ c.loop-id.invariant) e

pub loop-id-preserved : goal.loop-id-preserved
loop-id-preserved c =
    let limit : limit_of c.args.m.now.types c.loop-id-item.result.1 ≡ None = ap (λ (types : List (TypeId × Ty)). limit_of types c.loop-id-item.result.1) (sym c.requires) ∙ sym c.in_default.ensures in
    next-type c.args.m.now c.types-id-items.result.now c.loop-id.id-index c.loop-id-item.result c.loop-id-test.true c.loop-id-item.is limit ∙ c.loop-id.invariant
