use Rattle.std.proofs.Common.{◌≡◌, ◌+◌, List, ℕ, ◌∷◌, ◌++◌, [], drop, sym, ap, subst, ◌∙◌, arith}
use Rattle.std.specs.Prelude.{Option, None, Some}
use Rattle.ir_core.specs.declared.types.Ty.{Ty}
use Rattle.ir_core.specs.declared.types.TypeId.{TypeId}
use Rattle.ir_layout.specs.declared.limits.LimitKind.{LimitKind}
use Rattle.ir_layout.specs.declared.spans.Span.{Span}
use Rattle.ir_layout.specs.Memory.{span_at, end_of, spans_from}
use Rattle.ir_layout.specs.Limits.{limit_of_global, first_of_globals, Refuses}
use Rattle.ir_layout.proofs.PlacingLemmas.{first-global, next-global, next-span, fits-end, le-end}
use Rattle.ir_layout.proofs.placing.place_globals.Goals as goal

pub returns-in-Some-clause-limit : goal.returns-in-Some-clause-limit
returns-in-Some-clause-limit c =
    let limit : limit_of_global c.args.m.now.types c.loop-global.taken c.global-item.result ≡ Some c.in-Some.kind = ap (λ (types : List (TypeId × Ty)). limit_of_global types c.loop-global.taken c.global-item.result) (sym c.requires) ∙ sym c.in-Some.ensures in
    let first = first-global c.args.m.now c.loop-global.taken c.globals-global-items.result.now c.loop-global.global-index c.global-item.result c.in-Some.kind c.loop-global-test.true c.global-item.is limit in
    let e = subst (λ (name : List ℕ). Refuses (Some (c.in-Some.kind, 64 ∷ name)) c.refusal.result) c.sym_name.ensures c.refusal.ensures in
    subst (λ (found : Option (LimitKind × List ℕ)). Refuses found c.refusal.result) (sym first ∙ c.loop-global.invariant.first) e

pub loop-global-preserved : goal.loop-global-preserved
loop-global-preserved c =
    let limit : limit_of_global c.args.m.now.types c.loop-global.taken c.global-item.result ≡ None = ap (λ (types : List (TypeId × Ty)). limit_of_global types c.loop-global.taken c.global-item.result) (sym c.requires) ∙ sym c.in_default.ensures in
    let span : c.span_at-span.result ≡ span_at c.args.m.now.types c.loop-global.taken c.global-item.result = c.span_at-span.ensures ∙ ap (λ (types : List (TypeId × Ty)). span_at types c.loop-global.taken c.global-item.result) c.requires in
    let end : end_of c.span_at-span.result ≡ end_of (span_at c.args.m.now.types c.loop-global.taken c.global-item.result) = ap (λ (s : Span). end_of s) span in
    let later = λ (taken : ℕ). first_of_globals c.args.m.now taken (drop (c.loop-global.global-index + 1) c.globals-global-items.result.now) in
    record {
      low = omega (arith, end, le-end c.args.m.now.types c.loop-global.taken c.global-item.result);
      high = omega (arith, end, fits-end c.args.m.now.types c.loop-global.taken c.global-item.result limit);
      first = ap later end ∙ next-global c.args.m.now c.loop-global.taken c.globals-global-items.result.now c.loop-global.global-index c.global-item.result c.loop-global-test.true c.global-item.is limit ∙ c.loop-global.invariant.first;
      placed =
          ap (λ (spans : List Span). spans ++ spans_from c.args.m.now.types (end_of c.span_at-span.result) (drop (c.loop-global.global-index + 1) c.globals-global-items.result.now)) c.in_ok-add_global.ensures.added
          ∙ ap (λ (s : Span). (c.loop-global.globals.items ++ s ∷ []) ++ spans_from c.args.m.now.types (end_of s) (drop (c.loop-global.global-index + 1) c.globals-global-items.result.now)) span
          ∙ next-span c.args.m.now.types c.loop-global.taken c.globals-global-items.result.now c.loop-global.global-index c.global-item.result c.loop-global.globals.items c.loop-global-test.true c.global-item.is
          ∙ c.loop-global.invariant.placed;
      addresses = c.in_ok-add_global.ensures.addresses;
    }
