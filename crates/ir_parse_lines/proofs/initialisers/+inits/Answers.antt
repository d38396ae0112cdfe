use Rattle.std.proofs.Common.{ℕ, zero, suc, ◌≡◌, ◌-◌, ◌∙◌, List, Option, Some, drop, refl, sym, ap, subst, arith}
use Rattle.std.specs.Prelude.{option_map, option_and_then}
use Rattle.ir_core.specs.declared.types.Ty.{Ty}
use Rattle.ir_core.specs.declared.values.Init.{Init}
use Rattle.ir_grammar.specs.declared.trees.InitHead.{InitHead}
use Rattle.ir_grammar.specs.Parts.{Tok, Part, first, taken, read_then}
use Rattle.std.proofs.lemmas.Result.{err_from_is_err_and}
use Rattle.ir_grammar.specs.Top.{init_head, init_first, init_rest, typed_init, init}
use Rattle.ir_grammar.proofs.Turns.{comma_turns, comma_then, turns_more, turns_over, turns_stop}
use Rattle.ir_grammar.proofs.TopLaws.{init_law, typed_law}
use Rattle.ir_parse_parts.specs.Views.{tok_view}
use Rattle.ir_parse_parts.specs.Reads.{Gave}
use Rattle.ir_parse_parts.proofs.Exits.{stopped_then}
use Rattle.ir_parse_lines.proofs.initialisers.+inits.Goals as goal

-- a first token that an initialiser begins with, and then the rest of it
init_step : (b : ℕ) (ty : Ty) (ts : List Tok) (t : Tok) (h : InitHead) → (b ≡ 0 → ⊥) → first ts ≡ Some t → init_head ty t ≡ Some h → (init b ty).reads ts ≡ (init_rest (init (b - 1)) t.text h).reads (drop 1 ts)
unfolding init
init_step zero ty ts t h b e g = absurd (b refl)
init_step (suc n) ty ts t h b e g = ap (λ (o : Option Tok). read_then (taken (option_and_then (init_first ty) o) ts) (rest n)) e ∙ ap (λ (o : Option InitHead). read_then (taken (option_map (λ head. (head, t.text)) o) ts) (rest n)) g ∙ ap (λ m. (init_rest (init m) t.text h).reads (drop 1 ts)) (sym less)
  where
    less : suc n - 1 ≡ n
    less = omega arith

    rest : ℕ → InitHead × List ℕ → Part Init
    rest n x = init_rest (init n) x.1 x.0

pub init-returns : goal.init-returns
init-returns t c =
    let token : first c.args.reader.now ≡ Some (tok_view c.in-Some.tok) = sym c.in-Some.ensures in
    let head : init_head c.args.ty.now (tok_view c.in-Some.tok) ≡ Some c.in-Some-init_head.head = sym c.in-Some-init_head.ensures in
    let step = init_step c.args.brackets c.args.ty.now c.args.reader.now (tok_view c.in-Some.tok) c.in-Some-init_head.head c.if-brackets-eq0.false token head in
    subst (Gave c.init_rest.result c.init_rest.new.reader) (sym (step ∙ ap (init_rest (init (c.args.brackets - 1)) c.in-Some.tok.text.now c.in-Some-init_head.head).reads (sym c.skip.ensures))) c.init_rest.ensures

pub more_parts-more-preserved : goal.more_parts-more-preserved
more_parts-more-preserved t c =
    let law = typed_law (init c.args.inner) (init_law c.args.inner) in
    rw c.in_ok-push.ensures.ok
    (turns_more (comma_turns law) c.more.parts c.more.reader c.typed.new.reader c.in_ok-typed.field-0 (sym c.more-test.ensures) (comma_then (typed_init (init c.args.inner)) c.more.reader c.punct.new.self c.in_ok-punct.ensures c.in_ok-typed.ensures)
    ∙ c.more.invariant)

pub more_parts-more-smaller : goal.more_parts-more-smaller
more_parts-more-smaller t c =
    let law = typed_law (init c.args.inner) (init_law c.args.inner) in
    (comma_turns law).shrinks c.more.reader c.typed.new.reader c.in_ok-typed.field-0 (sym c.more-test.ensures) (comma_then (typed_init (init c.args.inner)) c.more.reader c.punct.new.self c.in_ok-punct.ensures c.in_ok-typed.ensures)

pub more_parts-returns-in_err-typed : goal.more_parts-returns-in_err-typed
more_parts-returns-in_err-typed t c =
    let law = typed_law (init c.args.inner) (init_law c.args.inner) in
    let p = err_from_is_err_and c.from_residual-in_err-typed.result c.from_residual-in_err-typed.ensures.1 in
    rw (p.1, p.2) (stopped_then c.in_err-typed.field-0.0 _ _ (λ n e. sym c.more.invariant ∙ turns_stop (comma_turns law) c.more.parts c.more.reader n (sym c.more-test.ensures) (comma_then (typed_init (init c.args.inner)) c.more.reader c.punct.new.self c.in_ok-punct.ensures e)) c.in_err-typed.ensures)

pub more_parts-returns : goal.more_parts-returns
more_parts-returns t c =
    let law = typed_law (init c.args.inner) (init_law c.args.inner) in
    sym c.more.invariant ∙ turns_over (comma_turns law) c.more.parts c.more.reader (sym c.more-test.ensures)
