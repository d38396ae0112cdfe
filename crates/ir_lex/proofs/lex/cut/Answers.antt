use Rattle.std.proofs.Common.{◌≡◌, ◌+◌, List, [], ◌∷◌, ◌++◌, sym, ap, ◌∙◌, subst, arith, append_assoc}
use Rattle.std.proofs.lemmas.List.{append-nil}
use Rattle.ir_core.specs.declared.text.Token.{Token}
use Rattle.ir_core.specs.Tokens.{HasTokens, HasBadColumn, Ends, Here}
use Rattle.ir_lex.proofs.Cutting.{gap_here, text_here, over_here, over_end, passes, past, token_here, none_here, token_within, takes, behind}
use Rattle.ir_lex.proofs.lex.cut.Goals as goal
use Rattle.ir_lex.proofs.lex.cut.Goals.{then-places-test+else-line-at-ne59, else-places-test}

pub places-preserved-then-is_blank : goal.places-preserved-then-is_blank
places-preserved-then-is_blank c =
    let line = c.args.line.now in
    let gap = gap_here line c.places.at c.places-test.true c.if-line-at-ne59.true (sym c.is_blank.ensures ∙ c.if-is_blank.true) in
    record {
      within = omega arith;
      tokens_left = λ tokens h. c.places.invariant.tokens_left tokens (passes line c.places.at c.places.first tokens gap h);
      column_left = λ column h. c.places.invariant.column_left column (past line c.places.at c.places.first column gap h);
    }

pub returns-then-len-eq0-clause-bad : goal.returns-then-len-eq0-clause-bad
returns-then-len-eq0-clause-bad c =
    let line = c.args.line.now in
    let here = text_here line c.places.at c.places-test.true c.if-line-at-ne59.true (sym c.is_blank.ensures ∙ c.if-is_blank.false) in
    let bad : HasBadColumn line (c.places.at + 1) = c.places.invariant.column_left (c.places.at + 1) (Here c.places.first c.places.at _ here (none_here line c.places.at c.places.first c.longest-kind.result c.longest-kind.ensures c.if-len-eq0.true)) in
    λ column e. let same : c.places.at + 1 ≡ column = cc in subst (HasBadColumn line) same bad

pub overflow_add-end : goal.overflow_add-end
overflow_add-end c = omega (arith, token_within c.args.line.now c.places.at c.places.first c.longest-kind.result c.longest-kind.ensures c.places.invariant.within c.if-len-eq0.false)

pub overflow_cast-end : goal.overflow_cast-end
overflow_cast-end c = omega (arith, token_within c.args.line.now c.places.at c.places.first c.longest-kind.result c.longest-kind.ensures c.places.invariant.within c.if-len-eq0.false)

pub places-preserved : goal.places-preserved
places-preserved c =
    let line = c.args.line.now in
    let here = text_here line c.places.at c.places-test.true c.if-line-at-ne59.true (sym c.is_blank.ensures ∙ c.if-is_blank.false) in
    let found = token_here line c.places.at c.places.first c.longest-kind.result c.longest-kind.ensures c.if-len-eq0.false in
    let token : Token = record { kind = c.longest-kind.result.0; start = c.places.at; end = c.places.at + c.longest-kind.result.1 } in
    let joined : (tokens : List Token) → c.push.new.self.items ++ tokens ≡ c.places.tokens.items ++ (token ∷ tokens) =
    λ tokens. ap (λ (l : List Token). l ++ tokens) c.in_ok-push.ensures.items ∙ append_assoc c.places.tokens.items (token ∷ []) tokens in
    record {
      within = token_within line c.places.at c.places.first c.longest-kind.result c.longest-kind.ensures c.places.invariant.within c.if-len-eq0.false;
      tokens_left = λ tokens h. subst (HasTokens line) (sym (joined tokens)) (c.places.invariant.tokens_left (token ∷ tokens) (takes line c.places.at c.places.first c.longest-kind.result.0 c.longest-kind.result.1 found here tokens h));
      column_left = λ column h. c.places.invariant.column_left column (behind line c.places.at c.places.first c.longest-kind.result.0 c.longest-kind.result.1 found here column h);
    }

pub returns-clause-tokens : goal.returns-clause-tokens
returns-clause-tokens c =
    let line = c.args.line.now in
    elim c.places-test.branch [
      | then-places-test+else-line-at-ne59 w ↦ subst (HasTokens line) (append-nil c.places.tokens.items) (c.places.invariant.tokens_left [] (Ends c.places.first c.places.at _ (over_here line c.places.at w.places-test.true w.if-line-at-ne59.false)))
      | else-places-test w ↦ subst (HasTokens line) (append-nil c.places.tokens.items) (c.places.invariant.tokens_left [] (Ends c.places.first c.places.at _ (over_end line c.places.at w.places-test.false)))
    ]
