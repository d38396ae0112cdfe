-- Lines with tokens, and what was made of these.
use Rattle.std.specs.Prelude.{codes}
use Rattle.std.proofs.Common.{◌≡◌, ℕ, ◌+◌, false, inl, List, [], ◌∷◌, ◌++◌, length, ap, refl, sym, subst, ◌∙◌, arith}
use Rattle.std.proofs.lemmas.List.{append-nil, length-append}
use Rattle.ir_core.specs.declared.text.Token.{Token}
use Rattle.ir_core.specs.declared.text.LinePlace.TheVariants.{Top, Function}
use Rattle.ir_grammar.specs.declared.trees.TopLine.{TopLine}
use Rattle.ir_grammar.specs.declared.trees.BodyLine.{BodyLine}
use Rattle.ir_grammar.specs.Fitting.{IsLine, IsUnfit}
use Rattle.ir_grammar.specs.Tokens.{tokens_of}
use Rattle.ir_grammar.specs.Top.{top_line, body_line}
use Rattle.ir_parse_top.specs.Sheet.{Outside, Inside, with_top, with_body}
use Rattle.ir_parse_top.specs.Text.{Line, is_unclosed, Fault, BadWord, word_at, Trips}
use Rattle.ir_parse_top.specs.Reading.{Left, lines_left, FindsText, FindsNothing, FindsTop, FindsBody, TripsOutside, TripsInside}
use Rattle.ir_parse_top.proofs.Runs.{text_leads, text_trips, trips_append, run_passed}

-- a token of a line outside functions is unfit
abbrev pub UnfitTop : List ℕ → List Token → ℕ → ℕ → Fault → Type 0
UnfitTop text tokens number n fault = (n ≡ number) × ((k : ℕ) × IsUnfit top_line.means (tokens_of text tokens) k × (fault ≡ word_at text tokens k))

-- the same inside functions
abbrev pub UnfitBody : List ℕ → List Token → ℕ → ℕ → Fault → Type 0
UnfitBody text tokens number n fault = (n ≡ number) × ((k : ℕ) × IsUnfit body_line.means (tokens_of text tokens) k × (fault ≡ word_at text tokens k))

module _ (old new : Left) (number : ℕ) (tokens taken : List Token) (text : List ℕ) (same : text ≡ new.text) (all : taken ≡ tokens) where
  pub top_found : (line : TopLine) → FindsText Top old new number tokens → IsLine top_line.means (tokens_of text taken) line → FindsTop old new line
  top_found line f means = record {
    used = f.used ++ f.line ∷ [];
    goes = f.goes;
    ahead = (let e : length (f.used ++ f.line ∷ []) ≡ length f.used + 1 = length-append f.used (f.line ∷ []) in omega (arith, e));
    run = λ tree. text_leads Top (Outside tree) refl refl old new number tokens (with_top old.text tree line) f (line, means_again, refl);
  }
    where
      means_again : IsLine top_line.means (tokens_of old.text tokens) line
      means_again = subst (λ (x : List ℕ). IsLine top_line.means (tokens_of x tokens) line) (same ∙ f.goes.text) (subst (λ (ts : List Token). IsLine top_line.means (tokens_of text ts) line) all means)

  pub top_trips : FindsText Top old new number tokens → (n : ℕ) (fault : Fault) → UnfitTop text taken number n fault → TripsOutside old n fault
  top_trips f n fault u tree =
      let v = subst (λ (x : List ℕ). UnfitTop x tokens number n fault) (same ∙ f.goes.text) (subst (λ (ts : List Token). UnfitTop text ts number n fault) all u) in
      text_trips Top (Outside tree) refl refl old new number tokens n v.1.0 fault f v.0 v.1.1 v.1.2

  pub body_found : (line : BodyLine) → FindsText Function old new number tokens → IsLine body_line.means (tokens_of text taken) line → FindsBody old new line
  body_found line f means = record {
    used = f.used ++ f.line ∷ [];
    goes = f.goes;
    ahead = (let e : length (f.used ++ f.line ∷ []) ≡ length f.used + 1 = length-append f.used (f.line ∷ []) in omega (arith, e));
    run = λ tree fn entry. text_leads Function (Inside tree fn entry []) refl refl old new number tokens (with_body tree fn entry line) f (inl (line, means_again, refl));
  }
    where
      means_again : IsLine body_line.means (tokens_of old.text tokens) line
      means_again = subst (λ (x : List ℕ). IsLine body_line.means (tokens_of x tokens) line) (same ∙ f.goes.text) (subst (λ (ts : List Token). IsLine body_line.means (tokens_of text ts) line) all means)

  pub body_trips : FindsText Function old new number tokens → is_unclosed (tokens_of text taken) ≡ false → (n : ℕ) (fault : Fault) → UnfitBody text taken number n fault → TripsInside old n fault
  body_trips f closed n fault u tree fn entry =
      let v = subst (λ (x : List ℕ). UnfitBody x tokens number n fault) (same ∙ f.goes.text) (subst (λ (ts : List Token). UnfitBody text ts number n fault) all u) in
      let c : is_unclosed (tokens_of old.text tokens) ≡ false = ap (λ (x : List ℕ). is_unclosed (tokens_of x tokens)) (sym (same ∙ f.goes.text)) ∙ ap (λ (ts : List Token). is_unclosed (tokens_of text ts)) (sym all) ∙ closed in
      text_trips Function (Inside tree fn entry []) refl refl old new number tokens n v.1.0 fault f v.0 (v.1.1, λ e. c) v.1.2

-- the text ends inside a function
pub nothing_trips : (old new : Left) (n : ℕ) (fault : Fault) → FindsNothing Function old new → n ≡ new.number → fault ≡ BadWord (codes "end") → TripsInside old n fault
nothing_trips old new n fault f is word tree fn entry =
    subst (λ (ls : List Line). Trips old.text old.number (Inside tree fn entry []) ls n fault) (append-nil (lines_left old))
    (trips_append old.text old.number (Inside tree fn entry []) (Inside tree fn entry []) (lines_left old) [] n fault (run_passed old.text (Inside tree fn entry []) (lines_left old) f.passed) (refl, is ∙ f.number, word))
