-- Lines that have been taken one after another, and those of them that say nothing.
use Rattle.std.specs.Prelude.{⊤}
use Rattle.std.specs.List.{AllByRecursion}
use Rattle.std.proofs.Common.{◌≡◌, ℕ, ◌+◌, ◌≤◌, ◌<◌, List, [], ◌∷◌, ◌++◌, length, ap, refl, sym, subst, ◌∙◌, arith}
use Rattle.std.proofs.lemmas.List.{append-nil, append_assoc, length-append, length-map}
use Rattle.ir_core.specs.declared.text.Token.{Token}
use Rattle.ir_core.specs.declared.text.LinePlace.{LinePlace}
use Rattle.ir_core.specs.Tokens.{HasTokens, IsWithin}
use Rattle.ir_core.specs.Lines.{IsDropped}
use Rattle.ir_parse_top.specs.Text.{Line, moved, all_moved}
use Rattle.ir_parse_top.specs.Reading.{Left, lines_left, Takes, AddsTokens, Goes, IsPassed, Passes, FindsText, FindsNothing}

pub all_append : {X : Type 0} (P : X → Type 0) (xs ys : List X) → AllByRecursion P xs → AllByRecursion P ys → AllByRecursion P (xs ++ ys)
all_append P [] ys a b = b
all_append P (x ∷ xs) ys a b = (a.0, all_append P xs ys a.1 b)

abbrev IsCons : {X : Type 0} → List X → Type 0
IsCons [] = ⊥
IsCons (x ∷ xs) = ⊤

pub cons_isnt_nil : {X : Type 0} {x : X} {xs : List X} → (x ∷ xs) ≡ [] → ⊥
cons_isnt_nil {X = X} e = subst (λ (l : List X). IsCons l) e tt

pub empty_list : {X : Type 0} (xs ys : List X) → xs ≡ ys → length xs < 1 → ys ≡ []
empty_list [] ys e h = sym e
empty_list (x ∷ xs) ys e h = absurd (omega (arith, h))

pub isnt_empty : {X : Type 0} (xs ys : List X) → xs ≡ ys → 1 ≤ length xs → ys ≡ [] → ⊥
isnt_empty [] ys e h none = omega (arith, h)
isnt_empty (x ∷ xs) ys e h none = cons_isnt_nil (e ∙ none)

-- ---- lines that are taken

pub goes_none : (left : Left) → Goes [] left left
goes_none left = record { text = refl; lines = refl; number = (let e : left.number ≡ left.number + 0 = omega arith in e) }

pub goes_on : (a b : List Line) (old middle new : Left) → Goes a old middle → Goes b middle new → Goes (a ++ b) old new
goes_on a b old middle new before after = record {
  text = after.text ∙ before.text;
  lines = before.lines ∙ ap (λ (l : List Line). a ++ l) after.lines ∙ sym (append_assoc a b (lines_left new));
  number = (let n : new.number ≡ middle.number + length b = after.number in
      let m : middle.number ≡ old.number + length a = before.number in
      let e : length (a ++ b) ≡ length a + length b = length-append a b in
      omega (arith, n, m, e));
}

pub goes_one : (line : Line) (number : ℕ) (old new : Left) → Takes line number old new → Goes (line ∷ []) old new
goes_one line number old new t = record { text = t.text; lines = t.lines; number = t.next }

-- ---- lines that say nothing

pub passes_none : (place : LinePlace) (left : Left) → Passes place left left
passes_none place left = record { used = []; passed = tt; goes = goes_none left }

pub passes_more : (place : LinePlace) (old middle new : Left) (line : Line) (number : ℕ) → Passes place old middle → Takes line number middle new → IsPassed place line → Passes place old new
passes_more place old middle new line number before t passed = record {
  used = before.used ++ line ∷ [];
  passed = all_append (IsPassed place) before.used (line ∷ []) before.passed (passed, tt);
  goes = goes_on before.used (line ∷ []) old middle new before.goes (goes_one line number middle new t);
}

-- ---- tokens that are told by their places in the text

pub moved_within : (size at len : ℕ) (tokens : List Token) → at + len ≤ size → AllByRecursion (IsWithin len) tokens → AllByRecursion (IsWithin size) (all_moved at tokens)
moved_within size at len [] h all = tt
moved_within size at len (t ∷ tokens) h all = (
  record {
    ordered = (let o : t.start ≤ t.end = all.0.ordered in omega (arith, o));
    inside = (let i : t.end ≤ len = all.0.inside in omega (arith, i, h));
  },
  moved_within size at len tokens h all.1,
)

blank_again : (at : ℕ) (own tokens : List Token) → tokens ≡ all_moved at own → tokens ≡ [] → own ≡ []
blank_again at [] tokens e none = refl
blank_again at (t ∷ own) tokens e none = absurd (cons_isnt_nil (sym e ∙ none))

-- a line whose tokens leave the list empty has none
pub blank_line : (line : Line) (before after : List Token) → before ≡ [] → AddsTokens line before after → after ≡ [] → HasTokens line.bytes []
blank_line line before after none adds empty =
    subst (λ (ts : List Token). HasTokens line.bytes ts) (blank_again line.at adds.own after (adds.joined ∙ ap (λ (ts : List Token). ts ++ all_moved line.at adds.own) none) empty) adds.is

pub finds_text : (place : LinePlace) (old middle new : Left) (line : Line) (number : ℕ) (before after : List Token) → before ≡ [] → Passes place old middle → Takes line number middle new
    → (IsDropped place line.bytes → ⊥) → AddsTokens line before after → (after ≡ [] → ⊥) → FindsText place old new number after
finds_text place old middle new line number before after none p t kept adds some = record {
  used = p.used;
  line = line;
  passed = p.passed;
  goes = goes_on p.used (line ∷ []) old middle new p.goes (goes_one line number middle new t);
  number_is = t.number_is ∙ p.goes.number;
  own = adds.own;
  kept = kept;
  is = adds.is;
  some = λ e. some (joined ∙ ap (all_moved line.at) e);
  joined = joined;
  within = record {
    each = subst (λ (ts : List Token). AllByRecursion (IsWithin (length old.text)) ts) (sym joined) (moved_within (length old.text) line.at (length line.bytes) adds.own in_text adds.within.each);
    count = (let e : length after ≡ length adds.own = length_is in let c : length adds.own ≤ length line.bytes = adds.within.count in let w : line.at + length line.bytes ≤ length old.text = in_text in omega (arith, e, c, w));
  };
  few = (let e : length after ≡ length adds.own = length_is in let c : length adds.own ≤ length line.bytes = adds.within.count in let a : new.at ≡ middle.at + length line.bytes + 1 = t.at in omega (arith, e, c, a));
}
  where
    joined : after ≡ all_moved line.at adds.own
    joined = adds.joined ∙ ap (λ (ts : List Token). ts ++ all_moved line.at adds.own) none

    in_text : line.at + length line.bytes ≤ length old.text
    in_text = subst (λ (bytes : List ℕ). line.at + length line.bytes ≤ length bytes) p.goes.text t.within

    length_is : length after ≡ length adds.own
    length_is = ap length joined ∙ length-map adds.own (moved line.at)

pub finds_nothing : (place : LinePlace) (old middle new : Left) → Passes place old middle → lines_left middle ≡ [] → new ≡ middle → FindsNothing place old new
finds_nothing place old middle new p none same = record {
  passed = subst (λ (ls : List Line). AllByRecursion (IsPassed place) ls) (sym all) p.passed;
  text = ap (λ (l : Left). l.text) same ∙ p.goes.text;
  number = ap (λ (l : Left). l.number) same ∙ p.goes.number ∙ ap (λ (ls : List Line). old.number + length ls) (sym all);
  over = ap lines_left same ∙ none;
}
  where
    all : lines_left old ≡ p.used
    all = p.goes.lines ∙ ap (λ (ls : List Line). p.used ++ ls) none ∙ append-nil p.used
