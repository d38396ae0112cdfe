-- One step of a line, from the place `at` on: at its end, at a gap, or at a token.
use Rattle.std.proofs.Common.{◌≡◌, ℕ, ◌+◌, ◌-◌, ◌<◌, ◌≤◌, Bool, true, false, eqb, List, ◌∷◌, length, take, drop, refl, sym, ap, subst, ◌∙◌, arith}
use Rattle.std.specs.List.{slice_index_or}
use Rattle.std.proofs.lemmas.Bool.Decides.{nat_tests}
use Rattle.std.proofs.lemmas.List.{drop_more, drop_all, drop-drop, take_rest, length-drop}
use Rattle.ir_core.specs.declared.text.TokKind.{TokKind}
use Rattle.ir_core.specs.declared.text.Token.{Token}
use Rattle.ir_core.specs.Tokens.{is_blank, Begins, Over, Gap, Text, place_of, Tokens, Passes, Takes, BadColumn, Past, Behind_token}
use Rattle.ir_core.specs.TokenLengths.{longest_of}
use Rattle.ir_core.proofs.LongestToken.{Longest, longest_found, longest_none}

is_not : (b k : ℕ) → (b ≡ k → ⊥) → eqb b k ≡ false
is_not b k h = grind (arith, nat_tests)

is_same : (b k : ℕ) → b ≡ k → eqb b k ≡ true
is_same b k h = grind (arith, nat_tests)

module _ (line : List ℕ) (at : ℕ) where
  abbrev byte : ℕ
  byte = slice_index_or line at 0

  place : at < length line → place_of (drop at line) ≡ place_of (byte ∷ drop (at + 1) line)
  place lt = ap place_of (drop_more line at 0 lt)

  pub gap_here : at < length line → (byte ≡ 59 → ⊥) → is_blank byte ≡ true → place_of (drop at line) ≡ Gap
  gap_here lt h blank = place lt ∙ rw (is_not byte 59 h, blank) refl

  pub text_here : at < length line → (byte ≡ 59 → ⊥) → is_blank byte ≡ false → place_of (drop at line) ≡ Text
  text_here lt h blank = place lt ∙ rw (is_not byte 59 h, blank) refl

  pub over_here : at < length line → byte ≡ 59 → place_of (drop at line) ≡ Over
  over_here lt h = place lt ∙ rw (is_same byte 59 h) refl

  pub over_end : length line ≤ at → place_of (drop at line) ≡ Over
  over_end le = ap place_of (drop_all at line le)

  pub passes : (first : Bool) (tokens : List Token) → place_of (drop at line) ≡ Gap → Tokens first (at + 1) (drop (at + 1) line) tokens → Tokens first at (drop at line) tokens
  passes first tokens gap h = Passes first at (drop at line) tokens gap (subst (λ (l : List ℕ). Tokens first (at + 1) l tokens) (sym (drop-drop 1 at line)) h)

  pub past : (first : Bool) (column : ℕ) → place_of (drop at line) ≡ Gap → BadColumn first (at + 1) (drop (at + 1) line) column → BadColumn first at (drop at line) column
  past first column gap h = Past first at (drop at line) column gap (subst (λ (l : List ℕ). BadColumn first (at + 1) l column) (sym (drop-drop 1 at line)) h)

  -- what is found in the rest of the line
  module _ (first : Bool) (found : TokKind × ℕ) (e : found ≡ longest_of first (take (length line - at) (drop at line))) where
    same : found ≡ longest_of first (drop at line)
    same = e ∙ ap (longest_of first) (take_rest line at)

    pub token_here : (found.1 ≡ 0 → ⊥) → Longest first (drop at line) found.0 found.1
    token_here some =
        let lt : 0 < found.1 = omega arith in
        subst (λ (f : TokKind × ℕ). Longest first (drop at line) f.0 f.1) (sym same) (longest_found first (drop at line) (subst (λ (f : TokKind × ℕ). 0 < f.1) same lt))

    pub none_here : found.1 ≡ 0 → Begins first (drop at line) → ⊥
    none_here none = longest_none first (drop at line) (ap (λ (f : TokKind × ℕ). f.1) (sym same) ∙ none)

    pub token_within : at ≤ length line → (found.1 ≡ 0 → ⊥) → at + found.1 ≤ length line
    token_within le some = let w = token_here some in omega (arith, w.within, length-drop at line)

  module _ (first : Bool) (kind : TokKind) (len : ℕ) (found : Longest first (drop at line) kind len) (here : place_of (drop at line) ≡ Text) where
    pub takes : (tokens : List Token) → Tokens false (at + len) (drop (at + len) line) tokens → Tokens first at (drop at line) (record { kind = kind; start = at; end = at + len } ∷ tokens)
    takes tokens = subst (λ (n : ℕ). Tokens false (at + n) (drop (at + n) line) tokens → Tokens first at (drop at line) (record { kind = kind; start = at; end = at + n } ∷ tokens)) found.size
        (λ h. Takes first at (drop at line) kind found.text tokens here found.is (subst (λ (l : List ℕ). Tokens false (at + length found.text) l tokens) (sym (drop-drop (length found.text) at line)) h))

    pub behind : (column : ℕ) → BadColumn false (at + len) (drop (at + len) line) column → BadColumn first at (drop at line) column
    behind column = subst (λ (n : ℕ). BadColumn false (at + n) (drop (at + n) line) column → BadColumn first at (drop at line) column) found.size
        (λ h. Behind_token first at (drop at line) kind found.text column here found.is (subst (λ (l : List ℕ). BadColumn false (at + length found.text) l column) (sym (drop-drop (length found.text) at line)) h))
