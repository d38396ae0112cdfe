-- A line has tokens or a bad column, not both, and one list of tokens or one bad column only.
use Rattle.std.proofs.Common.{◌≡◌, ℕ, zero, suc, ◌+◌, ◌<◌, Bool, true, false, nat_lt, List, [], ◌∷◌, length, drop, refl, sym, ap, subst, ◌∙◌, arith}
use Rattle.std.proofs.lemmas.Bool.Decides.{nat_tests}
use Rattle.std.proofs.lemmas.List.{length-drop}
use Rattle.ir_core.specs.declared.text.TokKind.{TokKind}
use Rattle.ir_core.specs.declared.text.Token.{Token}
use Rattle.ir_core.specs.Tokens.{IsLongest, Begins, Place, Over, Gap, Text, place_of, Tokens, Ends, Passes, Takes, BadColumn, Here, Past, Behind_token}
use Rattle.ir_core.specs.TokenLengths.{longest_of}
use Rattle.ir_core.proofs.LongestToken.{longest_found, longest_none, same_text, same_kind}

-- one place of a line isn't two
module _ (bytes : List ℕ) where
  over_gap : place_of bytes ≡ Over → place_of bytes ≡ Gap → ⊥
  over_gap e h = let k : Over ≡ Gap = sym e ∙ h in cc

  over_text : place_of bytes ≡ Over → place_of bytes ≡ Text → ⊥
  over_text e h = let k : Over ≡ Text = sym e ∙ h in cc

  gap_text : place_of bytes ≡ Gap → place_of bytes ≡ Text → ⊥
  gap_text e h = let k : Gap ≡ Text = sym e ∙ h in cc

-- a token at the front is one that begins
begins : (first : Bool) (kind : TokKind) (text bytes : List ℕ) → IsLongest first kind text bytes → Begins first bytes
begins first kind text bytes h = (kind, text, h.is, h.front)

-- the tokens of a line are unique
pub same_tokens : (first : Bool) (at : ℕ) (bytes : List ℕ) (tokens others : List Token) → Tokens first at bytes tokens → Tokens first at bytes others → tokens ≡ others
same_tokens first at bytes tokens others (Ends _ _ _ e) (Ends _ _ _ h) = refl
same_tokens first at bytes tokens others (Ends _ _ _ e) (Passes _ _ _ us h k) = absurd (over_gap bytes e h)
same_tokens first at bytes tokens others (Ends _ _ _ e) (Takes _ _ _ kind text us h l k) = absurd (over_text bytes e h)
same_tokens first at bytes tokens others (Passes _ _ _ ts e m) (Ends _ _ _ h) = absurd (over_gap bytes h e)
same_tokens first at bytes tokens others (Passes _ _ _ ts e m) (Passes _ _ _ us h k) = same_tokens first (at + 1) (drop 1 bytes) ts us m k
same_tokens first at bytes tokens others (Passes _ _ _ ts e m) (Takes _ _ _ kind text us h l k) = absurd (gap_text bytes e h)
same_tokens first at bytes tokens others (Takes _ _ _ kind text ts e l m) (Ends _ _ _ h) = absurd (over_text bytes h e)
same_tokens first at bytes tokens others (Takes _ _ _ kind text ts e l m) (Passes _ _ _ us h k) = absurd (gap_text bytes h e)
same_tokens first at bytes tokens others (Takes _ _ _ kind text ts e l m) (Takes _ _ _ other again us h n k) =
    let words : text ≡ again = same_text first kind other text again bytes l n in
    let kinds : kind ≡ other = same_kind first kind other text again bytes l n in
    let later : ts ≡ us = same_tokens false (at + length text) (drop (length text) bytes) ts us m (subst (λ (x : List ℕ). Tokens false (at + length x) (drop (length x) bytes) us) (sym words) k) in
    let made : TokKind → List ℕ → List Token → List Token = λ c x rest. record { kind = c; start = at; end = at + length x } ∷ rest in
    ap (λ (c : TokKind). made c text ts) kinds ∙ ap (λ (x : List ℕ). made other x ts) words ∙ ap (λ (rest : List Token). made other again rest) later

-- the first bad column of a line is unique
pub same_column : (first : Bool) (at : ℕ) (bytes : List ℕ) (column other : ℕ) → BadColumn first at bytes column → BadColumn first at bytes other → column ≡ other
same_column first at bytes column other (Here _ _ _ e x) (Here _ _ _ h y) = refl
same_column first at bytes column other (Here _ _ _ e x) (Past _ _ _ d h k) = absurd (gap_text bytes h e)
same_column first at bytes column other (Here _ _ _ e x) (Behind_token _ _ _ kind text d h l k) = absurd (x (begins first kind text bytes l))
same_column first at bytes column other (Past _ _ _ c e m) (Here _ _ _ h y) = absurd (gap_text bytes e h)
same_column first at bytes column other (Past _ _ _ c e m) (Past _ _ _ d h k) = same_column first (at + 1) (drop 1 bytes) column other m k
same_column first at bytes column other (Past _ _ _ c e m) (Behind_token _ _ _ kind text d h l k) = absurd (gap_text bytes e h)
same_column first at bytes column other (Behind_token _ _ _ kind text c e l m) (Here _ _ _ h y) = absurd (y (begins first kind text bytes l))
same_column first at bytes column other (Behind_token _ _ _ kind text c e l m) (Past _ _ _ d h k) = absurd (gap_text bytes h e)
same_column first at bytes column other (Behind_token _ _ _ kind text c e l m) (Behind_token _ _ _ third again d h n k) =
    let words : text ≡ again = same_text first kind third text again bytes l n in
    same_column false (at + length text) (drop (length text) bytes) column other m (subst (λ (x : List ℕ). BadColumn false (at + length x) (drop (length x) bytes) other) (sym words) k)

-- a line that has tokens has no bad column
pub not_both : (first : Bool) (at : ℕ) (bytes : List ℕ) (tokens : List Token) (column : ℕ) → Tokens first at bytes tokens → BadColumn first at bytes column → ⊥
not_both first at bytes tokens column (Ends _ _ _ e) (Here _ _ _ h y) = over_text bytes e h
not_both first at bytes tokens column (Ends _ _ _ e) (Past _ _ _ d h k) = over_gap bytes e h
not_both first at bytes tokens column (Ends _ _ _ e) (Behind_token _ _ _ kind text d h l k) = over_text bytes e h
not_both first at bytes tokens column (Passes _ _ _ ts e m) (Here _ _ _ h y) = gap_text bytes e h
not_both first at bytes tokens column (Passes _ _ _ ts e m) (Past _ _ _ d h k) = not_both first (at + 1) (drop 1 bytes) tokens column m k
not_both first at bytes tokens column (Passes _ _ _ ts e m) (Behind_token _ _ _ kind text d h l k) = gap_text bytes e h
not_both first at bytes tokens column (Takes _ _ _ kind text ts e l m) (Here _ _ _ h y) = y (begins first kind text bytes l)
not_both first at bytes tokens column (Takes _ _ _ kind text ts e l m) (Past _ _ _ d h k) = gap_text bytes h e
not_both first at bytes tokens column (Takes _ _ _ kind text ts e l m) (Behind_token _ _ _ other again d h n k) =
    let words : text ≡ again = same_text first kind other text again bytes l n in
    not_both false (at + length text) (drop (length text) bytes) ts column m (subst (λ (x : List ℕ). BadColumn false (at + length x) (drop (length x) bytes) column) (sym words) k)

-- a line has tokens or a bad column
pub data Either_of (first : Bool) (at : ℕ) (bytes : List ℕ) : Type 0 where
  Has_tokens : (tokens : List Token) → Tokens first at bytes tokens → Either_of first at bytes
  Has_column : (column : ℕ) → BadColumn first at bytes column → Either_of first at bytes

pub tokens_or_column : (n : ℕ) (first : Bool) (at : ℕ) (bytes : List ℕ) → length bytes < n → Either_of first at bytes
tokens_or_column zero first at bytes lt = absurd (omega arith)
tokens_or_column (suc n) first at bytes lt = by (place_of bytes) refl (tokens_or_column n)
  where
    passed : place_of bytes ≡ Gap → Either_of first (at + 1) (drop 1 bytes) → Either_of first at bytes
    passed e (Has_tokens ts h) = Has_tokens ts (Passes first at bytes ts e h)
    passed e (Has_column c h) = Has_column c (Past first at bytes c e h)

    taken : (kind : TokKind) (text : List ℕ) → place_of bytes ≡ Text → IsLongest first kind text bytes → Either_of false (at + length text) (drop (length text) bytes) → Either_of first at bytes
    taken kind text e l (Has_tokens ts h) = Has_tokens _ (Takes first at bytes kind text ts e l h)
    taken kind text e l (Has_column c h) = Has_column c (Behind_token first at bytes kind text c e l h)

    goes_on : (bytes : List ℕ) → place_of bytes ≡ Gap → 0 < length bytes
    goes_on [] e = let k : Over ≡ Gap = e in absurd cc
    goes_on (b ∷ bytes) e = omega arith

    at_text : (t : Bool) → nat_lt 0 (longest_of first bytes).1 ≡ t → place_of bytes ≡ Text → ((f : Bool) (a : ℕ) (l : List ℕ) → length l < n → Either_of f a l) → Either_of first at bytes
    at_text true e h later =
        let some : 0 < (longest_of first bytes).1 = above _ e in
        let r = longest_found first bytes some in
        let le : length (drop (length r.text) bytes) < n = omega (arith, length-drop (length r.text) bytes, r.size, r.within) in
        taken (longest_of first bytes).0 r.text h r.is (later false (at + length r.text) (drop (length r.text) bytes) le)
      where
        above : (m : ℕ) → nat_lt 0 m ≡ true → 0 < m
        above m e = grind (arith, nat_tests)
    at_text false e h later = Has_column (at + 1) (Here first at bytes h (longest_none first bytes (none _ e)))
      where
        none : (m : ℕ) → nat_lt 0 m ≡ false → m ≡ 0
        none m e = grind (arith, nat_tests)

    by : (p : Place) → place_of bytes ≡ p → ((f : Bool) (a : ℕ) (l : List ℕ) → length l < n → Either_of f a l) → Either_of first at bytes
    by Over e later = Has_tokens [] (Ends first at bytes e)
    by Gap e later = passed e (later first (at + 1) (drop 1 bytes) (omega (arith, goes_on bytes e, length-drop 1 bytes)))
    by Text e later = at_text (nat_lt 0 (longest_of first bytes).1) refl e later
