-- The tokens of a line lie within it, and are no more than its bytes.
use Rattle.std.proofs.Common.{ℕ, ◌≡◌, ◌+◌, ◌<◌, ◌≤◌, Bool, true, false, IsTrue, List, [], ◌∷◌, ◌++◌, length, drop, codes, ap, ⊎_elim, arith, length-append}
use Rattle.std.proofs.lemmas.List.{length-drop}
use Rattle.std.specs.List.{AllByRecursion}
use Rattle.ir_core.specs.declared.text.TokKind.{TokKind}
use Rattle.ir_core.specs.declared.text.TokKind.TheVariants.{Word, Local, At, Label, Num, Bytes, Str, Hash, Bang, Punct}
use Rattle.ir_core.specs.declared.text.Token.{Token}
use Rattle.ir_core.specs.Tokens.{is_word, is_digits, is_one_punct, IsToken, Over, Gap, place_of, Tokens, Ends, Passes, Takes, IsWithin, AreWithin}

word_some : (text : List ℕ) → IsTrue (is_word text) → 0 < length text
word_some [] h = absurd cc
word_some (b ∷ text) h = omega arith

digits_some : (text : List ℕ) → IsTrue (is_digits text) → 0 < length text
digits_some [] h = absurd cc
digits_some (b ∷ text) h = omega arith

punct_some : (text : List ℕ) → IsTrue (is_one_punct text) → 0 < length text
punct_some [] h = absurd cc
punct_some (b ∷ text) h = omega arith

longer_whole : (text front back : List ℕ) → text ≡ front ++ back → length front ≤ length text
longer_whole text front back e = omega (arith, ap length e, length-append front back)

longer_end : (text front back : List ℕ) → text ≡ front ++ back → length back ≤ length text
longer_end text front back e = omega (arith, ap length e, length-append front back)

-- no token is empty
some_bytes : (first : Bool) (kind : TokKind) (text : List ℕ) → IsToken first kind text → 0 < length text
unfolding IsToken
some_bytes first Word text h = word_some text h
some_bytes first Local text h = omega (arith, longer_whole text (codes "%") h.rest h.whole)
some_bytes first At text h = omega (arith, longer_whole text (codes "@") h.rest h.whole)
some_bytes first Label text h = omega (arith, longer_end text h.1.begin (codes ":") h.1.whole)
some_bytes first Num text h = ⊎_elim (λ d. digits_some text d) (λ d. omega (arith, longer_whole text (codes "-") d.rest d.whole)) h
some_bytes first Bytes text h = omega (arith, longer_end text (codes "c\"" ++ h.inside) (codes "\"") h.whole)
some_bytes first Str text h = omega (arith, longer_end text (codes "\"" ++ h.inside) (codes "\"") h.whole)
some_bytes first Hash text h = omega (arith, longer_whole text (codes "#") h.rest h.whole)
some_bytes first Bang text h = omega (arith, longer_whole text (codes "!") h.rest h.whole)
some_bytes first Punct text h = punct_some text h

gap_some : (bytes : List ℕ) → place_of bytes ≡ Gap → 0 < length bytes
gap_some [] e = let k : Over ≡ Gap = e in absurd cc
gap_some (b ∷ bytes) e = omega arith

-- the tokens from a place on lie before the end of their bytes
from_place : (size : ℕ) (first : Bool) (at : ℕ) (bytes : List ℕ) (tokens : List Token) → Tokens first at bytes tokens → at + length bytes ≤ size → AllByRecursion (IsWithin size) tokens × (length tokens ≤ length bytes)
from_place size first at bytes tokens (Ends _ _ _ e) le = (tt, omega arith)
from_place size first at bytes tokens (Passes _ _ _ ts e h) le =
    let some : 0 < length bytes = gap_some bytes e in
    let r = from_place size first (at + 1) (drop 1 bytes) ts h (omega (arith, length-drop 1 bytes)) in
    (r.0, omega (arith, length-drop 1 bytes, r.1))
from_place size first at bytes tokens (Takes _ _ _ kind text ts e l h) le =
    let some : 0 < length text = some_bytes first kind text l.is in
    let fits : length text ≤ length bytes = longer_whole bytes text l.front.0 l.front.1 in
    let r = from_place size false (at + length text) (drop (length text) bytes) ts h (omega (arith, length-drop (length text) bytes)) in
    ((record { ordered = omega arith; inside = omega arith }, r.0), omega (arith, length-drop (length text) bytes, r.1))

pub tokens_within : (line : List ℕ) (tokens : List Token) → Tokens true 0 line tokens → AreWithin (length line) tokens
tokens_within line tokens h = let r = from_place (length line) true 0 line tokens h (omega arith) in record { each = r.0; count = r.1 }
