-- The front of tokens before the first bracket too many, as a loop finds it.
use Rattle.std.proofs.Common.{ℕ, suc, ◌≡◌, ◌≤◌, List, [], ◌∷◌, ◌++◌, length, take, drop, Option, Some, None, refl, sym, ap, ◌∙◌, arith, length-append}
use Rattle.std.specs.Prelude.{option_and_then}
use Rattle.std.proofs.lemmas.List.{take-map, take_at}
use Rattle.ir_core.specs.declared.text.Token.{Token}
use Rattle.ir_grammar.specs.Parts.{Tok, first}
use Rattle.ir_grammar.specs.Tokens.{token_of, tokens_of}
use Rattle.ir_grammar.specs.Fitting.{bracket_of, open_behind, shallow_front}
use Rattle.ir_grammar.proofs.Fronts.{cut}
use Rattle.ir_grammar.proofs.Lines.{same_length}

-- how many brackets stand open behind the next token, if there is one and no more than may
abbrev pub behind_next : ℕ → List Tok → Option ℕ
behind_next n ts = option_and_then (λ t. open_behind (bracket_of t) n) (first ts)

abbrev front_by : Tok → List Tok → Option ℕ → List Tok
front_by t ts o = elim o as (λ _. List Tok) [ Some m ↦ t ∷ shallow_front m ts | None ↦ [] ]

-- a token that opens no bracket too many belongs to it
pub front_more : (ts : List Tok) (n m : ℕ) → behind_next n ts ≡ Some m → (length ts ≡ suc (length (drop 1 ts))) × (length (shallow_front n ts) ≡ suc (length (shallow_front m (drop 1 ts))))
unfolding shallow_front
front_more [] n m e = absurd cc
front_more (t ∷ ts) n m e = (refl, ap (λ o. length (front_by t ts o)) e)

-- another token ends it, and so does the end
pub front_over : (ts : List Tok) (n : ℕ) → behind_next n ts ≡ None → length (shallow_front n ts) ≡ 0
unfolding shallow_front
front_over [] n e = refl
front_over (t ∷ ts) n e = ap (λ o. length (front_by t ts o)) e

pub front_within : (line : List ℕ) (tokens : List Token) → length (shallow_front 0 (tokens_of line tokens)) ≤ length tokens
front_within line tokens =
    let c = cut 0 (tokens_of line tokens) in
    omega (arith, same_length line tokens, ap length c.whole, length-append (shallow_front 0 (tokens_of line tokens)) c.rest)

-- the front of the tokens' texts is made of a front of the tokens
pub front_taken : (line : List ℕ) (tokens : List Token) (k : ℕ) → k ≡ length (shallow_front 0 (tokens_of line tokens)) → tokens_of line (take k tokens) ≡ shallow_front 0 (tokens_of line tokens)
front_taken line tokens k e =
    let c = cut 0 (tokens_of line tokens) in
    sym (take-map (token_of line) k tokens) ∙ ap (take k) c.whole ∙ take_at (shallow_front 0 (tokens_of line tokens)) c.rest k (sym e)
