-- The tokens before the first bracket too many are the longest front in which no bracket is too many.
use Rattle.std.proofs.Common.{ℕ, ◌≡◌, Bool, true, false, List, [], ◌∷◌, ◌++◌, length, Option, Some, None, refl, sym, ap, ◌∙◌, subst, append_assoc}
use Rattle.std.specs.Prelude.{is_some, option_and_then}
use Rattle.std.proofs.lemmas.Bool.{false≢true}
use Rattle.ir_grammar.specs.Parts.{Tok}
use Rattle.ir_grammar.specs.Fitting.{bracket_of, open_behind, open_after, IsShallow, shallow_front}
use Rattle.ir_grammar.proofs.Reading.{append_nil}

-- behind the front stands nothing, or a bracket too many
pub record Cuts (n : ℕ) (ts front : List Tok) : Type 0 where
  pub rest : List Tok
  pub whole : ts ≡ front ++ rest
  pub shallow : is_some (open_after n front) ≡ true
  pub over : (t : Tok) (more : List Tok) → rest ≡ t ∷ more → is_some (open_after n (front ++ t ∷ [])) ≡ true → ⊥

pub cut : (n : ℕ) (ts : List Tok) → Cuts n ts (shallow_front n ts)
unfolding shallow_front open_after
cut n [] = record { rest = []; whole = refl; shallow = refl; over = λ t more e. absurd cc }
cut n (t ∷ ts) = by (open_behind (bracket_of t) n) refl (λ m. cut m ts)
  where
    front_by : Option ℕ → List Tok
    front_by o = elim o as (λ _. List Tok) [ Some m ↦ t ∷ shallow_front m ts | None ↦ [] ]

    by : (o : Option ℕ) → open_behind (bracket_of t) n ≡ o → ((m : ℕ) → Cuts m ts (shallow_front m ts)) → Cuts n (t ∷ ts) (front_by o)
    by None e again = record {
      rest = t ∷ ts;
      whole = refl;
      shallow = refl;
      over = λ u more h s. over u more h s;
    }
      where
        over : (u : Tok) (more : List Tok) → ◌≡◌ {A = List Tok} (t ∷ ts) (u ∷ more) → is_some (open_after n (u ∷ [])) ≡ true → ⊥
        over u more h s =
            let same : t ≡ u = cc in
            let none : open_behind (bracket_of u) n ≡ None = subst (λ x. open_behind (bracket_of x) n ≡ None) same e in
            false≢true (sym (ap (λ o. is_some (option_and_then (λ m. open_after m []) o)) none) ∙ s)
    by (Some m) e again =
        let c = again m in
        record {
          rest = c.rest;
          whole = ap (λ x. t ∷ x) c.whole;
          shallow = ap (λ o. is_some (option_and_then (λ k. open_after k (shallow_front m ts)) o)) e ∙ c.shallow;
          over = λ u more h s. c.over u more h (sym (ap (λ o. is_some (option_and_then (λ k. open_after k (shallow_front m ts ++ u ∷ [])) o)) e) ∙ s);
        }

-- no bracket is too many in a front of tokens in which none is
pub before : (n : ℕ) (front back : List Tok) → is_some (open_after n (front ++ back)) ≡ true → is_some (open_after n front) ≡ true
unfolding open_after
before n [] back e = refl
before n (t ∷ front) back e = by (open_behind (bracket_of t) n) e (λ m h. before m front back h)
  where
    by : (o : Option ℕ) → is_some (option_and_then (λ m. open_after m (front ++ back)) o) ≡ true → ((m : ℕ) → is_some (open_after m (front ++ back)) ≡ true → is_some (open_after m front) ≡ true) → is_some (option_and_then (λ m. open_after m front) o) ≡ true
    by None e again = absurd (false≢true e)
    by (Some m) e again = again m e

pub shallow_before : (front back ts : List Tok) → ts ≡ front ++ back → IsShallow ts → IsShallow front
shallow_before front back ts e s = before 0 front back (subst IsShallow e s)

-- where no bracket is too many, the front is all
pub all_shallow : (ts front : List Tok) → Cuts 0 ts front → IsShallow ts → front ≡ ts
all_shallow ts front c s = by c.rest refl
  where
    by : (rest : List Tok) → c.rest ≡ rest → front ≡ ts
    by [] e = sym (append_nil front) ∙ ap (λ y. front ++ y) (sym e) ∙ sym c.whole
    by (t ∷ more) e = absurd (c.over t more e (shallow_before (front ++ t ∷ []) more ts (c.whole ∙ ap (λ y. front ++ y) e ∙ sym (append_assoc front (t ∷ []) more)) s))
