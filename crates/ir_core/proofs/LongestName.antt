-- A name at a place of a text is the longest one that begins there.
use Rattle.std.proofs.Common.{◌≡◌, ℕ, ◌<◌, ◌≤◌, Bool, true, false, nat_lt, List, [], ◌∷◌, length, take, drop, refl, sym, ap, subst, ◌∙◌, arith}
use Rattle.std.proofs.lemmas.Bool.Decides.{nat_tests}
use Rattle.std.proofs.lemmas.List.{take_at}
use Rattle.ir_core.specs.Tokens.{is_name, IsFront}
use Rattle.ir_core.specs.TokenLengths.{name_len, name_from}
use Rattle.ir_core.specs.Lines.{IsLongestName}
use Rattle.ir_core.proofs.Lengths.{names}

pub below : (a b : ℕ) → nat_lt a b ≡ true → a < b
below a b e = grind (arith, nat_tests)

pub not_below : (n : ℕ) → nat_lt 0 n ≡ false → n ≡ 0
not_below n e = grind (arith, nat_tests)

-- the longest name at the front, where there is one
abbrev pub name_of : List ℕ → List ℕ
name_of rest = take (name_len rest) rest

pub name_bound : (rest other : List ℕ) → is_name other ≡ true → IsFront other rest → length other ≤ name_len rest
name_bound rest other e h = subst (λ (l : List ℕ). length other ≤ name_len l) (sym h.1) (names.most other h.0 e)

pub name_found : (rest : List ℕ) → 0 < name_len rest → IsLongestName (name_of rest) rest
name_found rest lt =
    let r = names.finds rest lt in
    let same : name_of rest ≡ r.front = ap (take (name_len rest)) r.whole ∙ take_at r.front r.rest (name_len rest) (sym r.size) in
    subst (λ (l : List ℕ). IsLongestName l rest) (sym same)
    (record { is = r.passes; front = (r.rest, r.whole); longest = λ other e h. let b : length other ≤ name_len rest = name_bound rest other e h in omega (arith, r.size) })

pub name_again : (rest name : List ℕ) → IsLongestName name rest → name_of rest ≡ name
name_again rest name h =
    let a : length name ≤ name_len rest = name_bound rest name h.is h.front in
    let r = names.finds rest (omega (arith, filled name h.is)) in
    let b : length r.front ≤ length name = h.longest r.front r.passes (r.rest, r.whole) in
    let size : length name ≡ name_len rest = omega (arith, r.size) in
    ap (take (name_len rest)) h.front.1 ∙ take_at name h.front.0 (name_len rest) size
  where
    filled : (name : List ℕ) → is_name name ≡ true → 0 < length name
    filled [] e = absurd cc
    filled (b ∷ name) e = omega arith

-- where no name begins, none is at the front
pub no_name : (rest name : List ℕ) → name_len rest ≡ 0 → is_name name ≡ true → IsFront name rest → ⊥
no_name rest [] e n h = absurd cc
no_name rest (b ∷ name) e n h = let le : length (b ∷ name) ≤ name_len rest = name_bound rest (b ∷ name) n h in omega arith

empty_name : (rest : List ℕ) → name_of rest ≡ [] → name_len rest ≡ 0
empty_name rest e = by (nat_lt 0 (name_len rest)) refl
  where
    filled : (name : List ℕ) → is_name name ≡ true → name ≡ [] → ⊥
    filled [] n e = absurd cc
    filled (b ∷ name) n e = cc

    by : (t : Bool) → nat_lt 0 (name_len rest) ≡ t → name_len rest ≡ 0
    by true h = absurd (filled (name_of rest) ((name_found rest (below _ _ h)).is) e)
    by false h = not_below _ h

-- the name at a place, and nothing exactly where none begins
pub name_from-none : (text name : List ℕ) (at : ℕ) → name_from text at ≡ [] → is_name name ≡ true → IsFront name (drop at text) → ⊥
name_from-none text name at e = no_name (drop at text) name (empty_name (drop at text) e)

pub name_from-some : (text : List ℕ) (at : ℕ) → (name_from text at ≡ [] → ⊥) → IsLongestName (name_from text at) (drop at text)
name_from-some text at some = by (nat_lt 0 (name_len (drop at text))) refl
  where
    by : (t : Bool) → nat_lt 0 (name_len (drop at text)) ≡ t → IsLongestName (name_from text at) (drop at text)
    by true h = name_found (drop at text) (below _ _ h)
    by false h = absurd (some (ap (λ (n : ℕ). take n (drop at text)) (not_below _ h)))
