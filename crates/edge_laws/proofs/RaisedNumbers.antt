-- Numbers of names where new names come among them: each keeps its name, no two become one, and a new name stands after its anchor.
use Rattle.std.proofs.Common.{ℕ, zero, suc, ◌≡◌, ◌≢◌, ◌∙◌, ◌+◌, ◌-◌, ◌<◌, ◌≤◌, Bool, true, false, List, [], ◌∷◌, ◌++◌, length, Some, slice_get, refl, ap, sym, subst, arith}
use Rattle.std.specs.Prelude.{nat_eq, nat_lt}
use Rattle.std.proofs.lemmas.Bool.Decides.{nat_tests}
use Rattle.hard_ir.specs.EdgeChecks.{bit, Marks, raised, names_after, with_names}

-- ---- places behind a front

pub behind : {A : Type 0} (xs ys : List A) (k : ℕ) → slice_get (xs ++ ys) (length xs + k) ≡ slice_get ys k
behind [] ys k = let same : 0 + k ≡ k = omega arith in ap (slice_get ys) same
behind (x ∷ xs) ys k = let next : suc (length xs) + k ≡ suc (length xs + k) = omega arith in ap (slice_get (x ∷ xs ++ ys)) next ∙ behind xs ys k

-- ---- numbers

pub raised-step : (marks : Marks) (at : ℕ) → raised marks (suc at) ≡ suc (raised marks at) + length (names_after at marks)
raised-step [] at = omega arith
raised-step (mark ∷ marks) at = by_tests (nat_lt mark.0 at) refl (nat_eq mark.0 at) refl (raised-step marks at)
  where
    by_tests : (a : Bool) → nat_lt mark.0 at ≡ a → (b : Bool) → nat_eq mark.0 at ≡ b → raised marks (suc at) ≡ suc (raised marks at) + length (names_after at marks)
        → raised (mark ∷ marks) (suc at) ≡ suc (raised (mark ∷ marks) at) + length (names_after at (mark ∷ marks))
    by_tests true e true f rest = absurd (grind (arith, nat_tests))
    by_tests true e false f rest = let g : nat_lt mark.0 (suc at) ≡ true = grind (arith, nat_tests) in rw (g, e, f) (omega (arith, rest))
    by_tests false e true f rest = let g : nat_lt mark.0 (suc at) ≡ true = grind (arith, nat_tests) in rw (g, e, f) (omega (arith, rest))
    by_tests false e false f rest = let g : nat_lt mark.0 (suc at) ≡ false = grind (arith, nat_tests) in rw (g, e, f) (omega (arith, rest))

pub raised-grows : (marks : Marks) (a b : ℕ) → a < b → raised marks a < raised marks b
raised-grows [] a b less = less
raised-grows (mark ∷ marks) a b less = by_tests (nat_lt mark.0 a) refl (nat_lt mark.0 b) refl (raised-grows marks a b less)
  where
    by_tests : (c : Bool) → nat_lt mark.0 a ≡ c → (d : Bool) → nat_lt mark.0 b ≡ d → raised marks a < raised marks b → bit c + raised marks a < bit d + raised marks b
    by_tests true e true f rest = omega arith
    by_tests true e false f rest = absurd (grind (arith, nat_tests))
    by_tests false e true f rest = omega arith
    by_tests false e false f rest = omega arith

pub raised-apart : (marks : Marks) (a b : ℕ) → raised marks a ≡ raised marks b → a ≡ b
raised-apart marks a b same = by_tests (nat_lt a b) refl (nat_lt b a) refl
  where
    by_tests : (c : Bool) → nat_lt a b ≡ c → (d : Bool) → nat_lt b a ≡ d → a ≡ b
    by_tests true e d f = let less : a < b = grind (arith, nat_tests) in let grown = raised-grows marks a b less in absurd (omega (arith, same, grown))
    by_tests false e true f = let less : b < a = grind (arith, nat_tests) in let grown = raised-grows marks b a less in absurd (omega (arith, same, grown))
    by_tests false e false f = grind (arith, nat_tests)

-- the number of a new name is no other name's
pub new-apart : (marks : Marks) (anchor k : ℕ) → 1 ≤ length (names_after anchor marks) → suc (raised marks anchor) ≢ raised marks k
new-apart marks anchor k some same = by_tests (nat_lt anchor k) refl (nat_lt k anchor) refl
  where
    step : raised marks (suc anchor) ≡ suc (raised marks anchor) + length (names_after anchor marks)
    step = raised-step marks anchor

    by_tests : (c : Bool) → nat_lt anchor k ≡ c → (d : Bool) → nat_lt k anchor ≡ d → ⊥
    by_tests true e d f = by_next (nat_eq (suc anchor) k) refl
      where
        less : anchor < k
        less = grind (arith, nat_tests)

        by_next : (b : Bool) → nat_eq (suc anchor) k ≡ b → ⊥
        by_next true g = let is : suc anchor ≡ k = grind (arith, nat_tests) in let here : raised marks (suc anchor) ≡ raised marks k = ap (raised marks) is in omega (arith, same, here, step, some)
        by_next false g = let past : suc anchor < k = grind (arith, nat_tests, less) in let grown = raised-grows marks (suc anchor) k past in omega (arith, same, grown, step, some)
    by_tests false e true f = let less : k < anchor = grind (arith, nat_tests) in let grown = raised-grows marks k anchor less in omega (arith, same, grown)
    by_tests false e false f = let is : anchor ≡ k = grind (arith, nat_tests) in let here : raised marks anchor ≡ raised marks k = ap (raised marks) is in omega (arith, same, here)

-- ---- tables

module _ (marks : Marks) where
  -- a place is so far behind a name and the new ones after it
  record Further (at k i : ℕ) : Type 0 where
    further : ℕ
    is : i ≡ suc (length (names_after at marks) + further)
    on : raised marks (suc at + k) ≡ raised marks (suc at) + further

  go-on : (at k i : ℕ) → raised marks (at + suc k) ≡ raised marks at + i → Further at k i
  go-on at k i e =
      let next : at + suc k ≡ suc at + k = omega arith in
      let here : raised marks (suc at + k) ≡ raised marks at + i = ap (raised marks) (sym next) ∙ e in
      let step = raised-step marks at in
      let most : raised marks (suc at) ≤ raised marks (suc at + k) = by_zero k in
      record { further = i - suc (length (names_after at marks)); is = omega (arith, here, step, most); on = omega (arith, here, step, most) }
    where
      by_zero : (k : ℕ) → raised marks (suc at) ≤ raised marks (suc at + k)
      by_zero zero = let same : raised marks (suc at) ≡ raised marks (suc at + 0) = let z : suc at ≡ suc at + 0 = omega arith in ap (raised marks) z in omega (arith, same)
      by_zero (suc k) = let less : suc at < suc at + suc k = omega arith in let grown = raised-grows marks (suc at) (suc at + suc k) less in omega (arith, grown)

  onwards : (at : ℕ) (first : List ℕ) (names : List (List ℕ)) (further i : ℕ) → i ≡ length (names_after at marks) + further
      → slice_get (with_names marks at (first ∷ names)) (suc i) ≡ slice_get (with_names marks (suc at) names) further
  onwards at first names further i e = ap (slice_get (names_after at marks ++ with_names marks (suc at) names)) e ∙ behind (names_after at marks) (with_names marks (suc at) names) further

  kept-from : (names : List (List ℕ)) (at k i : ℕ) (name : List ℕ) → slice_get names k ≡ Some name → raised marks (at + k) ≡ raised marks at + i → slice_get (with_names marks at names) i ≡ Some name
  kept-from [] at k i name there e = cc
  kept-from (first ∷ names) at zero i name there e =
      let same : raised marks (at + 0) ≡ raised marks at = let z : at + 0 ≡ at = omega arith in ap (raised marks) z in
      let none : i ≡ 0 = omega (arith, same, e) in
      subst (λ (j : ℕ). slice_get (with_names marks at (first ∷ names)) j ≡ Some name) (sym none) there
  kept-from (first ∷ names) at (suc k) i name there e =
      let next = go-on at k i e in
      ap (slice_get (with_names marks at (first ∷ names))) next.is ∙ onwards at first names next.further (length (names_after at marks) + next.further) refl
      ∙ kept-from names (suc at) k next.further name there next.on

  -- each name has its raised number
  pub kept : (names : List (List ℕ)) (k : ℕ) (name : List ℕ) → slice_get names k ≡ Some name → slice_get (with_names marks 0 names) (raised marks k) ≡ Some name
  kept names k name there =
      let none : raised marks 0 ≡ 0 = nothing-before marks in
      let start : 0 + k ≡ k = omega arith in
      kept-from names 0 k (raised marks k) name there (ap (raised marks) start ∙ (let zero-more : raised marks k ≡ raised marks 0 + raised marks k = omega (arith, none) in zero-more))
    where
      nothing-before : (marks : Marks) → raised marks 0 ≡ 0
      nothing-before [] = refl
      nothing-before (mark ∷ marks) = let no_less : nat_lt mark.0 0 ≡ false = grind (arith, nat_tests) in let rest = nothing-before marks in rw no_less (omega (arith, rest))
