-- The first item of a list that lacks something.
use Rattle.std.proofs.Common.{◌≡◌, ℕ, ◌+◌, ◌<◌, ◌≤◌, List, length, sym, ap, subst, ◌∙◌, arith, inl, inr}
use Rattle.std.specs.Prelude.{Some, slice_get, ◌⊎◌}
use Rattle.std.proofs.lemmas.Bool.{cases_lt}
use Rattle.std.proofs.lemmas.Option.{slice_get_within}

-- what holds of all before a place and of the item there holds of all before the next
pub before-more : {A : Type 0} (P : A → Type 0) (xs : List A) (i : ℕ) (x : A) → slice_get xs i ≡ Some x → P x → ((k : ℕ) (y : A) → k < i → slice_get xs k ≡ Some y → P y) → (k : ℕ) (y : A) → k < i + 1 → slice_get xs k ≡ Some y → P y
before-more {A} P xs i x at h before k y less there = by_place (cases_lt k i)
  where
    by_place : (k < i) ⊎ (i ≤ k) → P y
    by_place (inl smaller) = before k y smaller there
    by_place (inr same) = let e : i ≡ k = omega arith in let f : Some x ≡ Some y = sym at ∙ ap (slice_get xs) e ∙ there in let g : x ≡ y = cc in subst P g h

-- what holds of all before the end holds of all
pub before-all : {A : Type 0} (P : A → Type 0) (xs : List A) (i : ℕ) → length xs ≤ i → ((k : ℕ) (y : A) → k < i → slice_get xs k ≡ Some y → P y) → (k : ℕ) (y : A) → slice_get xs k ≡ Some y → P y
before-all P xs i past before k y there = let inside : k < length xs = slice_get_within xs k y there in before k y (omega arith) there
