-- Lists of one length.
use Rattle.std.proofs.Common.{ℕ, ◌≡◌, ◌⊎◌, ◌<◌, ◌≤◌, List, length, get_or, Option, Some, None, slice_get, inl, inr, arith}
use Rattle.std.proofs.lemmas.Option.{slice_get_cases, slice_get_within}

-- lists of one length have items at the same places
pub same-place : {A B : Type 0} (xs : List A) (ys : List B) (n : ℕ) (x : A) → length ys ≡ length xs → slice_get xs n ≡ Some x → (y : B) × (slice_get ys n ≡ Some y)
same-place {A} {B} xs ys n x count at = by_place (slice_get_cases ys n).1
  where
    within : n < length xs
    within = slice_get_within xs n x at

    by_place : ((y : B) × (n < length ys) × (slice_get ys n ≡ Some y) × (get_or ys n y ≡ y)) ⊎ ((length ys ≤ n) × (slice_get ys n ≡ None)) → (y : B) × (slice_get ys n ≡ Some y)
    by_place (inl (y, inside, there, here)) = (y, there)
    by_place (inr (past, none)) = absurd (omega (arith, within, past, count))
