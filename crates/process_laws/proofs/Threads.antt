-- What stands in a list once an item of it is set, or one was added.
use Rattle.std.proofs.Common.{ℕ, zero, suc, ◌≡◌, ◌≢◌, ◌+◌, List, [], ◌∷◌, ◌++◌, length, Some, slice_get, slice_set, refl, ap, arith}

pub data SetAt {A : Type 0} (xs : List A) (t u : ℕ) (x : A) : Type 0 where
  Same : u ≡ t → slice_get (slice_set xs t x) u ≡ Some x → SetAt xs t u x
  Other : u ≢ t → slice_get (slice_set xs t x) u ≡ slice_get xs u → SetAt xs t u x

set-later : {A : Type 0} (y : A) (xs : List A) (t u : ℕ) (x : A) → SetAt xs t u x → SetAt (y ∷ xs) (suc t) (suc u) x
set-later y xs t u x (Same e f) = Same (ap suc e) f
set-later y xs t u x (Other n e) = Other (λ f. n (omega arith)) e

pub set-at : {A : Type 0} (xs : List A) (t u : ℕ) (x old : A) → slice_get xs t ≡ Some old → SetAt xs t u x
set-at [] zero u x old e = cc
set-at [] (suc t) u x old e = cc
set-at (y ∷ xs) zero zero x old e = Same refl refl
set-at (y ∷ xs) zero (suc u) x old e = Other (λ f. omega arith) refl
set-at (y ∷ xs) (suc t) zero x old e = Other (λ f. omega arith) refl
set-at (y ∷ xs) (suc t) (suc u) x old e = set-later y xs t u x (set-at xs t u x old e)

pub data MoreAt {A : Type 0} (xs : List A) (x : A) (u : ℕ) : Type 0 where
  Before : u ≢ length xs → slice_get (xs ++ x ∷ []) u ≡ slice_get xs u → MoreAt xs x u
  Last : u ≡ length xs → slice_get (xs ++ x ∷ []) u ≡ Some x → MoreAt xs x u

more-later : {A : Type 0} (y : A) (xs : List A) (x : A) (u : ℕ) → MoreAt xs x u → MoreAt (y ∷ xs) x (suc u)
more-later y xs x u (Before n e) = Before (λ f. n (omega arith)) e
more-later y xs x u (Last f e) = Last (ap suc f) e

pub more-at : {A : Type 0} (xs : List A) (x : A) (u : ℕ) → MoreAt xs x u
more-at [] x zero = Last refl refl
more-at [] x (suc zero) = Before (λ f. omega arith) refl
more-at [] x (suc (suc u)) = Before (λ f. omega arith) refl
more-at (y ∷ xs) x zero = Before (λ f. omega arith) refl
more-at (y ∷ xs) x (suc u) = more-later y xs x u (more-at xs x u)
