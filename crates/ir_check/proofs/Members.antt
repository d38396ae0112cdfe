-- What stands in lists that are made of others.
use Rattle.std.proofs.Common.{ℕ, zero, suc, ◌≡◌, ◌∙◌, ◌<◌, ◌≤◌, ◌⊎◌, inl, inr, Bool, true, false, ◌||◌, cond, not, List, [], ◌∷◌, ◌++◌, map, find, length, get_or, take, slice_get, slice_set, Option, Some, None, refl, ap, sym, subst, arith}
use Rattle.std.specs.List.{flat_map, filter_map, list_all, list_any, cons_option, position, prefix_len}
use Rattle.std.specs.Option.{option_map}
use Rattle.std.specs.Prelude.{nat_lt}
use Rattle.ir_core.proofs.Lengths.{both_true}
use Rattle.std.proofs.lemmas.Bool.Decides.{nat_tests}
use Rattle.std.proofs.lemmas.Option.{slice_get-map, slice_get_cases}
use Rattle.std.proofs.lemmas.List.Sums.{prefix_len_stops}

abbrev pub IsIn : {A : Type 0} → A → List A → Type 0
IsIn x xs = (k : ℕ) × (slice_get xs k ≡ Some x)

pub next-in : {A : Type 0} (x y : A) (xs : List A) → IsIn x xs → IsIn x (y ∷ xs)
next-in x y xs (k, at) = (suc k, at)

pub in-front : {A : Type 0} (x : A) (xs ys : List A) → IsIn x xs → IsIn x (xs ++ ys)
in-front x [] ys (k, at) = absurd cc
in-front x (z ∷ xs) ys (zero, at) = (zero, at)
in-front x (z ∷ xs) ys (suc k, at) = next-in x z (xs ++ ys) (in-front x xs ys (k, at))

pub in-back : {A : Type 0} (x : A) (xs ys : List A) → IsIn x ys → IsIn x (xs ++ ys)
in-back x [] ys h = h
in-back x (z ∷ xs) ys h = next-in x z (xs ++ ys) (in-back x xs ys h)

pub in-map : {A B : Type 0} (f : A → B) (x : A) (xs : List A) → IsIn x xs → IsIn (f x) (map f xs)
in-map f x xs (k, at) = (k, slice_get-map f xs k ∙ ap (option_map f) at)

pub in-flat : {A B : Type 0} (f : A → List B) (x : A) (y : B) (xs : List A) → IsIn x xs → IsIn y (f x) → IsIn y (flat_map f xs)
in-flat f x y [] (k, at) h = absurd cc
in-flat f x y (z ∷ xs) (zero, at) h = let e : z ≡ x = cc in in-front y (f z) (flat_map f xs) (rw e h)
in-flat f x y (z ∷ xs) (suc k, at) h = in-back y (f z) (flat_map f xs) (in-flat f x y xs (k, at) h)

-- what stands in one of several lists
pub of-append : {A : Type 0} (x : A) (xs ys : List A) → IsIn x (xs ++ ys) → IsIn x xs ⊎ IsIn x ys
of-append x [] ys h = inr h
of-append x (z ∷ xs) ys (zero, at) = inl (0, at)
of-append x (z ∷ xs) ys (suc k, at) =
    elim (of-append x xs ys (k, at)) as (λ _. IsIn x (z ∷ xs) ⊎ IsIn x ys) [ inl h ↦ inl (next-in x z xs h) | inr h ↦ inr h ]

pub of-flat : {A B : Type 0} (f : A → List B) (y : B) (xs : List A) → IsIn y (flat_map f xs) → (x : A) × IsIn x xs × IsIn y (f x)
of-flat f y [] (k, at) = absurd cc
of-flat {A} {B} f y (z ∷ xs) h = by_part (of-append y (f z) (flat_map f xs) h) (of-flat f y xs)
  where
    by_part : IsIn y (f z) ⊎ IsIn y (flat_map f xs) → (IsIn y (flat_map f xs) → (x : A) × IsIn x xs × IsIn y (f x))
        → (x : A) × IsIn x (z ∷ xs) × IsIn y (f x)
    by_part (inl here) rest = (z, (0, refl), here)
    by_part (inr there) rest = let found = rest there in (found.0, next-in found.0 z xs found.1, found.2)

pub of-take : {A : Type 0} (x : A) (n : ℕ) (xs : List A) → IsIn x (take n xs) → IsIn x xs
of-take x zero xs (k, at) = absurd cc
of-take x (suc n) [] (k, at) = absurd cc
of-take x (suc n) (z ∷ xs) (zero, at) = (0, at)
of-take x (suc n) (z ∷ xs) (suc k, at) = next-in x z xs (of-take x n xs (k, at))

-- what stands in a list once an item is set
pub of-set : {A : Type 0} (x y : A) (t : ℕ) (xs : List A) → IsIn y (slice_set xs t x) → (x ≡ y) ⊎ IsIn y xs
of-set x y t [] (k, at) = absurd cc
of-set x y zero (z ∷ xs) (zero, at) = inl cc
of-set x y zero (z ∷ xs) (suc k, at) = inr (suc k, at)
of-set x y (suc t) (z ∷ xs) (zero, at) = inr (0, at)
of-set x y (suc t) (z ∷ xs) (suc k, at) =
    elim (of-set x y t xs (k, at)) as (λ _. (x ≡ y) ⊎ IsIn y (z ∷ xs)) [ inl e ↦ inl e | inr h ↦ inr (next-in y z xs h) ]

in-cons_option : {B : Type 0} (y : B) (o : Option B) (ys : List B) → IsIn y ys → IsIn y (cons_option o ys)
in-cons_option y None ys h = h
in-cons_option y (Some x) ys h = next-in y x ys h

pub in-filter : {A B : Type 0} (h : A → Option B) (x : A) (y : B) (xs : List A) → IsIn x xs → h x ≡ Some y → IsIn y (filter_map h xs)
in-filter h x y [] (k, at) e = absurd cc
in-filter h x y (z ∷ xs) (zero, at) e = let same : z ≡ x = cc in rw (same, e) (zero, refl)
in-filter h x y (z ∷ xs) (suc k, at) e = in-cons_option y (h z) (filter_map h xs) (in-filter h x y xs (k, at) e)

-- ---- tests

pub or-later : (a b : Bool) → b ≡ true → (a || b) ≡ true
or-later true b e = refl
or-later false b e = e

pub any-in : {A : Type 0} (test : A → Bool) (x : A) (xs : List A) → IsIn x xs → test x ≡ true → list_any test xs ≡ true
any-in test x [] (k, at) e = absurd cc
any-in test x (z ∷ xs) (zero, at) e = let same : z ≡ x = cc in rw (same, e) refl
any-in test x (z ∷ xs) (suc k, at) e = or-later (test z) (list_any test xs) (any-in test x xs (k, at) e)

-- where nothing is found, nothing passes
pub none-found : {A : Type 0} (test : A → Bool) (x : A) (xs : List A) → find test xs ≡ None → IsIn x xs → test x ≡ false
none-found test x [] e (k, at) = absurd cc
none-found {A} test x (z ∷ xs) e (k, at) = by_test (test z) refl k at (λ f j there. none-found test x xs f (j, there))
  where
    by_test : (b : Bool) → test z ≡ b → (k : ℕ) → slice_get (z ∷ xs) k ≡ Some x
        → (find test xs ≡ None → (j : ℕ) → slice_get xs j ≡ Some x → test x ≡ false) → test x ≡ false
    by_test true f k at rest = absurd (let clash : Some z ≡ None = rw f at e in cc)
    by_test false f zero at rest = let same : z ≡ x = cc in rw (← same) f
    by_test false f (suc k) at rest = rest (rw f at e) k at

-- what is found is there, and passes
pub found-in : {A : Type 0} (test : A → Bool) (x : A) (xs : List A) → find test xs ≡ Some x → IsIn x xs × (test x ≡ true)
found-in test x [] e = absurd cc
found-in {A} test x (z ∷ xs) e = by_test (test z) refl (found-in test x xs)
  where
    by_test : (b : Bool) → test z ≡ b → (find test xs ≡ Some x → IsIn x xs × (test x ≡ true)) → IsIn x (z ∷ xs) × (test x ≡ true)
    by_test true f rest = let found : Some z ≡ Some x = rw f at e in let same : z ≡ x = cc in ((0, found), rw (← same) f)
    by_test false f rest = let there = rest (rw f at e) in (next-in x z xs there.0, there.1)

pub passed-not : (b : Bool) → not b ≡ false → b ≡ true
passed-not true e = refl
passed-not false e = cc

-- at a position stands what passes
pub position-place : {A : Type 0} (test : A → Bool) (xs : List A) (n : ℕ) → position test xs ≡ Some n
    → (n ≡ prefix_len (λ x. not (test x)) xs) × (n < length xs)
position-place test xs n e = by_test (nat_lt before (length xs)) refl
  where
    before : ℕ
    before = prefix_len (λ x. not (test x)) xs

    by_test : (b : Bool) → nat_lt before (length xs) ≡ b → (n ≡ before) × (n < length xs)
    by_test true f =
        let found : Some before ≡ Some n = rw f at e in
        let place : before ≡ n = cc in
        let inside : before < length xs = grind (arith, nat_tests) in
        (sym place, omega arith)
    by_test false f = absurd (let clash : None ≡ Some n = rw f at e in cc)

-- where something passes, there is a position
pub any-position : {A : Type 0} (test : A → Bool) (xs : List A) → list_any test xs ≡ true → (n : ℕ) × (position test xs ≡ Some n)
any-position {A} test xs e =
    let inside : prefix_len (λ x. not (test x)) xs < length xs = before xs e in
    let yes : nat_lt (prefix_len (λ x. not (test x)) xs) (length xs) ≡ true = grind (arith, nat_tests) in
    (prefix_len (λ x. not (test x)) xs, ap (λ (b : Bool). cond b (Some (prefix_len (λ x. not (test x)) xs)) None) yes)
  where
    first : (x : A) (xs : List A) (b : Bool) → test x ≡ b → (list_any test xs ≡ true → prefix_len (λ (y : A). not (test y)) xs < length xs)
        → list_any test (x ∷ xs) ≡ true → prefix_len (λ (y : A). not (test y)) (x ∷ xs) < length (x ∷ xs)
    first x xs true f rest any = rw f (omega arith)
    first x xs false f rest any = rw f (let inside = rest (rw f at any) in omega arith)

    before : (xs : List A) → list_any test xs ≡ true → prefix_len (λ (y : A). not (test y)) xs < length xs
    before [] any = cc
    before (x ∷ xs) any = first x xs (test x) refl (before xs) any

pub at-position : {A : Type 0} (test : A → Bool) (xs : List A) (n : ℕ) → position test xs ≡ Some n
    → (x : A) × (slice_get xs n ≡ Some x) × (test x ≡ true)
at-position {A} test xs n e = by_place (slice_get_cases xs n).1 (position-place test xs n e)
  where
    by_place : ((x : A) × (n < length xs) × (slice_get xs n ≡ Some x) × (get_or xs n x ≡ x)) ⊎ ((length xs ≤ n) × (slice_get xs n ≡ None))
        → (n ≡ prefix_len (λ (x : A). not (test x)) xs) × (n < length xs) → (x : A) × (slice_get xs n ≡ Some x) × (test x ≡ true)
    by_place (inl (x, inside, at, here)) (place, within) =
        let stops : not (test (get_or xs (prefix_len (λ (y : A). not (test y)) xs) x)) ≡ false = prefix_len_stops (λ (y : A). not (test y)) xs x (omega arith) in
        (x, at, passed-not (test x) (ap (λ (y : A). not (test y)) (sym here) ∙ ap (λ (k : ℕ). not (test (get_or xs k x))) place ∙ stops))
    by_place (inr (past, none)) (place, within) = absurd (omega arith)

-- what stands in a list of images
pub of-map : {A B : Type 0} (f : A → B) (y : B) (xs : List A) → IsIn y (map f xs) → (x : A) × IsIn x xs × (f x ≡ y)
of-map f y [] (k, at) = absurd cc
of-map f y (x ∷ xs) (zero, at) = (x, (0, refl), cc)
of-map f y (x ∷ xs) (suc k, at) = let found = of-map f y xs (k, at) in (found.0, next-in found.0 x xs found.1, found.2)

-- a test that each item passes
pub all-in : {A : Type 0} (test : A → Bool) (xs : List A) → ((x : A) → IsIn x xs → test x ≡ true) → list_all test xs ≡ true
all-in test [] rule = refl
all-in test (x ∷ xs) rule = rw (rule x (0, refl)) (all-in test xs (λ y h. rule y (next-in y x xs h)))

pub of-all : {A : Type 0} (test : A → Bool) (x : A) (xs : List A) → list_all test xs ≡ true → IsIn x xs → test x ≡ true
of-all test x [] e (k, at) = absurd cc
of-all test x (y ∷ ys) e (zero, at) = let same : y ≡ x = cc in subst (λ z. test z ≡ true) same (both_true (test y) (list_all test ys) e).0
of-all test x (y ∷ ys) e (suc k, at) = of-all test x ys (both_true (test y) (list_all test ys) e).1 (k, at)
