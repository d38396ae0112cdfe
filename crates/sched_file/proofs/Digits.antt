-- A field is read as the number that its digits write.
use Rattle.std.proofs.Common.{◌≡◌, ℕ, ◌+◌, ◌-◌, ◌*◌, ◌^◌, ◌<◌, ◌≤◌, Bool, true, false, cond, ◌&&◌, nat_lt, List, [], ◌∷◌, Option, Some, None, refl, sym, ap, subst, ◌∙◌, arith, fold}
use Rattle.std.specs.List.{list_all}
use Rattle.std.proofs.lemmas.Bool.{ltb-true, lt-ltb}
use Rattle.ir_core.specs.Tokens.{is_digit}
use Rattle.sched_file.specs.Entries.{IsNumber}
use Rattle.sched_file.specs.Reading.{◌>>=◌, with_digit, number_from, number_in, only_below, number_below}

-- ---- steps

-- the value of a step that gave one
pub bind_some : {A B : Type 0} (o : Option A) (f : A → Option B) (y : B) → (o >>= f) ≡ Some y → (x : A) × (o ≡ Some x) × (f x ≡ Some y)
bind_some None f y e = absurd cc
bind_some (Some x) f y e = (x, refl, e)

-- a test that let a value through
pub when_some : {A : Type 0} (t : Bool) (o : Option A) (y : A) → cond t o None ≡ Some y → (t ≡ true) × (o ≡ Some y)
when_some true o y e = (refl, e)
when_some false o y e = absurd cc

abbrev pub some : {A : Type 0} → A → Option A
some x = Some x

pub some_is : {A : Type 0} (x y : A) → some x ≡ some y → x ≡ y
some_is x y e = cc

pub both_true : (a b : Bool) → (a && b) ≡ true → (a ≡ true) × (b ≡ true)
both_true true b e = (refl, e)
both_true false b e = absurd cc

-- ---- digits

abbrev next : ℕ → ℕ → ℕ
next n digit = 10 * n + (digit - 48)

fold-ge : (n : ℕ) (bytes : List ℕ) → n ≤ fold next n bytes
fold-ge n [] = omega arith
fold-ge n (b ∷ bytes) = let h : 10 * n + (b - 48) ≤ fold next (10 * n + (b - 48)) bytes = fold-ge (10 * n + (b - 48)) bytes in omega arith

-- what digits write, and that they are digits
record Writes (n : ℕ) (bytes : List ℕ) (v : ℕ) : Type 0 where
  digits : list_all is_digit bytes ≡ true
  value : v ≡ fold next n bytes
  fits : v < 2 ^ 128

number_from_found : (n : ℕ) (bytes : List ℕ) (v : ℕ) → n < 2 ^ 128 → number_from n bytes ≡ Some v → Writes n bytes v
unfolding number_from with_digit
number_from_found n [] v lt e = let k = some_is n v e in record { digits = refl; value = sym k; fits = omega arith }
number_from_found n (b ∷ bytes) v lt e =
    let s = bind_some (with_digit n b) (λ m. number_from m bytes) v e in
    let t = when_some (is_digit b && nat_lt (next n b) (2 ^ 128)) (Some (next n b)) s.0 s.1 in
    let q = both_true (is_digit b) (nat_lt (next n b) (2 ^ 128)) t.0 in
    let k : next n b ≡ s.0 = some_is (next n b) s.0 t.1 in
    let small : next n b < 2 ^ 128 = ltb-true (next n b) (2 ^ 128) q.1 in
    let rest = number_from_found (next n b) bytes v small (ap (λ m. number_from m bytes) k ∙ s.2) in
    record { digits = rw q.0 rest.digits; value = rest.value; fits = rest.fits }

number_from_again : (n : ℕ) (bytes : List ℕ) → list_all is_digit bytes ≡ true → fold next n bytes < 2 ^ 128 → number_from n bytes ≡ Some (fold next n bytes)
unfolding number_from with_digit
number_from_again n [] all lt = refl
number_from_again n (b ∷ bytes) all lt =
    let q = both_true (is_digit b) (list_all is_digit bytes) all in
    let ge : next n b ≤ fold next (next n b) bytes = fold-ge (next n b) bytes in
    let small : nat_lt (next n b) (2 ^ 128) ≡ true = lt-ltb (next n b) (2 ^ 128) (omega arith) in
    rw (q.0, small) (number_from_again (next n b) bytes q.1 lt)

pub number_in_found : (field : List ℕ) (v : ℕ) → number_in field ≡ Some v → IsNumber (2 ^ 128) field v
unfolding number_in
number_in_found [] v e = absurd cc
number_in_found (b ∷ bytes) v e = let w = number_from_found 0 (b ∷ bytes) v (omega arith) e in record { digits = w.digits; value = w.value; below = w.fits }

pub number_in_again : (field : List ℕ) (v : ℕ) → IsNumber (2 ^ 128) field v → number_in field ≡ Some v
unfolding number_in
number_in_again [] v h = let k = h.digits in absurd cc
number_in_again (b ∷ bytes) v h =
    let e : v ≡ fold next 0 (b ∷ bytes) = h.value in
    number_from_again 0 (b ∷ bytes) h.digits (omega (arith, h.below)) ∙ ap (λ n. some n) (sym e)

pub number_below_found : (limit : ℕ) (field : List ℕ) (v : ℕ) → number_below limit field ≡ Some v → IsNumber limit field v
unfolding number_below
number_below_found limit field v e =
    let s = bind_some (number_in field) (only_below limit) v e in
    let w = number_in_found field s.0 s.1 in
    let t = when_some (nat_lt s.0 limit) (Some s.0) v s.2 in
    let k : s.0 ≡ v = some_is s.0 v t.1 in
    record { digits = w.digits; value = sym k ∙ w.value; below = subst (λ (n : ℕ). n < limit) k (ltb-true s.0 limit t.0) }

pub number_below_again : (limit : ℕ) (field : List ℕ) (v : ℕ) → limit ≤ 2 ^ 128 → IsNumber limit field v → number_below limit field ≡ Some v
unfolding number_below
number_below_again limit field v le h =
    let wide : IsNumber (2 ^ 128) field v = record { digits = h.digits; value = h.value; below = omega (arith, h.below) } in
    ap (λ o. o >>= only_below limit) (number_in_again field v wide) ∙ ap (λ t. cond t (some v) None) (lt-ltb v limit h.below)
