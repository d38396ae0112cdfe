-- A valid access lies in one line.
use Rattle.std.proofs.Common.{List, ◌≡◌, ℕ, ◌+◌, ◌%◌, ◌<◌, ◌≤◌, true, ap, subst, arith, inl, inr}
use Rattle.std.specs.Prelude.{◌⊎◌, ◌==◌}
use Rattle.std.proofs.lemmas.Bool.{eqb-true}
use Rattle.std.proofs.lemmas.Bool.Decides.{nat_tests}
use Rattle.ir_layout.specs.declared.spans.Span.{Span}
use Rattle.ir_layout.specs.Memory.{is_valid, is_access_size}
use Rattle.mem_image.specs.Lines.{line_of, line_size}

-- an access has 1, 2, 4 or 8 bytes
pub size-cases : (spans : List Span) (a n : ℕ) → is_valid spans a n ≡ true → (n ≡ 1) ⊎ (n ≡ 2) ⊎ (n ≡ 4) ⊎ (n ≡ 8)
size-cases spans a n valid =
    let size : is_access_size n ≡ true = grind (arith, nat_tests) in
    grind (arith, nat_tests, size)

aligned : (spans : List Span) (a n : ℕ) → is_valid spans a n ≡ true → (a % n == 0) ≡ true
aligned spans a n valid = grind (arith, nat_tests)

aligned-to : (a n m : ℕ) → n ≡ m → (a % n == 0) ≡ true → a % m ≡ 0
aligned-to a n m is aligned = eqb-true (a % m) 0 (subst (λ (k : ℕ). (a % k == 0) ≡ true) is aligned)

line-on : (a n k : ℕ) → (n ≡ 1) ⊎ (n ≡ 2) ⊎ (n ≡ 4) ⊎ (n ≡ 8) → (a % n == 0) ≡ true → k < n → line_of (a + k) ≡ line_of a
line-on a n k (inl is) multiple below = let same : a + k ≡ a = omega (arith, is, below) in ap line_of same
line-on a n k (inr (inl is)) multiple below = let rest = aligned-to a n 2 is multiple in omega (arith, is, below, rest)
line-on a n k (inr (inr (inl is))) multiple below = let rest = aligned-to a n 4 is multiple in omega (arith, is, below, rest)
line-on a n k (inr (inr (inr is))) multiple below = let rest = aligned-to a n 8 is multiple in omega (arith, is, below, rest)

-- its bytes lie in the line of its address
pub same-line : (spans : List Span) (a n k : ℕ) → is_valid spans a n ≡ true → k < n → line_of (a + k) ≡ line_of a
same-line spans a n k valid below = line-on a n k (size-cases spans a n valid) (aligned spans a n valid) below

rest-of : (a n : ℕ) → (n ≡ 1) ⊎ (n ≡ 2) ⊎ (n ≡ 4) ⊎ (n ≡ 8) → (a % n == 0) ≡ true → a % line_size + n ≤ line_size
rest-of a n (inl is) multiple = omega (arith, is)
rest-of a n (inr (inl is)) multiple = let rest = aligned-to a n 2 is multiple in omega (arith, is, rest)
rest-of a n (inr (inr (inl is))) multiple = let rest = aligned-to a n 4 is multiple in omega (arith, is, rest)
rest-of a n (inr (inr (inr is))) multiple = let rest = aligned-to a n 8 is multiple in omega (arith, is, rest)

-- from its place in its line on
pub within-line : (spans : List Span) (a n : ℕ) → is_valid spans a n ≡ true → a % line_size + n ≤ line_size
within-line spans a n valid = rest-of a n (size-cases spans a n valid) (aligned spans a n valid)
