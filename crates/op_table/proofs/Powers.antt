-- What masks and shifts by a width give, on powers of two.
use Rattle.std.proofs.Common.{◌≡◌, ℕ, suc, ◌+◌, ◌-◌, ◌*◌, ◌/◌, ◌%◌, ◌^◌, ◌<◌, ◌≤◌, refl, sym, ap, ◌∙◌, subst, arith, bit_and, lit<, inl, inr}
use Rattle.std.proofs.lemmas.Nat.{pow_pos, pow-add, shr_high, mod_low, and_mask, mod_below, one_shl, shr_split, div_below}
use Rattle.std.proofs.Math.Pow.{mod-mod-pow}
use Rattle.std.proofs.lemmas.Bool.{cases_lt}
use Rattle.std.proofs.lemmas.Int.{ints}
use Rattle.std.proofs.Math.Nat.{pow-le-pow_right, div-eq_of_lt}
use Rattle.std.specs.Prelude.{ℤ, pos, negsuc, ◌-ℤ◌, FitsSigned}
use Rattle.std.specs.Int.{cast_unsigned, w64}
use Rattle.op_table.specs.Operators.{IsWidth, reduced}

-- 2^i is at most 2^j
power_le : (i j : ℕ) → i ≤ j → 2 ^ i ≤ 2 ^ j
power_le i j h = pow-le-pow_right {n = 2} (lit< tt) {i = i} {j = j} h

-- 2^64 in blocks of 2^k
blocks : (k : ℕ) → k ≤ 64 → 2 ^ (64 - k) * 2 ^ k ≡ 2 ^ 64
blocks k h = let e : 64 - k + k ≡ 64 = omega arith in sym (pow-add 2 (64 - k) k) ∙ ap (λ (n : ℕ). 2 ^ n) e

-- all ones, shifted down
ones_shifted : (hi k : ℕ) → suc hi * 2 ^ k ≡ 2 ^ 64 → (2 ^ 64 - 1) / 2 ^ k ≡ hi
ones_shifted hi k whole =
    let split : hi * 2 ^ k + (2 ^ k - 1) ≡ 2 ^ 64 - 1 = omega (arith, whole, pow_pos k) in
    let low : 2 ^ k - 1 < 2 ^ k = omega (arith, pow_pos k) in
    subst (λ (n : ℕ). n / 2 ^ k ≡ hi) split (shr_high hi k (2 ^ k - 1) low)

pub greatest_is : (w : ℕ) → IsWidth w → (2 ^ 64 - 1) / 2 ^ (64 - w) ≡ 2 ^ w - 1
greatest_is w h =
    let e : w + (64 - w) ≡ 64 = omega arith in
    let one_more : 2 ^ w ≡ suc (2 ^ w - 1) = omega (arith, pow_pos w) in
    let whole : 2 ^ w * 2 ^ (64 - w) ≡ 2 ^ 64 = sym (pow-add 2 w (64 - w)) ∙ ap (λ (n : ℕ). 2 ^ n) e in
    ones_shifted (2 ^ w - 1) (64 - w) (subst (λ (n : ℕ). n * 2 ^ (64 - w) ≡ 2 ^ 64) one_more whole)

-- 2^w is twice 2^(w-1), which is at most 2^63
pub record Halves (w : ℕ) : Type 0 where
  pub double : 2 ^ w ≡ 2 * 2 ^ (w - 1)
  pub most : 2 ^ (w - 1) ≤ 2 ^ 63
  pub some : 1 ≤ 2 ^ (w - 1)

pub halves : (w : ℕ) → IsWidth w → Halves w
halves w h = record {
  double = let e : w ≡ 1 + (w - 1) = omega arith in ap (λ (n : ℕ). 2 ^ n) e ∙ pow-add 2 1 (w - 1);
  most = power_le (w - 1) 63 (omega arith);
  some = pow_pos (w - 1);
}

-- a number whose bits from w on are 0 is below 2^w, and the other way round
pub below_from_shift : (n w : ℕ) → n / 2 ^ w ≡ 0 → n < 2 ^ w
below_from_shift n w e =
    let split : 0 * 2 ^ w + n % 2 ^ w ≡ n = subst (λ (q : ℕ). q * 2 ^ w + n % 2 ^ w ≡ n) e (shr_split n w) in
    omega (arith, split, mod_below n (2 ^ w) (pow_pos w))

pub shift_from_below : (n w : ℕ) → n < 2 ^ w → n / 2 ^ w ≡ 0
shift_from_below n w h = div-eq_of_lt h

pub below_wide : (n w : ℕ) → n < 2 ^ 64 → 64 ≤ w → n < 2 ^ w
below_wide n w h wide = omega (arith, power_le 64 w wide)

-- the mask of k bits keeps what is left modulo 2^k
pub masked : (n k : ℕ) → k < 64 → bit_and n ((1 * 2 ^ k) % 2 ^ 64 - 1) ≡ n % 2 ^ k
masked n k h = ap (λ (m : ℕ). bit_and n (m - 1)) (one_shl k 64 h) ∙ and_mask n k

-- the words of -1 - n and of n, modulo 2^k, are complements
complement_mod : (n k : ℕ) → k ≤ 64 → n < 2 ^ 64 → (2 ^ 64 - suc n) % 2 ^ k ≡ 2 ^ k - 1 - n % 2 ^ k
complement_mod n k hk hn =
    let q : ℕ = n / 2 ^ k in
    let r : ℕ = n % 2 ^ k in
    let m : ℕ = 2 ^ (64 - k) in
    let whole : m * 2 ^ k ≡ 2 ^ 64 = blocks k hk in
    let split : q * 2 ^ k + r ≡ n = shr_split n k in
    let below : r < 2 ^ k = mod_below n (2 ^ k) (pow_pos k) in
    let fits : q < m = div_below n (2 ^ k) m (pow_pos k) (omega (arith, whole)) in
    let more : m ≡ m - 1 - q + 1 + q = omega arith in
    let parts : (m - 1 - q + 1 + q) * 2 ^ k ≡ 2 ^ 64 = subst (λ (n : ℕ). n * 2 ^ k ≡ 2 ^ 64) more whole in
    let low : 2 ^ k - 1 - r < 2 ^ k = omega (arith, pow_pos k) in
    let same : (m - 1 - q) * 2 ^ k + (2 ^ k - 1 - r) ≡ 2 ^ 64 - suc n = spread (m - 1 - q) q (2 ^ k) r n parts split below in
    subst (λ (x : ℕ). x % 2 ^ k ≡ 2 ^ k - 1 - r) same (mod_low (m - 1 - q) k (2 ^ k - 1 - r) low)
  where
    spread : (d q p r n : ℕ) → (d + 1 + q) * p ≡ 2 ^ 64 → q * p + r ≡ n → r < p → d * p + (p - 1 - r) ≡ 2 ^ 64 - suc n
    spread d q p r n parts split below = omega (arith, parts, split)

-- the bits of a signed number, modulo 2^k
pub signed_mod : (z : ℤ) (k : ℕ) → FitsSigned w64 z → k ≤ 64 → cast_unsigned w64 z % 2 ^ k ≡ reduced k z
signed_mod (pos n) k fits h = refl
signed_mod (negsuc n) k fits h = complement_mod n k h (omega (arith, fits.sfits))

-- the mask of a word after that of 64 bits
pub mod_again : (n k : ℕ) → k ≤ 64 → n % 2 ^ 64 % 2 ^ k ≡ n % 2 ^ k
mod_again n k h =
    let e : 64 - k + k ≡ 64 = omega arith in
    subst (λ (m : ℕ). n % 2 ^ m % 2 ^ k ≡ n % 2 ^ k) e (mod-mod-pow n (64 - k) k)

-- what a subtraction that wraps at 64 bits leaves modulo 2^k
pub difference_mod : (a b k : ℕ) → a < 2 ^ 64 → b < 2 ^ 64 → k ≤ 64 → (a + (2 ^ 64 - b)) % 2 ^ 64 % 2 ^ k ≡ reduced k (pos a -ℤ pos b)
difference_mod a b k ha hb h =
    elim (cases_lt a b) as (λ v. (a + (2 ^ 64 - b)) % 2 ^ 64 % 2 ^ k ≡ reduced k (pos a -ℤ pos b)) [
      | inl below ↦
          let bits : (a + (2 ^ 64 - b)) % 2 ^ 64 ≡ 2 ^ 64 - suc (b - a - 1) = omega arith in
          let number : negsuc (b - a - 1) ≡ pos a -ℤ pos b = omega (arith, ints) in
          ap (λ (n : ℕ). n % 2 ^ k) bits ∙ complement_mod (b - a - 1) k h (omega arith) ∙ ap (λ (z : ℤ). reduced k z) number
      | inr above ↦
          let bits : (a + (2 ^ 64 - b)) % 2 ^ 64 ≡ a - b = omega arith in
          let number : pos (a - b) ≡ pos a -ℤ pos b = omega (arith, ints) in
          ap (λ (n : ℕ). n % 2 ^ k) bits ∙ ap (λ (z : ℤ). reduced k z) number
    ]
