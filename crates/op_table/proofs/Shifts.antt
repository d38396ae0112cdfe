-- When a shifted word is a word, and a shifted signed value is a signed value.
use Rattle.std.proofs.Common.{◌≡◌, ℕ, zero, suc, ◌+◌, ◌-◌, ◌*◌, ◌/◌, ◌^◌, ◌<◌, ◌≤◌, sym, ap, ◌∙◌, subst, arith, inl, inr, Bool, true, ltb, leb}
use Rattle.std.proofs.lemmas.Nat.{pow_pos, pow-add, shl-shr}
use Rattle.std.proofs.lemmas.Bool.{cases_lt, lt-ltb, le-ltb, lt-leb, le-leb}
use Rattle.std.proofs.Math.Nat.{le-div_iff_mul-le, div-lt_iff_lt-mul, mul-le-mul_right, mul-lt-mul_of_pos_right}
use Rattle.std.specs.Prelude.{ℤ, pos, negsuc, neg_ℤ, ◌*ℤ◌, ◌&&◌}
use Rattle.op_table.specs.Operators.{is_within}

-- a is at most the quotient of m - 1 where its product is below m
pub at_most_quotient : (a m p : ℕ) → 1 ≤ p → 1 ≤ m → leb a ((m - 1) / p) ≡ ltb (a * p) m
at_most_quotient a m p hp hm =
    elim (cases_lt (a * p) m) as (λ v. leb a ((m - 1) / p) ≡ ltb (a * p) m) [
      | inl below ↦ le-leb a ((m - 1) / p) ((le-div_iff_mul-le {k = p} {x = a} {y = m - 1} hp).1 (omega arith)) ∙ sym (lt-ltb (a * p) m below)
      | inr above ↦ lt-leb a ((m - 1) / p) ((div-lt_iff_lt-mul {k = p} {x = m - 1} {y = a} hp).1 (omega arith)) ∙ sym (le-ltb (a * p) m above)
    ]

-- half of the words, shifted down and up again
pub half_shifted : (w b : ℕ) → b < w → 2 ^ (w - 1) / 2 ^ b * 2 ^ b ≡ 2 ^ (w - 1)
half_shifted w b h =
    let e : w - 1 - b + b ≡ w - 1 = omega arith in
    let product : 2 ^ (w - 1 - b) * 2 ^ b ≡ 2 ^ (w - 1) = sym (pow-add 2 (w - 1 - b) b) ∙ ap (λ (n : ℕ). 2 ^ n) e in
    subst (λ (n : ℕ). n / 2 ^ b * 2 ^ b ≡ n) product (ap (λ (n : ℕ). n * 2 ^ b) (shl-shr (2 ^ (w - 1 - b)) b))

pub half_shifted_some : (w b : ℕ) → b < w → 1 ≤ 2 ^ (w - 1) / 2 ^ b
half_shifted_some w b h =
    let e : w - 1 - b + b ≡ w - 1 = omega arith in
    let product : 2 ^ (w - 1 - b) * 2 ^ b ≡ 2 ^ (w - 1) = sym (pow-add 2 (w - 1 - b) b) ∙ ap (λ (n : ℕ). 2 ^ n) e in
    subst (λ (n : ℕ). 1 ≤ n / 2 ^ b) product (subst (λ (n : ℕ). 1 ≤ n) (sym (shl-shr (2 ^ (w - 1 - b)) b)) (pow_pos (w - 1 - b)))

-- products by one factor keep the order, as tests
ltb_product : (n h d : ℕ) → 1 ≤ d → ltb n h ≡ ltb (n * d) (h * d)
ltb_product n h d hd =
    elim (cases_lt n h) as (λ v. ltb n h ≡ ltb (n * d) (h * d)) [
      | inl below ↦ lt-ltb n h below ∙ sym (lt-ltb (n * d) (h * d) (mul-lt-mul_of_pos_right {m = n} {n = h} {k = d} below hd))
      | inr above ↦ le-ltb n h above ∙ sym (le-ltb (n * d) (h * d) (mul-le-mul_right {m = h} {n = n} d above))
    ]

leb_product : (n h d m k : ℕ) → 1 ≤ d → suc m ≡ suc n * d → suc k ≡ suc h * d → leb n h ≡ leb m k
leb_product n h d m k hd em ek =
    elim (cases_lt h n) as (λ v. leb n h ≡ leb m k) [
      | inl below ↦
          let product : h * d < n * d = mul-lt-mul_of_pos_right {m = h} {n = n} {k = d} below hd in
          lt-leb n h below ∙ sym (lt-leb m k (omega (arith, em, ek)))
      | inr above ↦
          let product : n * d ≤ h * d = mul-le-mul_right {m = n} {n = h} d above in
          le-leb n h above ∙ sym (le-leb m k (omega (arith, em, ek)))
    ]

-- a signed value is within h exactly where its product by d is within the product
pub within_product : (h d H : ℕ) (z : ℤ) → 1 ≤ h → 1 ≤ d → h * d ≡ H → is_within H (z *ℤ pos d) ≡ is_within h z
within_product zero d H z hh hd e = absurd (omega arith)
within_product (suc h) zero H z hh hd e = absurd (omega arith)
within_product (suc h) (suc d) zero z hh hd e = absurd (omega (arith, e))
within_product (suc h) (suc d) (suc H) (pos n) hh hd e =
    ap (λ (m : ℕ). ltb (n * suc d) m) (sym e) ∙ sym (ltb_product n (suc h) (suc d) hd)
within_product (suc h) (suc d) (suc H) (negsuc n) hh hd e =
    let k : ℕ = suc n * suc d - 1 in
    let whole : suc k ≡ suc n * suc d = omega arith in
    let number : negsuc n *ℤ pos (suc d) ≡ negsuc k = ap (λ (m : ℕ). neg_ℤ (pos m)) (sym whole) in
    ap (λ (z : ℤ). is_within (suc H) z) number ∙ ap (λ (b : Bool). b && true) (sym (leb_product n h (suc d) k H hd whole (sym e)))
