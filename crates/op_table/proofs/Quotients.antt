-- A signed division that the rows allow is one that 64 bits allow.
use Rattle.std.proofs.Common.{◌≡◌, ℕ, zero, suc, ◌-◌, ◌/◌, ◌^◌, ◌<◌, ◌≤◌, false, refl, sym, ◌∙◌, subst, arith, inl, inr}
use Rattle.std.proofs.lemmas.Int.{ints}
use Rattle.std.proofs.lemmas.Bool.{cases_lt, cond-true, cond-false, lt-ltb, le-ltb, or_parts, and_cases, eqb-false}
use Rattle.std.proofs.Math.Nat.{div-le_self, div-lt_iff_lt-mul}
use Rattle.std.specs.Prelude.{ℤ, pos, negsuc, neg_ℤ, ◌==◌, ◌&&◌, FitsSigned}
use Rattle.std.specs.Int.{w64, CanDivide}
use Rattle.ir_core.specs.declared.instruction.BinOp.TheVariants.{Sdiv}
use Rattle.op_table.specs.Operators.{IsWidth, sv, is_divide, least, minus_one}
use Rattle.op_table.proofs.Powers.{Halves, halves}

-- the signed value of a word of the lower half, and of the upper half
pub sv_low : (w a : ℕ) → a < 2 ^ (w - 1) → sv w a ≡ pos a
sv_low w a h = cond-true _ _ _ (lt-ltb a (2 ^ (w - 1)) h)

pub sv_high : (w a : ℕ) → 2 ^ (w - 1) ≤ a → a < 2 ^ w → sv w a ≡ negsuc (2 ^ w - 1 - a)
sv_high w a h below = cond-false _ _ _ (le-ltb a (2 ^ (w - 1)) h) ∙ (omega (arith, ints))

-- a quotient that is negated fits
negated_fits : (r : ℕ) → r ≤ 2 ^ 63 → FitsSigned w64 (neg_ℤ (pos r))
negated_fits zero h = record { sfits = omega arith }
negated_fits (suc r) h = record { sfits = omega arith }

-- the quotient of two negative numbers fits, but for the least number by -1
both_negative_fits : (m n : ℕ) → m < 2 ^ 63 → (n ≡ 0 → suc m ≡ 2 ^ 63 → ⊥) → suc m / suc n < 2 ^ 63
both_negative_fits m zero h apart =
    let other : suc m ≡ 2 ^ 63 → ⊥ = apart refl in
    (div-lt_iff_lt-mul {k = 1} {x = suc m} {y = 2 ^ 63} (omega arith)).1 (omega arith)
both_negative_fits m (suc n) h apart = (div-lt_iff_lt-mul {k = suc (suc n)} {x = suc m} {y = 2 ^ 63} (omega arith)).1 (omega arith)

-- the same for other names of the two numbers
pub renamed : (x y u v : ℤ) → x ≡ u → y ≡ v → CanDivide w64 u v → CanDivide w64 x y
renamed x y u v ex ey h =
    subst (λ (z : ℤ). CanDivide w64 z y) (sym ex) (subst (λ (z : ℤ). CanDivide w64 u z) (sym ey) h)

pub can_divide : (w a b : ℕ) → IsWidth w → a < 2 ^ w → b < 2 ^ w → is_divide Sdiv w a b ≡ false → CanDivide w64 (sv w a) (sv w b)
can_divide w a b width below_a below_b allowed =
    let facts : Halves w = halves w width in
    let parts = or_parts (b == 0) (a == least w && b == minus_one w) allowed in
    let some : b ≡ 0 → ⊥ = eqb-false b 0 parts.0 in
    let apart : b ≡ minus_one w → a ≡ least w → ⊥ =
    λ eb ea. elim (and_cases (a == least w) (b == minus_one w) parts.1) [
      | inl other ↦ eqb-false a (least w) other ea
      | inr other ↦ eqb-false b (minus_one w) other eb
    ] in
    elim (cases_lt a (2 ^ (w - 1))) [
      | inl low_a ↦ elim (cases_lt b (2 ^ (w - 1))) [
        | inl low_b ↦ renamed _ _ (pos a) (pos b) (sv_low w a low_a) (sv_low w b low_b)
            (omega arith, record { sfits = omega (arith, div-le_self a b) })
        | inr high_b ↦ renamed _ _ (pos a) (negsuc (2 ^ w - 1 - b)) (sv_low w a low_a) (sv_high w b high_b below_b)
            (omega arith, negated_fits (a / suc (2 ^ w - 1 - b)) (omega (arith, div-le_self a (suc (2 ^ w - 1 - b)))))
      ]
      | inr high_a ↦ elim (cases_lt b (2 ^ (w - 1))) [
        | inl low_b ↦ renamed _ _ (negsuc (2 ^ w - 1 - a)) (pos b) (sv_high w a high_a below_a) (sv_low w b low_b)
            (omega arith, negated_fits (suc (2 ^ w - 1 - a) / b) (omega (arith, div-le_self (suc (2 ^ w - 1 - a)) b)))
        | inr high_b ↦ renamed _ _ (negsuc (2 ^ w - 1 - a)) (negsuc (2 ^ w - 1 - b)) (sv_high w a high_a below_a) (sv_high w b high_b below_b)
            (omega arith, record { sfits = both_negative_fits (2 ^ w - 1 - a) (2 ^ w - 1 - b) (omega arith) (λ eb ea. apart (omega arith) (omega arith)) })
      ]
    ]
