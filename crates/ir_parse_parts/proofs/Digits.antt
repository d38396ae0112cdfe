-- A number with more digits is no less, so it is too great as soon as one on the way is.
use Rattle.std.proofs.Common.{ℕ, ◌≡◌, ◌+◌, ◌-◌, ◌*◌, ◌^◌, ◌≤◌, Bool, true, false, nat_lt, List, [], ◌∷◌, Some, None, fold, refl, sym, ap, ◌∙◌, arith}
use Rattle.std.specs.Prelude.{option_and_then, if◌then◌else◌}
use Rattle.std.proofs.lemmas.Bool.Decides.{nat_tests}
use Rattle.ir_grammar.specs.Numbers.{decimal}
use Rattle.ir_parse_parts.specs.Numbers.{below_2_64, digits_from}

abbrev from : ℕ → List ℕ → ℕ
from n digits = fold (λ n digit. 10 * n + (digit - 48)) n digits

from_least : (n : ℕ) (digits : List ℕ) → n ≤ from n digits
from_least n [] = omega arith
from_least n (d ∷ digits) = omega (arith, from_least (10 * n + (d - 48)) digits)

too_great : (m n : ℕ) → m ≤ n → nat_lt m (2 ^ 64) ≡ false → nat_lt n (2 ^ 64) ≡ false
too_great m n le e = grind (arith, nat_tests)

digits_below : (digits : List ℕ) (n : ℕ) → nat_lt n (2 ^ 64) ≡ true → digits_from n digits ≡ below_2_64 (from n digits)
unfolding digits_from
digits_below [] n e = ap (λ b. if b then Some n else None) (sym e)
digits_below (d ∷ digits) n e = by (nat_lt (10 * n + (d - 48)) (2 ^ 64)) refl (λ h. digits_below digits (10 * n + (d - 48)) h)
  where
    by : (b : Bool) → nat_lt (10 * n + (d - 48)) (2 ^ 64) ≡ b → (nat_lt (10 * n + (d - 48)) (2 ^ 64) ≡ true → digits_from (10 * n + (d - 48)) digits ≡ below_2_64 (from (10 * n + (d - 48)) digits)) → option_and_then (λ more. digits_from more digits) (below_2_64 (10 * n + (d - 48))) ≡ below_2_64 (from (10 * n + (d - 48)) digits)
    by true h later = ap (λ b. option_and_then (λ more. digits_from more digits) (if b then Some (10 * n + (d - 48)) else None)) h ∙ later h
    by false h later =
        ap (λ b. option_and_then (λ more. digits_from more digits) (if b then Some (10 * n + (d - 48)) else None)) h
        ∙ sym (ap (λ b. if b then Some (from (10 * n + (d - 48)) digits) else None) (too_great (10 * n + (d - 48)) (from (10 * n + (d - 48)) digits) (from_least (10 * n + (d - 48)) digits) h))

pub digits_of : (digits : List ℕ) → digits_from 0 digits ≡ below_2_64 (decimal digits)
unfolding decimal
digits_of digits = digits_below digits 0 refl
