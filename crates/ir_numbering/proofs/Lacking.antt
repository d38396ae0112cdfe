-- What a look-up that finds nothing says: the name's number would be the next one.
use Rattle.std.proofs.Common.{◌≡◌, ℕ, ◌<◌, ◌≤◌, ◌⊎◌, inl, inr, not, nat_lt, Option, None, Some, rules, tests, if◌then◌else◌, List, length, arith}
use Rattle.std.proofs.lemmas.Bool.{cases_lt}
use Rattle.std.proofs.lemmas.List.Sums.{prefix_len-le-length}
use Rattle.std.specs.Str.{bytes_eq}
use Rattle.ir_core.specs.Names.{number_of, number_given}

found : (n l : ℕ) → n < l → ◌≡◌ {A = Option ℕ} (if nat_lt n l then Some n else None) (Some n)
found n l h = search (rules, tests)

pub next_number : (names : List (List ℕ)) (name : List ℕ) → None ≡ number_of names name → length names ≡ number_given names name
next_number names name lacks = by (cases_lt (number_given names name) (length names))
  where
    by : (number_given names name < length names) ⊎ (length names ≤ number_given names name) → length names ≡ number_given names name
    by (inl h) = let e = found (number_given names name) (length names) h in absurd cc
    by (inr h) = omega (arith, prefix_len-le-length (λ x. not (bytes_eq name x)) names)
