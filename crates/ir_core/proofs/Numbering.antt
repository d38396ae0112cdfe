-- Facts on name tables for the callers of `sym`, `type_id`, `loc` and the look-ups.
use Rattle.std.proofs.Common.{◌≡◌, ℕ, ◌+◌, ◌<◌, ◌≤◌, ◌⊎◌, inl, inr, not, nat_lt, Bool, Option, None, rules, tests, true, false, if◌then◌else◌, List, [], ◌∷◌, ◌++◌, length, get_or, slice_get, Some, ap, sym, subst, ◌∙◌, arith}
use Rattle.std.proofs.lemmas.Bool.{cases_lt}
use Rattle.std.proofs.lemmas.Cmp.{nat_list_eq_equiv}
use Rattle.std.proofs.lemmas.List.{get_or_at, get_or_append_left, length-append}
use Rattle.std.proofs.lemmas.List.Folds.{list_any_none, list_any_at}
use Rattle.std.proofs.lemmas.List.Quantifiers.{position-Some}
use Rattle.std.proofs.lemmas.List.Sums.{fails_before_first, passes_at_first, position_or_len_is, prefix_len-le-length}
use Rattle.std.proofs.lemmas.Map.Keys.{apart_from_distinct, IsDistinct-push}
use Rattle.std.proofs.lemmas.Option.{get_or_from_slice_get, slice_get-get_or, slice_get_within}
use Rattle.std.proofs.lemmas.Slice.Eq.{bytes_eq-Decides}
use Rattle.std.specs.List.{IsDistinct, list_any}
use Rattle.std.specs.Str.{bytes_eq}
use Rattle.ir_core.specs.Names.{number_of, number_given, numbered}

found : (n l : ℕ) → n < l → ◌≡◌ {A = Option ℕ} (if nat_lt n l then Some n else None) (Some n)
found n l h = search (rules, tests)

module _ (names : List (List ℕ)) (name : List ℕ) where
  passes : number_given names name < length names → bytes_eq name (get_or names (number_given names name) []) ≡ true
  passes h = passes_at_first (bytes_eq name) names [] h

  -- a name that the table has changes nothing
  pub numbered-known : number_given names name < length names → numbered names name ≡ names
  numbered-known h = ap (λ b. if b then names else names ++ name ∷ []) (list_any_at (bytes_eq name) names (number_given names name) [] h (passes h))

  lacks : length names ≤ number_given names name → list_any (bytes_eq name) names ≡ false
  lacks h = list_any_none (bytes_eq name) names (λ k d l. fails_before_first (bytes_eq name) names k d (omega arith))

  numbered-new : length names ≤ number_given names name → numbered names name ≡ names ++ name ∷ []
  numbered-new h = ap (λ b. if b then names else names ++ name ∷ []) (lacks h)

  -- a name is numbered at its first call, and keeps that number
  pub slice_get-numbered : slice_get (numbered names name) (number_given names name) ≡ Some name
  slice_get-numbered = by (cases_lt (number_given names name) (length names))
    where
      by : (number_given names name < length names) ⊎ (length names ≤ number_given names name) → slice_get (numbered names name) (number_given names name) ≡ Some name
      by (inl h) =
          ap (λ l. slice_get l (number_given names name)) (numbered-known h) ∙ slice_get-get_or names (number_given names name) [] h
          ∙ ap Some (sym ((bytes_eq-Decides name (get_or names (number_given names name) [])).0 (passes h)))
      by (inr h) =
          let same : number_given names name ≡ length names = omega (arith, prefix_len-le-length (λ x. not (bytes_eq name x)) names) in
          ap (λ l. slice_get l (number_given names name)) (numbered-new h)
          ∙ slice_get-get_or (names ++ name ∷ []) (number_given names name) [] (omega (arith, length-append names (name ∷ []))) ∙ ap Some (get_or_at names name [] [] _ (sym same))

  pub length-numbered : (length names ≤ length (numbered names name)) × (length (numbered names name) ≤ length names + 1)
  length-numbered = by (list_any (bytes_eq name) names)
    where
      by : (b : Bool) → (length names ≤ length (if b then names else names ++ name ∷ [])) × (length (if b then names else names ++ name ∷ []) ≤ length names + 1)
      by true = (omega arith, omega arith)
      by false = (omega (arith, length-append names (name ∷ [])), omega (arith, length-append names (name ∷ [])))

  pub slice_get-numbered-other : (k : ℕ) (other : List ℕ) → slice_get names k ≡ Some other → slice_get (numbered names name) k ≡ Some other
  slice_get-numbered-other k other e = by (list_any (bytes_eq name) names)
    where
      by : (b : Bool) → slice_get (if b then names else names ++ name ∷ []) k ≡ Some other
      by true = e
      by false =
          let within = slice_get_within names k other e in
          slice_get-get_or (names ++ name ∷ []) k [] (omega (arith, length-append names (name ∷ []))) ∙ ap Some (get_or_append_left names (name ∷ []) [] k within ∙ get_or_from_slice_get names k other [] e)

  pub IsDistinct-numbered : IsDistinct bytes_eq names → IsDistinct bytes_eq (numbered names name)
  IsDistinct-numbered d = by (cases_lt (number_given names name) (length names))
    where
      by : (number_given names name < length names) ⊎ (length names ≤ number_given names name) → IsDistinct bytes_eq (numbered names name)
      by (inl h) = subst (IsDistinct bytes_eq) (sym (numbered-known h)) d
      by (inr h) = subst (IsDistinct bytes_eq) (sym (numbered-new h)) (IsDistinct-push nat_list_eq_equiv names name d (lacks h))

  -- a look-up finds the name at its place
  pub slice_get-number_of : (n : ℕ) → number_of names name ≡ Some n → slice_get names n ≡ Some name
  slice_get-number_of n e =
      let found = position-Some (bytes_eq name) names n [] e in
      slice_get-get_or names n [] found.0 ∙ ap Some (sym ((bytes_eq-Decides name (get_or names n [])).0 found.1))

  -- where names differ, a name at a place has the place's number
  pub number_of-at : IsDistinct bytes_eq names → (n : ℕ) → slice_get names n ≡ Some name → number_of names name ≡ Some n
  number_of-at d n e =
      let within = slice_get_within names n name e in
      let here = get_or_from_slice_get names n name [] e in
      let before : (k : ℕ) → k < n → bytes_eq name (get_or names k []) ≡ false =
      λ k h. nat_list_eq_equiv.symm name (get_or names k []) ∙ ap (bytes_eq (get_or names k [])) (sym here) ∙ apart_from_distinct bytes_eq names k n [] d h within in
      let first = position_or_len_is (bytes_eq name) names n [] (omega arith) before (λ h. ap (bytes_eq name) here ∙ nat_list_eq_equiv.refl name) in
      rw first (found n (length names) within)
