-- Elements that stand among others in place of as many.
use Rattle.std.proofs.Common.{◌≡◌, ℕ, ◌+◌, ◌-◌, ◌<◌, ◌≤◌, List, ◌++◌, length, take, drop, get_or, ap, ◌∙◌, arith, inl, inr}
use Rattle.std.specs.Prelude.{◌⊎◌}
use Rattle.std.proofs.Math.ListN.{get_or-append}
use Rattle.std.proofs.lemmas.List.{get_or-append-add, get_or-drop, get_or-take, length-append, length-drop, length-take-le}

module _ {A : Type 0} (xs : List A) (at n : ℕ) (new : List A) (count : length new ≡ n) where
  abbrev spliced : List A
  spliced = take at xs ++ new ++ drop (at + n) xs

  pub length-front : at ≤ length xs → length (take at xs ++ new) ≡ at + n
  length-front inside =
      let e = length-append (take at xs) new in
      let f : length (take at xs) ≡ at = length-take-le at xs inside in
      omega (arith, e, f, count)

  -- there are as many as before
  pub length-spliced : at + n ≤ length xs → length spliced ≡ length xs
  length-spliced inside =
      let e = length-append (take at xs ++ new) (drop (at + n) xs) in
      let f = length-front (omega arith) in
      let g = length-drop (at + n) xs in
      omega (arith, e, f, g)

  -- one beside the new ones is as before
  pub spliced-apart : (d : A) (j : ℕ) → at + n ≤ length xs → (j < at) ⊎ (at + n ≤ j) → get_or spliced j d ≡ get_or xs j d
  spliced-apart d j inside (inl less) =
      let e = length-front (omega arith) in
      let f : length (take at xs) ≡ at = length-take-le at xs (omega arith) in
      get_or-append (take at xs ++ new) (drop (at + n) xs) d j (omega (arith, e)) ∙ get_or-append (take at xs) new d j (omega (arith, f)) ∙ get_or-take at xs j d less
  spliced-apart d j inside (inr more) =
      let e = length-front (omega arith) in
      let here : j ≡ length (take at xs ++ new) + (j - (at + n)) = omega (arith, e) in
      let there : at + n + (j - (at + n)) ≡ j = omega arith in
      ap (λ (k : ℕ). get_or spliced k d) here ∙ get_or-append-add (take at xs ++ new) (drop (at + n) xs) (j - (at + n)) d ∙ get_or-drop (at + n) xs (j - (at + n)) d ∙ ap (λ (k : ℕ). get_or xs k d) there

  -- and one among them is new
  pub spliced-inside : (d : A) (j : ℕ) → at + n ≤ length xs → at ≤ j → j < at + n → get_or spliced j d ≡ get_or new (j - at) d
  spliced-inside d j inside from below =
      let e = length-front (omega arith) in
      let f : length (take at xs) ≡ at = length-take-le at xs (omega arith) in
      let here : j ≡ length (take at xs) + (j - at) = omega (arith, f) in
      get_or-append (take at xs ++ new) (drop (at + n) xs) d j (omega (arith, e)) ∙ ap (λ (k : ℕ). get_or (take at xs ++ new) k d) here ∙ get_or-append-add (take at xs) new (j - at) d
