-- A list from behind: what stands at a place, and what is put there.
use Rattle.std.proofs.Common.{ℕ, zero, suc, ◌+◌, ◌-◌, ◌<◌, ◌≡◌, ◌∙◌, List, [], ◌∷◌, ◌++◌, length, reverse, refl, ap, sym, arith}
use Rattle.std.proofs.Math.ListN.{set}
use Rattle.std.proofs.Math.Seq.{set-append_seam}
use Rattle.std.proofs.lemmas.List.{set-append_left, length-reverse}
use Rattle.std.proofs.lemmas.Grind.{reverse_onto}

module _ {A : Type 0} where
  set-reverse : (xs : List A) (n d : ℕ) (y : A) → n + suc d ≡ length xs → reverse (set xs n y) ≡ set (reverse xs) d y
  set-reverse [] n d y e = absurd (omega (arith, e))
  set-reverse (x ∷ xs) zero d y e =
      let at : length (reverse xs) ≡ d = length-reverse xs ∙ omega (arith, e) in
      reverse_onto xs y [] ∙ sym (set-append_seam (reverse xs) x [] y)
      ∙ ap (λ (k : ℕ). set (reverse xs ++ x ∷ []) k y) at
      ∙ ap (λ (l : List A). set l d y) (sym (reverse_onto xs x []))
  set-reverse (x ∷ xs) (suc n) d y e =
      reverse_onto (set xs n y) x []
      ∙ ap (λ (l : List A). l ++ x ∷ []) (set-reverse xs n d y (omega (arith, e)))
      ∙ sym (set-append_left (reverse xs) (x ∷ []) d y (omega (arith, e, length-reverse xs)))
      ∙ ap (λ (l : List A). set l d y) (sym (reverse_onto xs x []))

  pub set-behind : (xs : List A) (d : ℕ) (y : A) → d < length xs → reverse (set xs (length xs - 1 - d) y) ≡ set (reverse xs) d y
  set-behind xs d y h = set-reverse xs (length xs - 1 - d) d y (omega (arith, h))
