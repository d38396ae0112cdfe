-- A turn that was told and is struck out again leaves no trace.
use Rattle.std.proofs.Common.{ℕ, zero, suc, ◌≡◌, ◌∙◌, ◌-◌, Bool, true, false, List, [], ◌∷◌, ◌++◌, take, length, Option, Some, None, slice_get, slice_set, refl, ap, sym, arith}
use Rattle.std.specs.Option.{option_map_or}
use Rattle.tx_machine.specs.Own.{OwnParts, once_pending, once_unpending}
use Rattle.tx_machine.specs.Core.{CoreParts, is_open, own_with, told_as, core_told, untold_as, core_untold}

back-again : (ws : List OwnParts) (t : ℕ) → own_with t once_unpending (own_with t once_pending ws) ≡ ws
back-again [] zero = refl
back-again [] (suc t) = refl
back-again (w ∷ ws) zero = let one : suc w.pending - 1 ≡ w.pending = omega arith in ap (λ (n : ℕ). (record w { pending = n }) ∷ ws) one
back-again (w ∷ ws) (suc t) = by_place (slice_get ws t) refl (back-again ws t)
  where
    by_place : (o : Option OwnParts) → slice_get ws t ≡ o → own_with t once_unpending (own_with t once_pending ws) ≡ ws
        → own_with (suc t) once_unpending (option_map_or (λ v. slice_set (w ∷ ws) (suc t) (once_pending v)) o (w ∷ ws)) ≡ w ∷ ws
    by_place None e again = ap (λ (o : Option OwnParts). option_map_or (λ v. slice_set (w ∷ ws) (suc t) (once_unpending v)) o (w ∷ ws)) e
    by_place (Some v) e again =
        let is : own_with t once_unpending (slice_set ws t (once_pending v)) ≡ ws =
        ap (λ (o : Option OwnParts). own_with t once_unpending (option_map_or (λ z. slice_set ws t (once_pending z)) o ws)) (sym e) ∙ again in
        by_set (slice_get (slice_set ws t (once_pending v)) t) refl is
      where
        by_set : (o : Option OwnParts) → slice_get (slice_set ws t (once_pending v)) t ≡ o → own_with t once_unpending (slice_set ws t (once_pending v)) ≡ ws
            → option_map_or (λ z. slice_set (w ∷ slice_set ws t (once_pending v)) (suc t) (once_unpending z)) (slice_get (slice_set ws t (once_pending v)) t)
            (w ∷ slice_set ws t (once_pending v)) ≡ w ∷ ws
        by_set None f is = ap (λ (o : Option OwnParts). option_map_or (λ z. slice_set (w ∷ slice_set ws t (once_pending v)) (suc t) (once_unpending z)) o (w ∷ slice_set ws t (once_pending v))) f
            ∙ ap (λ rest. w ∷ rest) (ap (λ (o : Option OwnParts). option_map_or (λ z. slice_set (slice_set ws t (once_pending v)) t (once_unpending z)) o (slice_set ws t (once_pending v))) (sym f) ∙ is)
        by_set (Some z) f is = ap (λ (o : Option OwnParts). option_map_or (λ z. slice_set (w ∷ slice_set ws t (once_pending v)) (suc t) (once_unpending z)) o (w ∷ slice_set ws t (once_pending v))) f
            ∙ ap (λ rest. w ∷ rest) (ap (λ (o : Option OwnParts). option_map_or (λ z. slice_set (slice_set ws t (once_pending v)) t (once_unpending z)) o (slice_set ws t (once_pending v))) (sym f) ∙ is)

pub take-front : {A : Type 0} (xs : List A) (x : A) → take (length (xs ++ x ∷ []) - 1) (xs ++ x ∷ []) ≡ xs
take-front [] x = refl
take-front (y ∷ []) x = refl
take-front (y ∷ z ∷ xs) x =
    let less : suc (suc (length (xs ++ x ∷ []))) - 1 ≡ suc (suc (length (xs ++ x ∷ [])) - 1) = omega arith in
    ap (λ (n : ℕ). take n (y ∷ z ∷ (xs ++ x ∷ []))) less ∙ ap (λ rest. y ∷ rest) (take-front (z ∷ xs) x)

pub untold-told : (retires : Bool) (t : ℕ) (p : CoreParts) → core_untold retires t (core_told retires t p) ≡ p
untold-told false t p = refl
untold-told true t p = by_open (is_open p t) refl
  where
    by_open : (b : Bool) → is_open p t ≡ b → untold_as (is_open (told_as b t p) t) t (told_as b t p) ≡ p
    by_open true e = ap (λ (b : Bool). untold_as b t (told_as true t p)) e ∙ ap (λ (ws : List OwnParts). record p { own = ws }) (back-again p.own t)
    by_open false e = ap (λ (b : Bool). untold_as b t (told_as false t p)) e ∙ ap (λ (ts : List ℕ). record p { turns = ts }) (take-front p.turns t)
