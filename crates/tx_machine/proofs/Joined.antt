-- Laws of joined threads: one that is found, one that is changed, one more.
use Rattle.std.proofs.Common.{ℕ, zero, suc, ◌≡◌, ◌∙◌, List, [], ◌∷◌, ◌++◌, length, Option, Some, slice_get, slice_set, refl, ap, sym}
use Rattle.process.specs.declared.state.CallStack.{CallStack}
use Rattle.hard_frames.specs.declared.state.Frame.{Frame}
use Rattle.elide.specs.Watches.{WatchParts}
use Rattle.rtm_core.specs.Transactions.{Transaction}
use Rattle.hard_meaning.specs.State.{Worker}
use Rattle.tx_machine.specs.Own.{OwnParts}
use Rattle.tx_machine.specs.Joined.{joined_one, joined}

-- a thread that stands in all three lists
pub get-joined : (ws : List OwnParts) (xs : List (Option (Transaction (CallStack Frame)))) (ks : List WatchParts) (t : ℕ) (w : OwnParts)
    (x : Option (Transaction (CallStack Frame))) (k : WatchParts) → slice_get ws t ≡ Some w → slice_get xs t ≡ Some x → slice_get ks t ≡ Some k
    → slice_get (joined ws xs ks) t ≡ Some (joined_one w x k)
get-joined [] xs ks t w x k e f g = cc
get-joined (v ∷ ws) [] ks t w x k e f g = cc
get-joined (v ∷ ws) (y ∷ xs) [] t w x k e f g = cc
get-joined (v ∷ ws) (y ∷ xs) (j ∷ ks) zero w x k e f g =
    let a : v ≡ w = cc in
    let b : y ≡ x = cc in
    let c : j ≡ k = cc in
    ap (λ (z : OwnParts). Some (joined_one z y j)) a ∙ ap (λ (z : Option (Transaction (CallStack Frame))). Some (joined_one w z j)) b ∙ ap (λ (z : WatchParts). Some (joined_one w x z)) c
get-joined (v ∷ ws) (y ∷ xs) (j ∷ ks) (suc t) w x k e f g = get-joined ws xs ks t w x k e f g

-- a thread is changed in all three
pub set-joined : (ws : List OwnParts) (xs : List (Option (Transaction (CallStack Frame)))) (ks : List WatchParts) (t : ℕ) (w : OwnParts)
    (x : Option (Transaction (CallStack Frame))) (k : WatchParts)
    → joined (slice_set ws t w) (slice_set xs t x) (slice_set ks t k) ≡ slice_set (joined ws xs ks) t (joined_one w x k)
set-joined [] xs ks zero w x k = refl
set-joined [] xs ks (suc t) w x k = refl
set-joined (v ∷ ws) [] ks zero w x k = refl
set-joined (v ∷ ws) [] ks (suc t) w x k = refl
set-joined (v ∷ ws) (y ∷ xs) [] zero w x k = refl
set-joined (v ∷ ws) (y ∷ xs) [] (suc t) w x k = refl
set-joined (v ∷ ws) (y ∷ xs) (j ∷ ks) zero w x k = refl
set-joined (v ∷ ws) (y ∷ xs) (j ∷ ks) (suc t) w x k = ap (λ (rest : List Worker). joined_one v y j ∷ rest) (set-joined ws xs ks t w x k)

-- what stands at a place is put there again
pub set-same : {A : Type 0} (xs : List A) (t : ℕ) (x : A) → slice_get xs t ≡ Some x → slice_set xs t x ≡ xs
set-same [] zero x e = refl
set-same [] (suc t) x e = refl
set-same (y ∷ xs) zero x e = let same : y ≡ x = cc in ap (λ z. z ∷ xs) (sym same)
set-same (y ∷ xs) (suc t) x e = ap (λ rest. y ∷ rest) (set-same xs t x e)

-- a thread by itself is changed
pub own-joined : (ws : List OwnParts) (xs : List (Option (Transaction (CallStack Frame)))) (ks : List WatchParts) (t : ℕ) (w : OwnParts)
    (x : Option (Transaction (CallStack Frame))) (k : WatchParts) → slice_get xs t ≡ Some x → slice_get ks t ≡ Some k
    → joined (slice_set ws t w) xs ks ≡ slice_set (joined ws xs ks) t (joined_one w x k)
own-joined ws xs ks t w x k f g =
    ap (λ (list : List (Option (Transaction (CallStack Frame)))). joined (slice_set ws t w) list ks) (sym (set-same xs t x f))
    ∙ ap (λ (list : List WatchParts). joined (slice_set ws t w) (slice_set xs t x) list) (sym (set-same ks t k g)) ∙ set-joined ws xs ks t w x k

-- one thread more
pub more-joined : (ws : List OwnParts) (xs : List (Option (Transaction (CallStack Frame)))) (ks : List WatchParts) (w : OwnParts)
    (x : Option (Transaction (CallStack Frame))) (k : WatchParts) → slice_get xs (length ws) ≡ Some x → slice_get ks (length ws) ≡ Some k
    → joined (ws ++ w ∷ []) xs ks ≡ joined ws xs ks ++ joined_one w x k ∷ []
more-joined [] [] ks w x k e f = cc
more-joined [] (y ∷ xs) [] w x k e f = cc
more-joined [] (y ∷ xs) (j ∷ ks) w x k e f =
    let b : y ≡ x = cc in
    let c : j ≡ k = cc in
    ap (λ (z : Option (Transaction (CallStack Frame))). joined_one w z j ∷ []) b ∙ ap (λ (z : WatchParts). joined_one w x z ∷ []) c
more-joined (v ∷ ws) [] ks w x k e f = cc
more-joined (v ∷ ws) (y ∷ xs) [] w x k e f = cc
more-joined (v ∷ ws) (y ∷ xs) (j ∷ ks) w x k e f = ap (λ (rest : List Worker). joined_one v y j ∷ rest) (more-joined ws xs ks w x k e f)
