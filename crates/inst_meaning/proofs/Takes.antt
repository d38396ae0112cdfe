-- One more item of a list, mapped.
use Rattle.std.proofs.Common.{ℕ, zero, suc, ◌≡◌, ◌+◌, List, [], ◌∷◌, ◌++◌, Some, map, take, ap, slice_get, add-one}

map-take_suc : {X Y : Type 0} (f : X → Y) (xs : List X) (k : ℕ) (x : X) → slice_get xs k ≡ Some x → map f (take (suc k) xs) ≡ map f (take k xs) ++ f x ∷ []
map-take_suc f [] k x e = cc
map-take_suc f (y ∷ xs) zero x e = cc
map-take_suc f (y ∷ xs) (suc k) x e = ap (λ ys. f y ∷ ys) (map-take_suc f xs k x e)

pub map-take_more : {X Y : Type 0} (f : X → Y) (xs : List X) (k : ℕ) (x : X) → slice_get xs k ≡ Some x → map f (take (k + 1) xs) ≡ map f (take k xs) ++ f x ∷ []
map-take_more f xs k x e = rw add-one (map-take_suc f xs k x e)
