-- The last of a vector of frames is the first of the frames that wait.
use Rattle.std.proofs.Common.{ℕ, suc, ◌≡◌, ◌+◌, ◌-◌, ◌<◌, List, [], ◌∷◌, ◌++◌, length, get_or, take, drop, slice_set, reverse, ap, ◌∙◌, sym, refl, arith}
use Rattle.std.proofs.lemmas.List.{set_split, drop_all, take_all, take_more, reverse-append, nil_from_length}
use Rattle.process.specs.Frames.{Frames}
use Rattle.process.specs.code.Moves.{first_resumed}

reverse-set_last : {X : Type 0} (xs : List X) (y : X) → 0 < length xs
    → reverse (slice_set xs (length xs - 1) y) ≡ y ∷ reverse (take (length xs - 1) xs)
reverse-set_last xs y h =
    let n = length xs - 1 in
    let rest : drop (suc n) xs ≡ [] = drop_all (suc n) xs (omega arith) in
    ap reverse (set_split xs n y (omega arith)) ∙ ap (λ zs. reverse (take n xs ++ y ∷ zs)) rest ∙ reverse-append (take n xs) (y ∷ [])

reverse-last : {X : Type 0} (xs : List X) (d : X) → 0 < length xs → reverse xs ≡ get_or xs (length xs - 1) d ∷ reverse (take (length xs - 1) xs)
reverse-last xs d h =
    let n = length xs - 1 in
    let all : xs ≡ take (n + 1) xs = sym (take_all (n + 1) xs (omega arith)) in
    ap reverse (all ∙ take_more xs n d (omega arith)) ∙ reverse-append (take n xs) (get_or xs n d ∷ [])

reverse_resumed : {F D : Type 0} (frames : Frames F D) (xs : List F) (word : ℕ) (caller : F) → 0 < length xs → caller ≡ get_or xs (length xs - 1) caller
    → reverse (slice_set xs (length xs - 1) (frames.resume word caller)) ≡ first_resumed frames word (reverse xs)
reverse_resumed {F = F} frames xs word caller h e =
    reverse-set_last xs (frames.resume word caller) h
    ∙ ap (λ (f : F). frames.resume word f ∷ reverse (take (length xs - 1) xs)) e
    ∙ sym (ap (first_resumed frames word) (reverse-last xs caller h))

-- a word comes for the last of them, as the code has it
pub last_resumed : {F D : Type 0} (frames : Frames F D) (xs : List F) (len word : ℕ) (caller new : F) → len ≡ length xs → 0 < len
    → caller ≡ get_or xs (len - 1) caller → new ≡ frames.resume word caller
    → reverse (slice_set xs (len - 1) new) ≡ first_resumed frames word (reverse xs)
last_resumed frames xs len word caller new l h e r =
    rw (r, l) (reverse_resumed frames xs word caller (rw l at h) (rw l at e))

-- there is none for which it comes
pub none_resumed : {F D : Type 0} (frames : Frames F D) (xs : List F) (len word : ℕ) → len ≡ length xs → (0 < len → ⊥)
    → reverse xs ≡ first_resumed frames word (reverse xs)
none_resumed frames xs len word l e = let none : xs ≡ [] = nil_from_length xs (omega arith) in rw none refl
