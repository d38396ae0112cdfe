-- Numbers of upsets of which the first so many stand, as they are taken back and settled.
use Rattle.std.proofs.Common.{ℕ, zero, suc, ◌≡◌, ◌∙◌, ◌≤◌, ◌<◌, ◌+◌, List, [], ◌∷◌, ◌++◌, take, drop, length, reverse, refl, ap, sym}
use Rattle.std.proofs.lemmas.List.{reverse-append, take_more_set}
use Rattle.std.proofs.Math.ListN.{set}
use Rattle.tx_machine.specs.Own.{MarksParts}
use Rattle.tx_machine.proofs.Cuts.{drop-more, take-more, drop-all}

abbrev pub parts_of : ℕ → List ℕ → MarksParts
parts_of n xs = record { struck = reverse (drop n xs); hits = reverse (take n xs) }

pub taken-back : (n : ℕ) (xs : List ℕ) (x : ℕ) → n ≤ length xs
    → parts_of n xs ≡ record (parts_of n (xs ++ x ∷ [])) { struck = drop 1 (parts_of n (xs ++ x ∷ [])).struck }
taken-back n xs x e =
    let with_hits : List ℕ → MarksParts = λ list. record { struck = reverse (drop n xs); hits = reverse list } in
    let with_struck : List ℕ → MarksParts = λ list. record { struck = drop 1 list; hits = reverse (take n (xs ++ x ∷ [])) } in
    ap with_hits (sym (take-more n xs (x ∷ []) e)) ∙ sym (ap with_struck (ap reverse (drop-more n xs (x ∷ []) e) ∙ reverse-append (drop n xs) (x ∷ [])))

-- none is left to take back
pub none-back : (n : ℕ) (xs : List ℕ) → length xs ≤ n → parts_of n xs ≡ record (parts_of n xs) { struck = drop 1 (parts_of n xs).struck }
none-back n xs e =
    let with_struck : List ℕ → MarksParts = λ list. record { struck = list; hits = reverse (take n xs) } in
    let none : reverse (drop n xs) ≡ [] = ap reverse (drop-all n xs e) in
    ap with_struck none ∙ ap (λ (list : List ℕ). with_struck (drop 1 list)) (sym none)

take-same : (n : ℕ) (xs : List ℕ) → take n (take n xs) ≡ take n xs
take-same zero [] = refl
take-same (suc n) [] = refl
take-same zero (x ∷ xs) = refl
take-same (suc n) (x ∷ xs) = ap (λ rest. x ∷ rest) (take-same n xs)

drop-same : (n : ℕ) (xs : List ℕ) → drop n (take n xs) ≡ []
drop-same zero [] = refl
drop-same (suc n) [] = refl
drop-same zero (x ∷ xs) = refl
drop-same (suc n) (x ∷ xs) = drop-same n xs

pub settled : (n : ℕ) (xs : List ℕ) (k : ℕ) → n < length xs
    → parts_of (n + 1) (take (n + 1) (set xs n k)) ≡ record { struck = []; hits = k ∷ (parts_of n xs).hits }
settled n xs k e =
    let with_struck : List ℕ → MarksParts = λ list. record { struck = reverse list; hits = reverse (take (n + 1) (take (n + 1) (set xs n k))) } in
    let with_hits : List ℕ → MarksParts = λ list. record { struck = []; hits = list } in
    ap with_struck (drop-same (n + 1) (set xs n k))
    ∙ ap with_hits (ap reverse (take-same (n + 1) (set xs n k) ∙ take_more_set xs n k e) ∙ reverse-append (take n xs) (k ∷ []))
