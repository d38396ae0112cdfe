-- Lists that are taken and dropped at a place.
use Rattle.std.proofs.Common.{ℕ, zero, suc, ◌≡◌, ◌∙◌, ◌≤◌, List, [], ◌∷◌, ◌++◌, take, drop, length, reverse, refl, ap, sym, arith}
use Rattle.std.proofs.lemmas.List.{reverse-append}

pub drop-more : {A : Type 0} (n : ℕ) (xs ys : List A) → n ≤ length xs → drop n (xs ++ ys) ≡ drop n xs ++ ys
drop-more zero [] ys e = refl
drop-more (suc n) [] ys e = absurd (omega (arith, e))
drop-more zero (x ∷ xs) ys e = refl
drop-more (suc n) (x ∷ xs) ys e = drop-more n xs ys (omega (arith, e))

pub take-more : {A : Type 0} (n : ℕ) (xs ys : List A) → n ≤ length xs → take n (xs ++ ys) ≡ take n xs
take-more zero [] ys e = refl
take-more (suc n) [] ys e = absurd (omega (arith, e))
take-more zero (x ∷ xs) ys e = refl
take-more (suc n) (x ∷ xs) ys e = ap (λ rest. x ∷ rest) (take-more n xs ys (omega (arith, e)))

pub take-drop : {A : Type 0} (n : ℕ) (xs : List A) → take n xs ++ drop n xs ≡ xs
take-drop zero [] = refl
take-drop (suc n) [] = refl
take-drop zero (x ∷ xs) = refl
take-drop (suc n) (x ∷ xs) = ap (λ rest. x ∷ rest) (take-drop n xs)

pub take-all : {A : Type 0} (n : ℕ) (xs : List A) → length xs ≤ n → take n xs ≡ xs
take-all zero [] e = refl
take-all (suc n) [] e = refl
take-all zero (x ∷ xs) e = absurd (omega (arith, e))
take-all (suc n) (x ∷ xs) e = ap (λ rest. x ∷ rest) (take-all n xs (omega (arith, e)))

pub drop-all : {A : Type 0} (n : ℕ) (xs : List A) → length xs ≤ n → drop n xs ≡ []
drop-all zero [] e = refl
drop-all (suc n) [] e = refl
drop-all zero (x ∷ xs) e = absurd (omega (arith, e))
drop-all (suc n) (x ∷ xs) e = drop-all n xs (omega (arith, e))

pub length-take : {A : Type 0} (n : ℕ) (xs : List A) → n ≤ length xs → length (take n xs) ≡ n
length-take zero [] e = refl
length-take (suc n) [] e = absurd (omega (arith, e))
length-take zero (x ∷ xs) e = refl
length-take (suc n) (x ∷ xs) e = ap suc (length-take n xs (omega (arith, e)))

-- both parts, the last first
pub reverse-parts : {A : Type 0} (n : ℕ) (xs : List A) → reverse (drop n xs) ++ reverse (take n xs) ≡ reverse xs
reverse-parts n xs = sym (reverse-append (take n xs) (drop n xs)) ∙ ap reverse (take-drop n xs)
