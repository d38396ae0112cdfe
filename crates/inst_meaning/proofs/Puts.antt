-- What registers hold once one is assigned, in a file that has room for it or that is first grown by registers without words.
use Rattle.std.proofs.Common.{ℕ, zero, suc, ◌≡◌, ◌+◌, ◌-◌, ◌<◌, ◌≤◌, List, [], ◌∷◌, ◌++◌, ◌≢◌, Option, Some, None, length, refl, ap, ◌∙◌, arith, slice_set, replicate, take, length-append}
use Rattle.std.proofs.lemmas.List.{take_all, length-replicate}
use Rattle.inst_meaning.specs.Registers.{get, put}

-- the register has the word
pub put-here : (registers : List (Option ℕ)) (at word : ℕ) → get (put registers at word) at ≡ Some word
put-here [] zero word = refl
put-here [] (suc at) word = put-here [] at word
put-here (old ∷ registers) zero word = refl
put-here (old ∷ registers) (suc at) word = put-here registers at word

-- and the others have what they had
pub put-elsewhere : (registers : List (Option ℕ)) (at word k : ℕ) → at ≢ k → get (put registers at word) k ≡ get registers k
put-elsewhere [] zero word zero h = absurd (h refl)
put-elsewhere [] zero word (suc k) h = refl
put-elsewhere [] (suc at) word zero h = refl
put-elsewhere [] (suc at) word (suc k) h = put-elsewhere [] at word k (λ e. h (ap suc e))
put-elsewhere (old ∷ registers) zero word zero h = absurd (h refl)
put-elsewhere (old ∷ registers) zero word (suc k) h = refl
put-elsewhere (old ∷ registers) (suc at) word zero h = refl
put-elsewhere (old ∷ registers) (suc at) word (suc k) h = put-elsewhere registers at word k (λ e. h (ap suc e))

pub put-within : (xs : List (Option ℕ)) (at word : ℕ) → at < length xs → slice_set xs at (Some word) ≡ put xs at word
put-within [] at word h = absurd (omega arith)
put-within (x ∷ xs) zero word h = refl
put-within (x ∷ xs) (suc at) word h = ap (λ ys. x ∷ ys) (put-within xs at word (omega arith))

put-none : (n at word : ℕ) → n ≤ suc at → put (replicate n None) at word ≡ put [] at word
put-none zero at word h = refl
put-none (suc zero) zero word h = refl
put-none (suc (suc n)) zero word h = absurd (omega arith)
put-none (suc n) (suc at) word h = ap (λ ys. None ∷ ys) (put-none n at word (omega arith))

pub put-grown : (xs : List (Option ℕ)) (n at word : ℕ) → length xs ≤ at → length xs + n ≤ suc at → put (xs ++ replicate n None) at word ≡ put xs at word
put-grown [] n at word h k = put-none n at word (omega arith)
put-grown (x ∷ xs) n zero word h k = absurd (omega arith)
put-grown (x ∷ xs) n (suc at) word h k = ap (λ ys. x ∷ ys) (put-grown xs n at word (omega arith) (omega arith))

-- the same, as the code grows it
pub put-resized : (xs ys : List (Option ℕ)) (len at word : ℕ) → len ≡ length xs → len ≤ at → ys ≡ take (at + 1) xs ++ replicate (at + 1 - len) None → slice_set ys at (Some word) ≡ put xs at word
put-resized xs ys len at word l h e =
    let all : ys ≡ xs ++ replicate (at + 1 - len) None = e ∙ ap (λ zs. zs ++ replicate (at + 1 - len) None) (take_all (at + 1) xs (omega arith)) in
    rw all (put-within _ at word (omega (arith, length-append xs (replicate (at + 1 - len) None), length-replicate {A = Option ℕ} (at + 1 - len) None)) ∙ put-grown xs _ at word (omega arith) (omega arith))
