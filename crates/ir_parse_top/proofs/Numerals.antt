-- Numerals one after another.
use Rattle.std.proofs.Common.{◌≡◌, ℕ, suc, ◌+◌, ◌-◌, ◌≤◌, ◌<◌, List, [], ◌∷◌, ◌++◌, replicate, ap, sym, ◌∙◌, arith}
use Rattle.std.proofs.lemmas.List.{append-nil, append_assoc}
use Rattle.ir_parse_top.specs.Sheet.{numeral, numerals}

more : (n count : ℕ) → n < count → numerals n (count - n) ≡ numeral n ++ numerals (n + 1) (count - (n + 1))
unfolding numerals
more n count h = let e : count - n ≡ suc (count - (n + 1)) = omega (arith, h) in ap (numerals n) e

-- the bytes once one more numeral has been added
pub numerals_more : (before after whole : List ℕ) (n count : ℕ) → n < count → after ≡ before ++ numeral n → before ++ numerals n (count - n) ≡ whole → after ++ numerals (n + 1) (count - (n + 1)) ≡ whole
numerals_more before after whole n count h added is =
    ap (λ (b : List ℕ). b ++ numerals (n + 1) (count - (n + 1))) added ∙ append_assoc before (numeral n) (numerals (n + 1) (count - (n + 1))) ∙ ap (λ (r : List ℕ). before ++ r) (sym (more n count h)) ∙ is

pub numerals_over : (bytes whole : List ℕ) (n count : ℕ) → count ≤ n → bytes ++ numerals n (count - n) ≡ whole → bytes ≡ whole
unfolding numerals
numerals_over bytes whole n count h is = let e : count - n ≡ 0 = omega (arith, h) in sym (append-nil bytes) ∙ ap (λ (m : ℕ). bytes ++ numerals n m) (sym e) ∙ is

pub blank_more : (before after whole : List ℕ) (n : ℕ) → n < 8 → after ≡ before ++ 32 ∷ [] → before ++ replicate {A = ℕ} (8 - n) 32 ≡ whole → after ++ replicate {A = ℕ} (8 - (n + 1)) 32 ≡ whole
blank_more before after whole n h added is =
    let e : 8 - n ≡ suc (8 - (n + 1)) = omega (arith, h) in
    ap (λ (b : List ℕ). b ++ replicate {A = ℕ} (8 - (n + 1)) 32) added ∙ append_assoc before (32 ∷ []) (replicate {A = ℕ} (8 - (n + 1)) 32) ∙ ap (λ (m : ℕ). before ++ replicate {A = ℕ} m 32) (sym e) ∙ is
