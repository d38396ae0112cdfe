-- Sums, products and round numbers modulo 2^64.
use Rattle.std.proofs.Common.{◌≡◌, ℕ, zero, suc, ◌+◌, ◌*◌, ◌^◌, ◌≤◌, sym, ap, ◌∙◌, arith, ◌||◌, ◌&&◌}
use Rattle.std.specs.Prelude.{nat_lt}
use Rattle.std.proofs.lemmas.Bool.Decides.{nat_tests}
use Rattle.std.proofs.lemmas.Nat.{mul-mod_first}
use Rattle.ir_layout.specs.declared.shapes.Align.{Align}
use Rattle.ir_layout.specs.declared.shapes.Align.TheVariants.{One, Two, Four, Eight}
use Rattle.ir_layout.specs.Shapes.{bytes, round_up}
use Rattle.ir_layout.specs.KeptShapes.{word, size_limit}

pub word-round_up : (a : Align) (n : ℕ) → word (round_up (bytes a) n) ≡ word (round_up (bytes a) (word n))
word-round_up One n = omega arith
word-round_up Two n = omega arith
word-round_up Four n = omega arith
word-round_up Eight n = omega arith

pub word-add : (a b : ℕ) → word (a + b) ≡ word (word a + word b)
word-add a b = omega arith

-- a round number is at most seven past where it began
pub le-round_up : (a : Align) (n : ℕ) → n ≤ round_up (bytes a) n
le-round_up One n = omega arith
le-round_up Two n = omega arith
le-round_up Four n = omega arith
le-round_up Eight n = omega arith

pub round_up-le : (a : Align) (n : ℕ) → round_up (bytes a) n ≤ n + 7
round_up-le One n = omega arith
round_up-le Two n = omega arith
round_up-le Four n = omega arith
round_up-le Eight n = omega arith

-- a sum is past the limit where a part is, or else where its word is
pub large-sum : (size start field : ℕ) → size ≤ start → start ≤ size + 7 → nat_lt size_limit (start + field) ≡ (nat_lt size_limit size || nat_lt size_limit field || nat_lt size_limit (word (start + field)))
large-sum size start field low high = grind (arith, nat_tests)

pub large-round : (size start : ℕ) → size ≤ start → start ≤ size + 7 → nat_lt size_limit start ≡ (nat_lt size_limit size || nat_lt size_limit (word start))
large-round size start low high = grind (arith, nat_tests)

pub word-mul : (n m : ℕ) → word (n * m) ≡ word (n * word m)
word-mul n m = let first = mul-mod_first m n (2 ^ 64) in let e : n * m ≡ m * n = omega arith in let f : n * word m ≡ word m * n = omega arith in ap (λ (x : ℕ). word x) e ∙ sym first ∙ sym (ap (λ (x : ℕ). word x) f)

pub large-product : (count size : ℕ) → nat_lt size_limit (count * size) ≡ (nat_lt 0 count && (nat_lt size_limit size || nat_lt size_limit (count * word size)))
large-product zero size = grind (arith, nat_tests)
large-product (suc n) size = grind (arith, nat_tests)

pub word-product : (a b : ℕ) → word (word a * word b) ≡ word (a * b)
word-product a b = sym (word-mul (word a) b) ∙ mul-mod_first a b (2 ^ 64)
