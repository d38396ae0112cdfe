-- How long the bytes of an area are.
use Rattle.std.proofs.Common.{◌≡◌, ℕ, ◌-◌, List, length, take, arith}
use Rattle.std.specs.Prelude.{replicate}
use Rattle.std.proofs.lemmas.List.{length-replicate, length-append, length-take}
use Rattle.mem_image.specs.Opening.{zeroes, exactly}

pub length_zeroes : (n : ℕ) → length (zeroes n) ≡ n
unfolding zeroes
length_zeroes n = length-replicate {A = ℕ} n 0

pub length_exactly : (n : ℕ) (bs : List ℕ) → length (exactly n bs) ≡ n
unfolding exactly
length_exactly n bs = let e = length-append (take n bs) (replicate (n - length bs) 0) in let f = length-replicate {A = ℕ} (n - length bs) 0 in let g = length-take n bs in omega (arith, e, f, g)
