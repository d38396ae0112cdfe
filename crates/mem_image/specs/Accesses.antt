-- How many bytes an access has, and whether two accesses share a byte.
--
-- Choice: ranges of bytes are ranges of whole numbers; none goes round past the last address.
use Rattle.std.specs.Prelude.{ℕ, ◌+◌, Bool, ◌&&◌, nat_lt}
use Rattle.mem_image.specs.declared.sizes.Size.{Size}
use Rattle.mem_image.specs.declared.sizes.Size.TheVariants.{S1, S2, S4, S8}

abbrev pub bytes : Size → ℕ
bytes S1 = 1
bytes S2 = 2
bytes S4 = 4
bytes S8 = 8

-- the `an` bytes from `a` on and the `bn` bytes from `b` on have one in common
abbrev pub overlap : ℕ → ℕ → ℕ → ℕ → Bool
overlap a an b bn = nat_lt a (b + bn) && nat_lt b (a + an)
