-- An upset of a word: it is replaced by its exclusive or with a mask.
use Rattle.std.specs.Prelude.{ℕ, ◌%◌, ◌^◌, nat_eq, bit_xor, Bool, true, false, Option, Some, None}

abbrev pub some_unless : Bool → ℕ → Option ℕ
some_unless true n = None
some_unless false n = Some n

-- a word of a width with the mask's bits flipped, where the mask has some below the width
abbrev pub strike : ℕ → ℕ → ℕ → Option ℕ
strike word width mask = some_unless (nat_eq (mask % 2 ^ width) 0) (bit_xor word (mask % 2 ^ width))
