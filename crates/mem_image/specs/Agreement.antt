-- Where memories have the same bytes.
--
-- Choice: an address that lies in no area has no byte.
use Rattle.std.specs.Prelude.{ℕ, ◌+◌, ◌<◌, ◌≡◌, nat_le, Option, slice_get}
use Rattle.mem_image.specs.Bytes.{Memory, area_of, start_of, place_of, bytes_in}
use Rattle.mem_image.specs.Lines.{line_of}
use Rattle.mem_image.specs.Views.{only_if}

-- the byte at an address
abbrev pub byte_at : Memory → ℕ → Option ℕ
byte_at mem at = only_if (nat_le (start_of (area_of at)) at) (slice_get (bytes_in mem (area_of at)) (place_of at))

-- the n bytes from an address on are the same
abbrev pub AgreeOn : ℕ → ℕ → Memory → Memory → Type 0
AgreeOn a n mem other = (k : ℕ) → k < n → byte_at mem (a + k) ≡ byte_at other (a + k)

-- the bytes of all lines are the same, but for lines of which P holds
abbrev pub AgreeOutside : (ℕ → Type 0) → Memory → Memory → Type 0
AgreeOutside P mem other = (at : ℕ) → (P (line_of at) → ⊥) → byte_at mem at ≡ byte_at other at
