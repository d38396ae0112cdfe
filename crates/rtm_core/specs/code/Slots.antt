-- How a thread's transaction is kept: a set of read lines, a set of written lines, and for each place in that set a buffer.
use Rattle.std.specs.Prelude.{ℕ, ◌≡◌, ◌≤◌, List, [], ◌∷◌, length, Option, Some, None}
use Rattle.std.specs.Prelude.{slice_get}
use Rattle.std.specs.Option.{option_flatten}
use Rattle.mem_image.specs.Lines.{Line, AreLines}
use Rattle.mem_image.specs.Views.{Written}
use Rattle.rtm_core.specs.Footprint.{write_limit}
use Rattle.rtm_core.specs.Transactions.{Transaction}

-- lines with their buffers; there may be more buffers than lines
abbrev pub lines_of : List ℕ → List (List (Option ℕ)) → List Line
lines_of [] buffers = []
lines_of (number ∷ numbers) [] = []
lines_of (number ∷ numbers) (buffer ∷ buffers) = record { number = number; bytes = buffer } ∷ lines_of numbers buffers

-- there is a buffer for each written line, and no line is written twice
pub record HasBuffers (writes : List ℕ) (buffers : List (List (Option ℕ))) : Type 0 where
  pub count : length buffers ≡ write_limit
  pub few : length writes ≤ write_limit
  pub lines : AreLines (lines_of writes buffers)

abbrev pub transaction_of : {C : Type 0} → Option C → List ℕ → List ℕ → List (List (Option ℕ)) → Option (Transaction C)
transaction_of None reads writes buffers = None
transaction_of (Some kept) reads writes buffers = Some (record { kept = kept; footprint = record { read_set = reads; write_set = lines_of writes buffers } })

-- what a buffer holds, by places
abbrev pub held_in : List (Option ℕ) → Written
held_in buffer at = option_flatten (slice_get buffer at)
