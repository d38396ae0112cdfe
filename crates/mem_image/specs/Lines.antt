-- Lines of memory, and what a transaction has written as lines: for each line that it wrote a buffer, which has a byte where one was
-- written (Intel 64 and IA-32 Architectures Software Developer's Manual, volume 1, 'Programming with Intel Transactional Synchronization
-- Extensions': conflicts are found by the cache line).
--
-- Choices: a line has 64 bytes. Buffers stand in the order in which their lines were first written. They are lists, as code can be seen;
-- what they mean is the bytes that were written, whatever their order.
use Rattle.std.specs.Prelude.{ℕ, ◌≡◌, ◌+◌, ◌/◌, ◌%◌, Bool, true, false, nat_eq, List, [], ◌∷◌, ◌++◌, length, map, take, drop, replicate, Option, Some, None, slice_get}
use Rattle.std.specs.List.{list_any, find}
use Rattle.std.specs.Option.{option_and_then, option_flatten}
use Rattle.byteorder.specs.Endian.{little_bytes}
use Rattle.mem_image.specs.Touches.{Touch, Store, stored_with}
use Rattle.mem_image.specs.Views.{Written}

abbrev pub line_size : ℕ
line_size = 64

abbrev pub line_of : ℕ → ℕ
line_of address = address / line_size

-- a line's number, and its bytes that were written
pub record Line : Type 0 where
  pub number : ℕ
  pub bytes : List (Option ℕ)

abbrev pub numbers : List Line → List ℕ
numbers lines = map (λ line. line.number) lines

-- ---- a line is opened

abbrev pub blank : ℕ → Line
blank number = record { number = number; bytes = replicate line_size None }

abbrev pub is_open : List Line → ℕ → Bool
is_open lines number = list_any (λ line. nat_eq line.number number) lines

abbrev pub opened_unless : Bool → List Line → ℕ → List Line
opened_unless true lines number = lines
opened_unless false lines number = lines ++ blank number ∷ []

-- a line is among them: as it was, or else the last, with nothing written
abbrev pub opened : List Line → ℕ → List Line
opened lines number = opened_unless (is_open lines number) lines number

-- each line is among them once, with a place for each of its bytes
abbrev pub AreLines : List Line → Type 0
AreLines [] = Unit {0}
AreLines (line ∷ lines) = (length line.bytes ≡ line_size) × (is_open lines line.number ≡ false) × AreLines lines

-- ---- a word is written

-- a word stands in the n bytes from a place of a buffer on
abbrev pub marked_with : List (Option ℕ) → ℕ → ℕ → ℕ → List (Option ℕ)
marked_with bytes at n word = take at bytes ++ map Some (little_bytes n word) ++ drop (at + n) bytes

abbrev pub stored_if : Bool → Line → ℕ → ℕ → ℕ → Line
stored_if true line a n word = record line { bytes = marked_with line.bytes (a % line_size) n word }
stored_if false line a n word = line

abbrev pub stored_in : ℕ → ℕ → ℕ → Line → Line
stored_in a n word line = stored_if (nat_eq line.number (line_of a)) line a n word

-- a word is written to the line of its address, if that is among them
abbrev pub lines_with : List Line → ℕ → ℕ → ℕ → List Line
lines_with lines a n word = map (stored_in a n word) lines

-- ---- an access

abbrev pub opened_where : Bool → List Line → ℕ → List Line
opened_where true lines number = opened lines number
opened_where false lines number = lines

-- an access that writes has its line among them, and its word there
abbrev pub lines_after : Touch → Option Store → List Line → List Line
lines_after touch store lines = stored_with lines_with store (opened_where touch.writes lines (line_of touch.address))

-- ---- what they mean

-- what was written
abbrev pub written_in : List Line → Written
written_in lines at =
    option_and_then (λ line. option_flatten (slice_get line.bytes (at % line_size))) (find (λ line. nat_eq line.number (line_of at)) lines)
