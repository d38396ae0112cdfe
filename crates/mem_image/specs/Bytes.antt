-- The memory of a program: bytes by address (LLVM Language Reference, 'Data Layout', 'load Instruction', 'store Instruction').
--
-- Choices: the bytes of globals, of stacks and of the heap are there from the start. A word stands with its lowest byte first.
-- An access that isn't valid reads and writes nothing.
use Rattle.std.specs.Prelude.{ℕ, ◌+◌, ◌-◌, ◌≡◌, true, List, ◌++◌, take, drop, length, Option, Some, None, nat_lt, nat_le, ◌&&◌, if◌then◌else◌}
use Rattle.std.specs.List.{list_all}
use Rattle.byteorder.specs.Endian.{little_number, little_bytes}
use Rattle.ir_layout.specs.declared.spans.Span.{Span}
use Rattle.ir_layout.specs.Memory.{area_size, globals_start, stacks_start, heap_start, lies_in, is_valid}
use Rattle.mem_image.specs.declared.areas.Area.{Area}
use Rattle.mem_image.specs.declared.areas.Area.TheVariants.{Globals, Stacks, Heap}

-- what contracts see of an image: the places of the globals, and the bytes of each area from its start on
pub record Memory : Type 0 where
  pub places : List Span
  pub globals : List ℕ
  pub stacks : List ℕ
  pub heap : List ℕ

-- ---- areas

-- the area that a valid address lies in
abbrev pub area_of : ℕ → Area
area_of address = if nat_lt address stacks_start then Globals else if nat_lt address heap_start then Stacks else Heap

abbrev pub start_of : Area → ℕ
start_of Globals = globals_start
start_of Stacks = stacks_start
start_of Heap = heap_start

-- how far behind its area's start an address is
abbrev pub place_of : ℕ → ℕ
place_of address = address - start_of (area_of address)

-- the area of an access and its place there, where it is valid
abbrev pub place_of_access : List Span → ℕ → ℕ → Option (Area × ℕ)
place_of_access places a n = if is_valid places a n then Some (area_of a, place_of a) else None

-- the area of an address and its place there, if the area has it
abbrev pub byte_place : ℕ → Option (Area × ℕ)
byte_place a = if nat_le (start_of (area_of a)) a && nat_lt (place_of a) area_size then Some (area_of a, place_of a) else None

abbrev pub bytes_in : Memory → Area → List ℕ
bytes_in mem Globals = mem.globals
bytes_in mem Stacks = mem.stacks
bytes_in mem Heap = mem.heap

abbrev pub with_bytes : Memory → Area → List ℕ → Memory
with_bytes mem Globals bs = record mem { globals = bs }
with_bytes mem Stacks bs = record mem { stacks = bs }
with_bytes mem Heap bs = record mem { heap = bs }

-- each area has its bytes, and each global lies in the area of globals
pub record IsWhole (mem : Memory) : Type 0 where
  pub globals : length mem.globals ≡ area_size
  pub stacks : length mem.stacks ≡ area_size
  pub heap : length mem.heap ≡ area_size
  pub places : list_all (λ span. lies_in globals_start area_size span.start span.size) mem.places ≡ true

-- ---- words

-- the word of the n bytes from a place on, and the bytes once a word stands there
abbrev pub word_at : List ℕ → ℕ → ℕ → ℕ
word_at bs at n = little_number n (drop at bs)

abbrev pub with_word : List ℕ → ℕ → ℕ → ℕ → List ℕ
with_word bs at n v = take at bs ++ little_bytes n v ++ drop (at + n) bs

-- the word of the n bytes from an address on
abbrev pub peek : Memory → ℕ → ℕ → ℕ
peek mem a n = word_at (bytes_in mem (area_of a)) (place_of a) n

-- the memory once the word stands in these bytes
abbrev pub poke : Memory → ℕ → ℕ → ℕ → Memory
poke mem a n v = with_bytes mem (area_of a) (with_word (bytes_in mem (area_of a)) (place_of a) n v)

-- the bytes of an access, where it is valid
abbrev pub bytes_of : Memory → ℕ → ℕ → Option (List ℕ)
bytes_of mem a n = if is_valid mem.places a n then Some (take n (drop (place_of a) (bytes_in mem (area_of a)))) else None

-- what an access reads, and the memory behind one that writes, where it is valid
abbrev pub read_of : Memory → ℕ → ℕ → Option ℕ
read_of mem a n = if is_valid mem.places a n then Some (peek mem a n) else None

abbrev pub written : Memory → ℕ → ℕ → ℕ → Option Memory
written mem a n v = if is_valid mem.places a n then Some (poke mem a n v) else None
