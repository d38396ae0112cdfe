-- What holds of reads and writes at valid accesses, by the definitions of memory alone: of words, of the bytes that they are made of, of what
-- is seen through bytes that were written, and of lines that hold such bytes.
use Rattle.std.specs.Prelude.{ℕ, ◌≡◌, ◌⊎◌, ◌+◌, ◌<◌, ◌≤◌, ◌^◌, true, false, List, Option, Some, None, slice_index, unwrap_or}
use Rattle.std.specs.Option.{option_map}
use Rattle.byteorder.specs.Endian.{little_bytes}
use Rattle.ir_core.specs.Module.{ModuleParts}
use Rattle.ir_layout.specs.declared.spans.Span.{Span}
use Rattle.ir_layout.specs.Limits.{first_limit}
use Rattle.ir_layout.specs.Memory.{is_valid, layout_of}
use Rattle.mem_image.specs.Accesses.{overlap}
use Rattle.mem_image.specs.Agreement.{byte_at, AgreeOn}
use Rattle.mem_image.specs.Bytes.{Memory, IsWhole, peek, poke}
use Rattle.mem_image.specs.Lines.{Line, AreLines, line_of, lines_after, written_in}
use Rattle.mem_image.specs.Opening.{opening}
use Rattle.mem_image.specs.Touches.{Touch, Store}
use Rattle.mem_image.specs.Views.{Written, nothing_written, stored, view}

-- an access to whole memory is valid
abbrev pub Valid : Memory → ℕ → ℕ → Type 0
Valid mem a n = is_valid mem.places a n ≡ true

-- two accesses are valid, and share no byte
pub record AreApart (mem : Memory) (a n b m : ℕ) : Type 0 where
  pub first : Valid mem a n
  pub second : Valid mem b m
  pub apart : overlap a n b m ≡ false

-- what was written is read back
abbrev pub WordsAreReadBack : Type 0
WordsAreReadBack = (mem : Memory) (a n v : ℕ) → IsWhole mem → Valid mem a n → v < 256 ^ n → peek (poke mem a n v) a n ≡ v

-- a write changes no word that shares no byte with it
abbrev pub OtherWordsStay : Type 0
OtherWordsStay = (mem : Memory) (a n v b m : ℕ) → IsWhole mem → AreApart mem a n b m → peek (poke mem a n v) b m ≡ peek mem b m

-- the order of two writes that share no byte doesn't matter
abbrev pub WritesCommute : Type 0
WritesCommute = (mem : Memory) (a n v b m w : ℕ) → IsWhole mem → AreApart mem a n b m → poke (poke mem a n v) b m w ≡ poke (poke mem b m w) a n v

-- a write keeps memory whole, and moves no global
pub record WritesKeepPlaces : Type 0 where
  pub whole : (mem : Memory) (a n v : ℕ) → IsWhole mem → Valid mem a n → IsWhole (poke mem a n v)
  pub places : (mem : Memory) (a n v : ℕ) → (poke mem a n v).places ≡ mem.places

-- the memory that a run of a module within its limits begins with is whole
abbrev pub OpeningIsWhole : Type 0
OpeningIsWhole = (m : ModuleParts) → first_limit m ≡ None → IsWhole (opening (layout_of m) m.globals)

-- words are made of bytes, and memory of bytes and of the places of its globals
pub record WordsAreBytes : Type 0 where
  pub read : (mem other : Memory) (a n : ℕ) → IsWhole mem → Valid mem a n → AgreeOn a n mem other → peek mem a n ≡ peek other a n
  pub written : (mem : Memory) (a n v k : ℕ) → IsWhole mem → Valid mem a n → k < n → byte_at (poke mem a n v) (a + k) ≡ Some (slice_index (little_bytes n v) k)
  pub others : (mem : Memory) (a n v at : ℕ) → IsWhole mem → Valid mem a n → (at < a) ⊎ (a + n ≤ at) → byte_at (poke mem a n v) at ≡ byte_at mem at
  pub all : (mem other : Memory) → mem.places ≡ other.places → IsWhole mem → IsWhole other → ((at : ℕ) → byte_at mem at ≡ byte_at other at) → mem ≡ other

-- through what was written memory is seen byte by byte, and a word stored there is seen as one stored in memory
pub record ViewsAreKept : Type 0 where
  pub nothing : (mem : Memory) → view mem nothing_written ≡ mem
  pub bytes : (mem : Memory) (written : Written) (at : ℕ) → byte_at (view mem written) at ≡ option_map (unwrap_or (written at)) (byte_at mem at)
  pub words : (mem : Memory) (written : Written) (a n v : ℕ) → IsWhole mem → Valid mem a n → view mem (stored written a n v) ≡ poke (view mem written) a n v
  pub whole : (mem : Memory) (written : Written) → IsWhole mem → IsWhole (view mem written)

-- a valid access lies in one line; once it was done, lines hold its word besides what they held
pub record LinesHoldWords : Type 0 where
  pub within : (spans : List Span) (a n k : ℕ) → is_valid spans a n ≡ true → k < n → line_of (a + k) ≡ line_of a
  pub stored : (spans : List Span) (touch : Touch) (store : Store) (lines : List Line) (at : ℕ) → AreLines lines → touch.writes ≡ true
      → store.address ≡ touch.address → is_valid spans store.address store.size ≡ true
      → written_in (lines_after touch (Some store) lines) at ≡ stored (written_in lines) store.address store.size store.word at
  pub nothing : (touch : Touch) (lines : List Line) (at : ℕ) → written_in (lines_after touch None lines) at ≡ written_in lines at
  pub kept : (spans : List Span) (touch : Touch) (store : Option Store) (lines : List Line) → AreLines lines
      → ((s : Store) → store ≡ Some s → is_valid spans s.address s.size ≡ true) → AreLines (lines_after touch store lines)
