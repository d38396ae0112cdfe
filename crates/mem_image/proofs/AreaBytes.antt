-- Memory with the bytes of an area replaced.
use Rattle.std.proofs.Common.{◌≡◌, ℕ, List, length, refl, ap}
use Rattle.ir_layout.specs.Memory.{area_size}
use Rattle.mem_image.specs.declared.areas.Area.{Area}
use Rattle.mem_image.specs.declared.areas.Area.TheVariants.{Globals, Stacks, Heap}
use Rattle.mem_image.specs.Bytes.{Memory, IsWhole, bytes_in, with_bytes, word_at, with_word}

-- the area has the new bytes
pub same_area : (mem : Memory) (area : Area) (bs : List ℕ) → bytes_in (with_bytes mem area bs) area ≡ bs
same_area mem Globals bs = refl
same_area mem Stacks bs = refl
same_area mem Heap bs = refl

-- an area that gets the bytes that it has is as before
pub area_again : (mem : Memory) (area : Area) → with_bytes mem area (bytes_in mem area) ≡ mem
area_again mem Globals = refl
area_again mem Stacks = refl
area_again mem Heap = refl

-- the globals stay at their places
pub same_places : (mem : Memory) (area : Area) (bs : List ℕ) → (with_bytes mem area bs).places ≡ mem.places
same_places mem Globals bs = refl
same_places mem Stacks bs = refl
same_places mem Heap bs = refl

-- each area of a whole memory has its bytes
pub length_area : (mem : Memory) (area : Area) → IsWhole mem → length (bytes_in mem area) ≡ area_size
length_area mem Globals whole = whole.globals
length_area mem Stacks whole = whole.stacks
length_area mem Heap whole = whole.heap

-- memory stays whole where the new bytes are as many
pub area_whole : (mem : Memory) (area : Area) (bs : List ℕ) → IsWhole mem → length bs ≡ area_size → IsWhole (with_bytes mem area bs)
area_whole mem Globals bs whole e = record { globals = e; stacks = whole.stacks; heap = whole.heap; places = whole.places }
area_whole mem Stacks bs whole e = record { globals = whole.globals; stacks = e; heap = whole.heap; places = whole.places }
area_whole mem Heap bs whole e = record { globals = whole.globals; stacks = whole.stacks; heap = e; places = whole.places }

-- a word of any area is as before, if it is so where that is the area with the new bytes
pub elsewhere : (mem : Memory) (a b : Area) (new : List ℕ) (at m : ℕ) → (a ≡ b → word_at new at m ≡ word_at (bytes_in mem a) at m) → word_at (bytes_in (with_bytes mem a new) b) at m ≡ word_at (bytes_in mem b) at m
elsewhere mem Globals Globals new at m same = same refl
elsewhere mem Globals Stacks new at m same = refl
elsewhere mem Globals Heap new at m same = refl
elsewhere mem Stacks Globals new at m same = refl
elsewhere mem Stacks Stacks new at m same = same refl
elsewhere mem Stacks Heap new at m same = refl
elsewhere mem Heap Globals new at m same = refl
elsewhere mem Heap Stacks new at m same = refl
elsewhere mem Heap Heap new at m same = same refl

-- memory once a word stands in an area
abbrev pub with_word_in : Memory → Area → ℕ → ℕ → ℕ → Memory
with_word_in mem area at n v = with_bytes mem area (with_word (bytes_in mem area) at n v)

-- two words can be written in either order, if they can where their areas are one
pub areas_commute : (mem : Memory) (a b : Area) (at n v bt m w : ℕ) → (a ≡ b → with_word (with_word (bytes_in mem a) at n v) bt m w ≡ with_word (with_word (bytes_in mem a) bt m w) at n v) → with_word_in (with_word_in mem a at n v) b bt m w ≡ with_word_in (with_word_in mem b bt m w) a at n v
areas_commute mem Globals Globals at n v bt m w same = ap (with_bytes mem Globals) (same refl)
areas_commute mem Globals Stacks at n v bt m w same = refl
areas_commute mem Globals Heap at n v bt m w same = refl
areas_commute mem Stacks Globals at n v bt m w same = refl
areas_commute mem Stacks Stacks at n v bt m w same = ap (with_bytes mem Stacks) (same refl)
areas_commute mem Stacks Heap at n v bt m w same = refl
areas_commute mem Heap Globals at n v bt m w same = refl
areas_commute mem Heap Stacks at n v bt m w same = refl
areas_commute mem Heap Heap at n v bt m w same = ap (with_bytes mem Heap) (same refl)
