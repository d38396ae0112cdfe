-- Memory seen through what was written: byte by byte, once a word is stored besides, and over memories that agree.
use Rattle.std.proofs.Common.{◌≡◌, ◌∙◌, ℕ, ◌+◌, ◌-◌, ◌≤◌, Bool, true, false, List, slice_get, refl, sym, ap, arith, inl, inr}
use Rattle.std.specs.Prelude.{nat_le, unwrap_or}
use Rattle.std.specs.Option.{option_map}
use Rattle.std.proofs.lemmas.Bool.Decides.{nat_tests}
use Rattle.ir_layout.specs.Memory.{area_size, globals_start, stacks_start, heap_start, is_valid}
use Rattle.mem_image.specs.declared.areas.Area.{Area}
use Rattle.mem_image.specs.declared.areas.Area.TheVariants.{Globals, Stacks, Heap}
use Rattle.mem_image.specs.Agreement.{byte_at, AgreeOn}
use Rattle.mem_image.specs.Bytes.{Memory, IsWhole, area_of, start_of, place_of, bytes_in, with_bytes, with_word, poke}
use Rattle.mem_image.specs.Views.{Written, nothing_written, only_if, stored, overlaid, view}
use Rattle.mem_image.proofs.Inside.{IsInside, valid_inside}
use Rattle.mem_image.proofs.Records.{same_memory}
use Rattle.mem_image.proofs.ViewBytes.{length-overlaid, overlaid-get, overlaid-nothing, overlaid-stored, overlaid-elsewhere}

-- the globals stay at their places
pub view-places : (mem : Memory) (written : Written) → (view mem written).places ≡ mem.places
view-places mem written = refl

-- what is seen of a whole memory is whole
pub view-whole : (mem : Memory) (written : Written) → IsWhole mem → IsWhole (view mem written)
view-whole mem written whole = record {
  globals = length-overlaid written globals_start mem.globals ∙ whole.globals;
  stacks = length-overlaid written stacks_start mem.stacks ∙ whole.stacks;
  heap = length-overlaid written heap_start mem.heap ∙ whole.heap;
  places = whole.places;
}

-- where nothing was written, memory is seen as it is
pub view-nothing : (mem : Memory) → view mem nothing_written ≡ mem
view-nothing mem = same_memory refl (overlaid-nothing globals_start mem.globals) (overlaid-nothing stacks_start mem.stacks) (overlaid-nothing heap_start mem.heap)

-- ---- byte by byte

area-seen : (mem : Memory) (written : Written) (area : Area) → bytes_in (view mem written) area ≡ overlaid written (start_of area) (bytes_in mem area)
area-seen mem written Globals = refl
area-seen mem written Stacks = refl
area-seen mem written Heap = refl

-- each byte is the one that was written, or else memory's
pub view-byte : (mem : Memory) (written : Written) (at : ℕ) → byte_at (view mem written) at ≡ option_map (unwrap_or (written at)) (byte_at mem at)
view-byte mem written at = by_test (nat_le (start_of (area_of at)) at) refl
  where
    by_test : (b : Bool) → nat_le (start_of (area_of at)) at ≡ b → only_if b (slice_get (bytes_in (view mem written) (area_of at)) (place_of at))
        ≡ option_map (unwrap_or (written at)) (only_if b (slice_get (bytes_in mem (area_of at)) (place_of at)))
    by_test false e = refl
    by_test true e =
        let low : start_of (area_of at) ≤ at = grind (arith, nat_tests, e) in
        let here : start_of (area_of at) + place_of at ≡ at = omega (arith, low) in
        ap (λ (bs : List ℕ). slice_get bs (place_of at)) (area-seen mem written (area_of at))
        ∙ overlaid-get written (start_of (area_of at)) (bytes_in mem (area_of at)) (place_of at)
        ∙ ap (λ (x : ℕ). option_map (unwrap_or (written x)) (slice_get (bytes_in mem (area_of at)) (place_of at))) here

-- where memories agree, what is seen of them does
pub view-alike : (a n : ℕ) (mem other : Memory) (written : Written) → AgreeOn a n mem other → AgreeOn a n (view mem written) (view other written)
view-alike a n mem other written same k below =
    view-byte mem written (a + k) ∙ ap (option_map (unwrap_or (written (a + k)))) (same k below) ∙ sym (view-byte other written (a + k))

-- ---- a word stored besides

view-stored-in : (mem : Memory) (written : Written) (a n word : ℕ) (area : Area) → IsWhole mem → start_of area ≤ a → a - start_of area + n ≤ area_size
    → view mem (stored written a n word) ≡ with_bytes (view mem written) area (with_word (bytes_in (view mem written) area) (a - start_of area) n word)
view-stored-in mem written a n word Globals whole from fits = same_memory refl
    (overlaid-stored written globals_start mem.globals a n word from (omega (arith, fits, whole.globals)))
    (overlaid-elsewhere written stacks_start mem.stacks a n word (inl (omega (arith, from, fits))))
    (overlaid-elsewhere written heap_start mem.heap a n word (inl (omega (arith, from, fits))))
view-stored-in mem written a n word Stacks whole from fits = same_memory refl
    (overlaid-elsewhere written globals_start mem.globals a n word (inr (omega (arith, from, fits, whole.globals))))
    (overlaid-stored written stacks_start mem.stacks a n word from (omega (arith, fits, whole.stacks)))
    (overlaid-elsewhere written heap_start mem.heap a n word (inl (omega (arith, from, fits))))
view-stored-in mem written a n word Heap whole from fits = same_memory refl
    (overlaid-elsewhere written globals_start mem.globals a n word (inr (omega (arith, from, fits, whole.globals))))
    (overlaid-elsewhere written stacks_start mem.stacks a n word (inr (omega (arith, from, fits, whole.stacks))))
    (overlaid-stored written heap_start mem.heap a n word from (omega (arith, fits, whole.heap)))

-- a word stored among what was written is seen as a word stored in memory
pub view-stored : (mem : Memory) (written : Written) (a n word : ℕ) → IsWhole mem → is_valid mem.places a n ≡ true
    → view mem (stored written a n word) ≡ poke (view mem written) a n word
view-stored mem written a n word whole valid =
    let inside : IsInside a n = valid_inside mem.places a n whole.places valid in
    view-stored-in mem written a n word (area_of a) whole inside.start inside.end
