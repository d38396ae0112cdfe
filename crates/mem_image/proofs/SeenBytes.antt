-- The bytes of an access, and its word as it is seen through what was written.
use Rattle.std.proofs.Common.{◌≡◌, ◌∙◌, ℕ, ◌+◌, ◌<◌, ◌≤◌, Bool, true, List, length, take, drop, Option, Some, None, slice_index, refl, sym, ap, arith}
use Rattle.std.specs.Prelude.{unwrap_or, if◌then◌else◌}
use Rattle.std.proofs.lemmas.List.{get_or-drop, get_or-take, length-take, length-drop}
use Rattle.byteorder.specs.Endian.{little_number}
use Rattle.ir_layout.specs.Memory.{is_valid}
use Rattle.mem_image.specs.declared.areas.Area.{Area}
use Rattle.mem_image.specs.declared.areas.Area.TheVariants.{Globals, Stacks, Heap}
use Rattle.mem_image.specs.Bytes.{Memory, IsWhole, area_of, start_of, place_of, bytes_in, bytes_of, peek}
use Rattle.mem_image.specs.Views.{Written, overlaid, view}
use Rattle.mem_image.proofs.AreaBytes.{length_area}
use Rattle.mem_image.proofs.Inside.{IsInside, valid_inside}
use Rattle.mem_image.proofs.ViewBytes.{overlaid-at}
use Rattle.mem_image.proofs.Words.{agree}

area-seen : (mem : Memory) (w : Written) (area : Area) → bytes_in (view mem w) area ≡ overlaid w (start_of area) (bytes_in mem area)
area-seen mem w Globals = refl
area-seen mem w Stacks = refl
area-seen mem w Heap = refl

-- the bytes of a valid access
pub old-bytes : (mem : Memory) (a n : ℕ) (old : List ℕ) → is_valid mem.places a n ≡ true → Some old ≡ bytes_of mem a n → old ≡ take n (drop (place_of a) (bytes_in mem (area_of a)))
old-bytes mem a n old valid e = let f : Some old ≡ Some (take n (drop (place_of a) (bytes_in mem (area_of a)))) = e ∙ ap (λ (t : Bool). if t then Some (take n (drop (place_of a) (bytes_in mem (area_of a)))) else None) valid in cc

pub old-long : (mem : Memory) (a n : ℕ) (old : List ℕ) → IsWhole mem → is_valid mem.places a n ≡ true → Some old ≡ bytes_of mem a n → length old ≡ n
old-long mem a n old whole valid e =
    let inside : IsInside a n = valid_inside mem.places a n whole.places valid in
    let area = bytes_in mem (area_of a) in
    ap length (old-bytes mem a n old valid e)
    ∙ omega (arith, length-take n (drop (place_of a) area), length-drop (place_of a) area, length_area mem (area_of a) whole, inside.end)

pub seen-word : (mem : Memory) (w : Written) (part : Written) (a at n : ℕ) (old : List ℕ) → IsWhole mem → is_valid mem.places a n ≡ true → Some old ≡ bytes_of mem a n
    → ((k : ℕ) → k < n → w (a + k) ≡ part (at + k)) → little_number (length old) (overlaid part at old) ≡ peek (view mem w) a n
seen-word mem w part a at n old whole valid e held =
    ap (λ (m : ℕ). little_number m (overlaid part at old)) long
    ∙ agree n 0 (overlaid part at old) (drop (place_of a) (bytes_in (view mem w) (area_of a))) each
  where
    area : List ℕ
    area = bytes_in mem (area_of a)

    long : length old ≡ n
    long = old-long mem a n old whole valid e

    inside : IsInside a n
    inside = valid_inside mem.places a n whole.places valid

    each : (k : ℕ) → 0 ≤ k → k < 0 + n → slice_index (overlaid part at old) k ≡ slice_index (drop (place_of a) (bytes_in (view mem w) (area_of a))) k
    each k low less =
        let below : k < n = omega (arith, less) in
        let here : start_of (area_of a) + (place_of a + k) ≡ a + k = omega (arith, inside.start) in
        let within : place_of a + k < length area = omega (arith, inside.end, below, length_area mem (area_of a) whole) in
        let byte : slice_index old k ≡ slice_index area (place_of a + k) =
        ap (λ (bs : List ℕ). slice_index bs k) (old-bytes mem a n old valid e) ∙ get_or-take n (drop (place_of a) area) k 0 below ∙ get_or-drop (place_of a) area k 0 in
        overlaid-at part at old k (omega (arith, long, below))
        ∙ ap (λ (o : Option ℕ). unwrap_or o (slice_index old k)) (sym (held k below)) ∙ ap (unwrap_or (w (a + k))) byte
        ∙ ap (λ (x : ℕ). unwrap_or (w x) (slice_index area (place_of a + k))) (sym here)
        ∙ sym (overlaid-at w (start_of (area_of a)) area (place_of a + k) within)
        ∙ ap (λ (bs : List ℕ). slice_index bs (place_of a + k)) (sym (area-seen mem w (area_of a)))
        ∙ sym (get_or-drop (place_of a) (bytes_in (view mem w) (area_of a)) k 0)
