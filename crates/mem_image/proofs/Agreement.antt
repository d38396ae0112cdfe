-- Memory byte by byte: what a word read is made of, what a write and a commit change, and that the bytes are all there is.
use Rattle.std.proofs.Common.{◌≡◌, ◌≢◌, ◌∙◌, ℕ, ◌+◌, ◌-◌, ◌<◌, ◌≤◌, Bool, true, false, List, length, drop, Option, Some, None, slice_get, slice_index, refl, sym, ap, arith, inl, inr}
use Rattle.std.specs.Prelude.{◌⊎◌, nat_le, unwrap_or}
use Rattle.std.specs.Option.{option_map}
use Rattle.std.proofs.lemmas.Bool.{cases_lt}
use Rattle.std.proofs.lemmas.Bool.Decides.{nat_tests}
use Rattle.std.proofs.lemmas.List.{ext_get_or, get_or-drop}
use Rattle.std.proofs.lemmas.Option.{slice_get-get_or, slice_get_past, unwrap_or-slice_get}
use Rattle.byteorder.specs.Endian.{little_bytes}
use Rattle.ir_layout.specs.declared.spans.Span.{Span}
use Rattle.ir_layout.specs.Memory.{area_size, globals_start, stacks_start, heap_start, is_valid}
use Rattle.mem_image.specs.declared.areas.Area.{Area}
use Rattle.mem_image.specs.declared.areas.Area.TheVariants.{Globals, Stacks, Heap}
use Rattle.mem_image.specs.Agreement.{byte_at, AgreeOn, AgreeOutside}
use Rattle.mem_image.specs.Bytes.{Memory, IsWhole, area_of, start_of, place_of, bytes_in, with_bytes, with_word, peek, poke}
use Rattle.mem_image.specs.Lines.{line_of}
use Rattle.mem_image.specs.Views.{Written, only_if, view}
use Rattle.mem_image.proofs.AccessLines.{same-line}
use Rattle.mem_image.proofs.AreaBytes.{length_area, same_area}
use Rattle.mem_image.proofs.Inside.{IsInside, valid_inside, is-globals, is-stacks, is-heap}
use Rattle.mem_image.proofs.Records.{same_memory}
use Rattle.mem_image.proofs.Views.{view-byte}
use Rattle.mem_image.proofs.Words.{agree, length_with_word, byte-apart, byte-inside}

-- ---- the bytes of an access

area-on : (a n k : ℕ) (area : Area) → start_of area ≤ a → a - start_of area + n ≤ area_size → k < n → area_of (a + k) ≡ area
area-on a n k Globals from to below = is-globals (a + k) (omega (arith, from, to, below))
area-on a n k Stacks from to below = is-stacks (a + k) (omega (arith, from, to, below)) (omega (arith, from, to, below))
area-on a n k Heap from to below = is-heap (a + k) (omega (arith, from, to, below))

byte-in : (mem : Memory) (at i : ℕ) (area : Area) → area_of at ≡ area → at ≡ start_of area + i → byte_at mem at ≡ slice_get (bytes_in mem area) i
byte-in mem at i area is here =
    let start : start_of (area_of at) ≡ start_of area = ap start_of is in
    let low : nat_le (start_of (area_of at)) at ≡ true = grind (arith, nat_tests, start, here) in
    let place : place_of at ≡ i = omega (arith, start, here) in
    ap (λ (b : Bool). only_if b (slice_get (bytes_in mem (area_of at)) (place_of at))) low
    ∙ ap (λ (x : Area). slice_get (bytes_in mem x) (place_of at)) is ∙ ap (λ (j : ℕ). slice_get (bytes_in mem area) j) place

byte-of_access : (mem : Memory) (a n k : ℕ) → IsInside a n → k < n → byte_at mem (a + k) ≡ slice_get (bytes_in mem (area_of a)) (place_of a + k)
byte-of_access mem a n k inside below =
    byte-in mem (a + k) (place_of a + k) (area_of a) (area-on a n k (area_of a) inside.start inside.end below) (omega (arith, inside.start))

-- a word that is read is the same over memories with the same bytes there
pub peek-agrees : (mem other : Memory) (a n : ℕ) → IsWhole mem → is_valid mem.places a n ≡ true → AgreeOn a n mem other → peek mem a n ≡ peek other a n
peek-agrees mem other a n whole valid same = agree n 0 (drop (place_of a) (bytes_in mem (area_of a))) (drop (place_of a) (bytes_in other (area_of a))) each
  where
    inside : IsInside a n
    inside = valid_inside mem.places a n whole.places valid

    each : (k : ℕ) → 0 ≤ k → k < 0 + n → slice_index (drop (place_of a) (bytes_in mem (area_of a))) k ≡ slice_index (drop (place_of a) (bytes_in other (area_of a))) k
    each k low high =
        let below : k < n = omega (arith, high) in
        get_or-drop (place_of a) (bytes_in mem (area_of a)) k 0
        ∙ sym (unwrap_or-slice_get (bytes_in mem (area_of a)) (place_of a + k) 0)
        ∙ ap (λ (o : Option ℕ). unwrap_or o 0) (sym (byte-of_access mem a n k inside below) ∙ same k below ∙ byte-of_access other a n k inside below)
        ∙ unwrap_or-slice_get (bytes_in other (area_of a)) (place_of a + k) 0
        ∙ sym (get_or-drop (place_of a) (bytes_in other (area_of a)) k 0)

-- ---- a write

-- the bytes of the access are the word's
pub poke-byte : (mem : Memory) (a n word k : ℕ) → IsWhole mem → is_valid mem.places a n ≡ true → k < n
    → byte_at (poke mem a n word) (a + k) ≡ Some (slice_index (little_bytes n word) k)
poke-byte mem a n word k whole valid below =
    let inside : IsInside a n = valid_inside mem.places a n whole.places valid in
    let count : length (bytes_in mem (area_of a)) ≡ area_size = length_area mem (area_of a) whole in
    let kept = length_with_word (bytes_in mem (area_of a)) (place_of a) n word (omega (arith, count, inside.end)) in
    let e : place_of a + k - place_of a ≡ k = omega arith in
    byte-of_access (poke mem a n word) a n k inside below
    ∙ ap (λ (bs : List ℕ). slice_get bs (place_of a + k)) (same_area mem (area_of a) (with_word (bytes_in mem (area_of a)) (place_of a) n word))
    ∙ slice_get-get_or (with_word (bytes_in mem (area_of a)) (place_of a) n word) (place_of a + k) 0 (omega (arith, count, kept, inside.end, below))
    ∙ ap Some (byte-inside (bytes_in mem (area_of a)) (place_of a) n word (place_of a + k) (omega (arith, count, inside.end)) (omega arith) (omega (arith, below)))
    ∙ ap (λ (j : ℕ). Some (slice_index (little_bytes n word) j)) e

get-same : (xs ys : List ℕ) (i : ℕ) → length xs ≡ length ys → slice_index xs i ≡ slice_index ys i → slice_get xs i ≡ slice_get ys i
get-same xs ys i count same = by_place (cases_lt i (length xs))
  where
    by_place : (i < length xs) ⊎ (length xs ≤ i) → slice_get xs i ≡ slice_get ys i
    by_place (inl below) = slice_get-get_or xs i 0 below ∙ ap Some same ∙ sym (slice_get-get_or ys i 0 (omega (arith, below, count)))
    by_place (inr past) = slice_get_past xs i past ∙ sym (slice_get_past ys i (omega (arith, past, count)))

beside-in : (mem : Memory) (area other : Area) (new : List ℕ) (i : ℕ) → (area ≡ other → slice_get new i ≡ slice_get (bytes_in mem area) i)
    → slice_get (bytes_in (with_bytes mem area new) other) i ≡ slice_get (bytes_in mem other) i
beside-in mem Globals Globals new i same = same refl
beside-in mem Globals Stacks new i same = refl
beside-in mem Globals Heap new i same = refl
beside-in mem Stacks Globals new i same = refl
beside-in mem Stacks Stacks new i same = same refl
beside-in mem Stacks Heap new i same = refl
beside-in mem Heap Globals new i same = refl
beside-in mem Heap Stacks new i same = refl
beside-in mem Heap Heap new i same = same refl

-- all others are as before
pub poke-apart : (mem : Memory) (a n word at : ℕ) → IsWhole mem → is_valid mem.places a n ≡ true → (at < a) ⊎ (a + n ≤ at)
    → byte_at (poke mem a n word) at ≡ byte_at mem at
poke-apart mem a n word at whole valid apart = by_test (nat_le (start_of (area_of at)) at) refl
  where
    inside : IsInside a n
    inside = valid_inside mem.places a n whole.places valid

    count : length (bytes_in mem (area_of a)) ≡ area_size
    count = length_area mem (area_of a) whole

    side : start_of (area_of a) ≡ start_of (area_of at) → start_of (area_of at) ≤ at → (at < a) ⊎ (a + n ≤ at) → (place_of at < place_of a) ⊎ (place_of a + n ≤ place_of at)
    side start low (inl before) = inl (omega (arith, start, low, inside.start, before))
    side start low (inr after) = inr (omega (arith, start, low, inside.start, after))

    beside : start_of (area_of at) ≤ at → area_of a ≡ area_of at
        → slice_get (with_word (bytes_in mem (area_of a)) (place_of a) n word) (place_of at) ≡ slice_get (bytes_in mem (area_of a)) (place_of at)
    beside low same = get-same (with_word (bytes_in mem (area_of a)) (place_of a) n word) (bytes_in mem (area_of a)) (place_of at)
        (length_with_word (bytes_in mem (area_of a)) (place_of a) n word (omega (arith, count, inside.end)))
        (byte-apart (bytes_in mem (area_of a)) (place_of a) n word (place_of at) (omega (arith, count, inside.end)) (side (ap start_of same) low apart))

    by_test : (b : Bool) → nat_le (start_of (area_of at)) at ≡ b
        → only_if b (slice_get (bytes_in (poke mem a n word) (area_of at)) (place_of at)) ≡ only_if b (slice_get (bytes_in mem (area_of at)) (place_of at))
    by_test false e = refl
    by_test true e =
        let low : start_of (area_of at) ≤ at = grind (arith, nat_tests, e) in
        beside-in mem (area_of a) (area_of at) (with_word (bytes_in mem (area_of a)) (place_of a) n word) (place_of at) (beside low)

-- ---- lines

-- an address of another line is none of the access
pub other-line : (spans : List Span) (a n at : ℕ) → is_valid spans a n ≡ true → line_of at ≢ line_of a → (at < a) ⊎ (a + n ≤ at)
other-line spans a n at valid off = by_place (cases_lt at a) (cases_lt at (a + n))
  where
    by_place : (at < a) ⊎ (a ≤ at) → (at < a + n) ⊎ (a + n ≤ at) → (at < a) ⊎ (a + n ≤ at)
    by_place (inl before) other = inl before
    by_place (inr from) (inr after) = inr after
    by_place (inr from) (inl below) =
        let back : a + (at - a) ≡ at = omega (arith, from) in
        absurd (off (ap line_of (sym back) ∙ same-line spans a n (at - a) valid (omega (arith, from, below))))

-- a write changes bytes of its own line alone
pub poke-lines : (mem : Memory) (a n word : ℕ) → IsWhole mem → is_valid mem.places a n ≡ true → AgreeOutside (λ line. line ≡ line_of a) mem (poke mem a n word)
poke-lines mem a n word whole valid at off = sym (poke-apart mem a n word at whole valid (other-line mem.places a n at valid off))

-- what was written is seen in its lines alone
pub view-lines : (P : ℕ → Type 0) (mem : Memory) (written : Written) → ((at byte : ℕ) → written at ≡ Some byte → P (line_of at)) → AgreeOutside P mem (view mem written)
view-lines P mem written lines at off = sym (view-byte mem written at ∙ by_byte (written at) refl (byte_at mem at))
  where
    by_byte : (o : Option ℕ) → written at ≡ o → (old : Option ℕ) → option_map (unwrap_or o) old ≡ old
    by_byte (Some byte) e old = absurd (off (lines at byte e))
    by_byte None e None = refl
    by_byte None e (Some old) = refl

-- ---- the bytes are all there is

area-each : (mem other : Memory) (area : Area) → IsWhole mem → IsWhole other → ((at : ℕ) → byte_at mem at ≡ byte_at other at) → bytes_in mem area ≡ bytes_in other area
area-each mem other area whole whole' same = ext_get_or 0 (bytes_in mem area) (bytes_in other area) (count ∙ sym count') each
  where
    count : length (bytes_in mem area) ≡ area_size
    count = length_area mem area whole

    count' : length (bytes_in other area) ≡ area_size
    count' = length_area other area whole'

    on : (x : Area) (i : ℕ) → i < area_size → area_of (start_of x + i) ≡ x
    on Globals i below = is-globals (globals_start + i) (omega (arith, below))
    on Stacks i below = is-stacks (stacks_start + i) (omega (arith, below)) (omega (arith, below))
    on Heap i below = is-heap (heap_start + i) (omega (arith, below))

    each : (i : ℕ) → i < length (bytes_in mem area) → slice_index (bytes_in mem area) i ≡ slice_index (bytes_in other area) i
    each i below =
        let is : area_of (start_of area + i) ≡ area = on area i (omega (arith, below, count)) in
        sym (unwrap_or-slice_get (bytes_in mem area) i 0)
        ∙ ap (λ (o : Option ℕ). unwrap_or o 0) (sym (byte-in mem (start_of area + i) i area is refl) ∙ same (start_of area + i)
        ∙ byte-in other (start_of area + i) i area is refl)
        ∙ unwrap_or-slice_get (bytes_in other area) i 0

-- memories with the same globals and the same bytes are the same
pub same-bytes : (mem other : Memory) → mem.places ≡ other.places → IsWhole mem → IsWhole other → ((at : ℕ) → byte_at mem at ≡ byte_at other at) → mem ≡ other
same-bytes mem other places whole whole' same = same_memory places (area-each mem other Globals whole whole' same)
    (area-each mem other Stacks whole whole' same) (area-each mem other Heap whole whole' same)
