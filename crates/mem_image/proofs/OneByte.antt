-- One byte more: a byte put into an area is seen as a byte that was written, and what is written after something else is seen as both.
use Rattle.std.proofs.Common.{◌≡◌, ◌≢◌, ◌∙◌, ℕ, zero, suc, ◌+◌, ◌-◌, ◌<◌, ◌≤◌, Bool, true, false, List, [], ◌∷◌, length, take, drop, set, Option, Some, None, nat_eq, refl, sym, ap, arith, inl, inr}
use Rattle.std.specs.Prelude.{◌⊎◌, unwrap_or, if◌then◌else◌, nat_lt, nat_le, ◌&&◌}
use Rattle.std.proofs.lemmas.Bool.{cases_lt}
use Rattle.std.proofs.lemmas.Bool.Decides.{nat_tests}
use Rattle.std.proofs.lemmas.Option.{some_pair_parts}
use Rattle.ir_layout.specs.Memory.{area_size, is_valid, globals_start, stacks_start, heap_start}
use Rattle.mem_image.specs.declared.areas.Area.{Area}
use Rattle.mem_image.specs.declared.areas.Area.TheVariants.{Globals, Stacks, Heap}
use Rattle.mem_image.specs.Bytes.{Memory, IsWhole, byte_place, place_of_access, bytes_of, area_of, start_of, place_of, bytes_in, with_bytes}
use Rattle.mem_image.specs.Views.{Written, one_byte, only_if, overlaid, view}
use Rattle.mem_image.proofs.Inside.{is-heap}
use Rattle.mem_image.proofs.Records.{same_memory}

-- ---- the same bytes are seen the same

overlaid-same : (written other : Written) → ((at : ℕ) → written at ≡ other at) → (start : ℕ) (bs : List ℕ) → overlaid written start bs ≡ overlaid other start bs
overlaid-same written other same start [] = refl
overlaid-same written other same start (b ∷ bs) = rw (same start) (ap (λ (rest : List ℕ). unwrap_or (other start) b ∷ rest) (overlaid-same written other same (suc start) bs))

pub view-same : (mem : Memory) (written other : Written) → ((at : ℕ) → written at ≡ other at) → view mem written ≡ view mem other
view-same mem written other same = same_memory refl (overlaid-same written other same globals_start mem.globals)
    (overlaid-same written other same stacks_start mem.stacks) (overlaid-same written other same heap_start mem.heap)

-- ---- what is written later is seen over what was written before

overlaid-twice : (before after both : Written) → ((at old : ℕ) → unwrap_or (after at) (unwrap_or (before at) old) ≡ unwrap_or (both at) old)
    → (start : ℕ) (bs : List ℕ) → overlaid after start (overlaid before start bs) ≡ overlaid both start bs
overlaid-twice before after both same start [] = refl
overlaid-twice before after both same start (b ∷ bs) = rw (same start b) (ap (λ (rest : List ℕ). unwrap_or (both start) b ∷ rest) (overlaid-twice before after both same (suc start) bs))

pub view-twice : (mem : Memory) (before after both : Written) → ((at old : ℕ) → unwrap_or (after at) (unwrap_or (before at) old) ≡ unwrap_or (both at) old)
    → view (view mem before) after ≡ view mem both
view-twice mem before after both same = same_memory refl (overlaid-twice before after both same globals_start mem.globals)
    (overlaid-twice before after both same stacks_start mem.stacks) (overlaid-twice before after both same heap_start mem.heap)

-- ---- one byte

not-there : (a b at : ℕ) → at ≢ a → one_byte a b at ≡ None
not-there a b at off = let e : nat_eq at a ≡ false = grind (arith, nat_tests, off) in ap (λ (t : Bool). only_if t (Some b)) e

there : (a b at : ℕ) → at ≡ a → one_byte a b at ≡ Some b
there a b at is = let e : nat_eq at a ≡ true = grind (arith, nat_tests, is) in ap (λ (t : Bool). only_if t (Some b)) e

overlaid-off : (a b start : ℕ) (bs : List ℕ) → (a < start) ⊎ (start + length bs ≤ a) → overlaid (one_byte a b) start bs ≡ bs
overlaid-off a b start [] off = refl
overlaid-off a b start (x ∷ bs) (inl low) =
    rw (not-there a b start (λ is. omega (arith, is, low))) (ap (λ (rest : List ℕ). x ∷ rest) (overlaid-off a b (suc start) bs (inl (omega (arith, low)))))
overlaid-off a b start (x ∷ bs) (inr high) =
    rw (not-there a b start (λ is. omega (arith, is, high))) (ap (λ (rest : List ℕ). x ∷ rest) (overlaid-off a b (suc start) bs (inr (omega (arith, high)))))

overlaid-on : (a b start i : ℕ) (bs : List ℕ) → start + i ≡ a → overlaid (one_byte a b) start bs ≡ set bs i b
overlaid-on a b start i [] is = refl
overlaid-on a b start zero (x ∷ bs) is =
    rw (there a b start (omega (arith, is))) (ap (λ (rest : List ℕ). b ∷ rest) (overlaid-off a b (suc start) bs (inl (omega (arith, is)))))
overlaid-on a b start (suc i) (x ∷ bs) is =
    rw (not-there a b start (λ e. omega (arith, is, e))) (ap (λ (rest : List ℕ). x ∷ rest) (overlaid-on a b (suc start) i bs (omega (arith, is))))

one-in : (mem : Memory) (a b : ℕ) (area : Area) → IsWhole mem → start_of area ≤ a → a - start_of area < area_size
    → with_bytes mem area (set (bytes_in mem area) (a - start_of area) b) ≡ view mem (one_byte a b)
one-in mem a b Globals whole from below = same_memory refl (sym (overlaid-on a b globals_start (a - globals_start) mem.globals (omega (arith, from))))
    (sym (overlaid-off a b stacks_start mem.stacks (inl (omega (arith, from, below))))) (sym (overlaid-off a b heap_start mem.heap (inl (omega (arith, from, below)))))
one-in mem a b Stacks whole from below = same_memory refl (sym (overlaid-off a b globals_start mem.globals (inr (omega (arith, from, whole.globals)))))
    (sym (overlaid-on a b stacks_start (a - stacks_start) mem.stacks (omega (arith, from)))) (sym (overlaid-off a b heap_start mem.heap (inl (omega (arith, from, below)))))
one-in mem a b Heap whole from below = same_memory refl (sym (overlaid-off a b globals_start mem.globals (inr (omega (arith, from, whole.globals)))))
    (sym (overlaid-off a b stacks_start mem.stacks (inr (omega (arith, from, whole.stacks))))) (sym (overlaid-on a b heap_start (a - heap_start) mem.heap (omega (arith, from))))

-- a byte of an area
pub byte-put : (mem : Memory) (a b : ℕ) → IsWhole mem → start_of (area_of a) ≤ a → place_of a < area_size
    → with_bytes mem (area_of a) (set (bytes_in mem (area_of a)) (place_of a) b) ≡ view mem (one_byte a b)
byte-put mem a b whole from below = one-in mem a b (area_of a) whole from below

-- an address of no area
pub byte-nowhere : (mem : Memory) (a b : ℕ) → IsWhole mem → (a < start_of (area_of a)) ⊎ (area_size ≤ place_of a) → mem ≡ view mem (one_byte a b)
byte-nowhere mem a b whole off = same_memory refl (sym (overlaid-off a b globals_start mem.globals (globals-off off))) (sym (overlaid-off a b stacks_start mem.stacks (stacks-off off)))
    (sym (overlaid-off a b heap_start mem.heap (heap-off off)))
  where
    by_tests : (P : Area → Type 0) → (a < stacks_start → P Globals) → (stacks_start ≤ a → a < heap_start → P Stacks) → (heap_start ≤ a → P Heap) → P (area_of a)
    by_tests P g s h = split (cases_lt a stacks_start) (cases_lt a heap_start)
      where
        split : (a < stacks_start) ⊎ (stacks_start ≤ a) → (a < heap_start) ⊎ (heap_start ≤ a) → P (area_of a)
        split (inl low) other = let e : nat_lt a stacks_start ≡ true = grind (arith, nat_tests, low) in rw e (g low)
        split (inr from) (inl low) = let e : nat_lt a stacks_start ≡ false = grind (arith, nat_tests, from) in let f : nat_lt a heap_start ≡ true = grind (arith, nat_tests, low) in rw (e, f) (s from low)
        split (inr from) (inr high) = let e : nat_lt a stacks_start ≡ false = grind (arith, nat_tests, from) in let f : nat_lt a heap_start ≡ false = grind (arith, nat_tests, high) in rw (e, f) (h high)

    Off : Area → Type 0
    Off area = (a < start_of area) ⊎ (area_size ≤ a - start_of area)

    globals-off : Off (area_of a) → (a < globals_start) ⊎ (globals_start + length mem.globals ≤ a)
    globals-off = by_tests (λ area. Off area → (a < globals_start) ⊎ (globals_start + length mem.globals ≤ a))
        (λ low off. off-globals off)
        (λ from low off. inr (omega (arith, from, whole.globals)))
        (λ high off. inr (omega (arith, high, whole.globals)))
      where
        off-globals : Off Globals → (a < globals_start) ⊎ (globals_start + length mem.globals ≤ a)
        off-globals (inl low) = inl low
        off-globals (inr high) = inr (omega (arith, high, whole.globals))

    stacks-off : Off (area_of a) → (a < stacks_start) ⊎ (stacks_start + length mem.stacks ≤ a)
    stacks-off = by_tests (λ area. Off area → (a < stacks_start) ⊎ (stacks_start + length mem.stacks ≤ a))
        (λ low off. inl low)
        (λ from low off. off-stacks off)
        (λ high off. inr (omega (arith, high, whole.stacks)))
      where
        off-stacks : Off Stacks → (a < stacks_start) ⊎ (stacks_start + length mem.stacks ≤ a)
        off-stacks (inl low) = inl low
        off-stacks (inr high) = inr (omega (arith, high, whole.stacks))

    heap-off : Off (area_of a) → (a < heap_start) ⊎ (heap_start + length mem.heap ≤ a)
    heap-off = by_tests (λ area. Off area → (a < heap_start) ⊎ (heap_start + length mem.heap ≤ a))
        (λ low off. inl (omega (arith, low)))
        (λ from low off. inl low)
        (λ high off. off-heap off)
      where
        off-heap : Off Heap → (a < heap_start) ⊎ (heap_start + length mem.heap ≤ a)
        off-heap (inl low) = inl low
        off-heap (inr high) = inr (omega (arith, high, whole.heap))

abbrev pub with_byte : Option (Area × ℕ) → ℕ → Memory → Memory
with_byte None b mem = mem
with_byte (Some place) b mem = with_bytes mem place.0 (set (bytes_in mem place.0) place.1 b)

-- ---- the place of a byte

pub place-some : (a : ℕ) → start_of (area_of a) ≤ a → place_of a < area_size → byte_place a ≡ Some (area_of a, place_of a)
place-some a from below =
    let e : nat_le (start_of (area_of a)) a ≡ true = grind (arith, nat_tests, from) in
    let f : nat_lt (place_of a) area_size ≡ true = grind (arith, nat_tests, below) in
    ap (λ (t : Bool). if◌then◌else◌ {A = Option (Area × ℕ)} (t && nat_lt (place_of a) area_size) (Some (area_of a, place_of a)) None) e ∙ ap (λ (t : Bool). if◌then◌else◌ {A = Option (Area × ℕ)} t (Some (area_of a, place_of a)) None) f

pub place-none : (a : ℕ) → (a < start_of (area_of a)) ⊎ (area_size ≤ place_of a) → byte_place a ≡ None
place-none a (inl low) =
    let e : nat_le (start_of (area_of a)) a ≡ false = grind (arith, nat_tests, low) in
    ap (λ (t : Bool). if◌then◌else◌ {A = Option (Area × ℕ)} (t && nat_lt (place_of a) area_size) (Some (area_of a, place_of a)) None) e
place-none a (inr far) = by_test (nat_le (start_of (area_of a)) a)
  where
    off : nat_lt (place_of a) area_size ≡ false
    off = grind (arith, nat_tests, far)

    by_test : (t : Bool) → if◌then◌else◌ {A = Option (Area × ℕ)} (t && nat_lt (place_of a) area_size) (Some (area_of a, place_of a)) None ≡ None
    by_test false = refl
    by_test true = ap (λ (t : Bool). if◌then◌else◌ {A = Option (Area × ℕ)} t (Some (area_of a, place_of a)) None) off

-- an address that is no word of 64 bits
pub place-past : (a : ℕ) → 18446744073709551616 ≤ a → byte_place a ≡ None
place-past a past = place-none a (inr (let e = is-heap a (omega (arith, past)) in rw e (omega (arith, past))))

-- ---- a byte put there

pub byte-seen : (mem : Memory) (a b : ℕ) → IsWhole mem → (o : Option (Area × ℕ)) → byte_place a ≡ o → with_byte o b mem ≡ view mem (one_byte a b)
byte-seen mem a b whole o e = ap (λ (o : Option (Area × ℕ)). with_byte o b mem) (sym e) ∙ by_place (cases_lt a (start_of (area_of a))) (cases_lt (place_of a) area_size)
  where
    by_place : (a < start_of (area_of a)) ⊎ (start_of (area_of a) ≤ a) → (place_of a < area_size) ⊎ (area_size ≤ place_of a) → with_byte (byte_place a) b mem ≡ view mem (one_byte a b)
    by_place (inl low) other = ap (λ (o : Option (Area × ℕ)). with_byte o b mem) (place-none a (inl low)) ∙ byte-nowhere mem a b whole (inl low)
    by_place (inr from) (inr far) = ap (λ (o : Option (Area × ℕ)). with_byte o b mem) (place-none a (inr far)) ∙ byte-nowhere mem a b whole (inr far)
    by_place (inr from) (inl below) = ap (λ (o : Option (Area × ℕ)). with_byte o b mem) (place-some a from below) ∙ byte-put mem a b whole from below

-- ---- the bytes of an access

pub bytes-there : (mem : Memory) (a n : ℕ) (area : Area) (at : ℕ) → place_of_access mem.places a n ≡ Some (area, at) → Some (take (at + n - at) (drop at (bytes_in mem area))) ≡ bytes_of mem a n
bytes-there mem a n area at e = by_test (is_valid mem.places a n) e
  where
    by_test : (valid : Bool) → if◌then◌else◌ {A = Option (Area × ℕ)} valid (Some (area_of a, place_of a)) None ≡ Some (area, at)
        → Some (take (at + n - at) (drop at (bytes_in mem area))) ≡ (if valid then Some (take n (drop (place_of a) (bytes_in mem (area_of a)))) else None)
    by_test false e = cc
    by_test true e =
        let p = some_pair_parts (area_of a) area (place_of a) at e in
        let count : at + n - at ≡ n = omega arith in
        rw (count, ← p.0, ← p.1) refl
