-- Every valid access lies in the area of its address.
use Rattle.std.proofs.Common.{◌≡◌, ℕ, ◌+◌, ◌*◌, ◌<◌, ◌≤◌, List, [], ◌∷◌, refl, sym, ap, ◌∙◌, arith, true, false, ◌||◌}
use Rattle.std.specs.Prelude.{Bool, ◌&&◌, nat_lt, if◌then◌else◌}
use Rattle.std.specs.List.{list_all}
use Rattle.std.proofs.lemmas.Bool.Decides.{nat_tests}
use Rattle.ir_layout.specs.declared.spans.Span.{Span}
use Rattle.ir_layout.specs.Memory.{area_size, globals_start, stacks_start, heap_start, lies_in, lies_in_global, lies_in_stack, lies_in_heap, thread_of, is_access_size, is_valid}
use Rattle.mem_image.specs.declared.areas.Area.{Area}
use Rattle.mem_image.specs.declared.areas.Area.TheVariants.{Globals, Stacks, Heap}
use Rattle.mem_image.specs.Bytes.{area_of, start_of, place_of}

pub record IsInside (a n : ℕ) : Type 0 where
  pub start : start_of (area_of a) ≤ a
  pub end : place_of a + n ≤ area_size

lies-within : (span : Span) (a n : ℕ) → lies_in globals_start area_size span.start span.size ≡ true → lies_in span.start span.size a n ≡ true → lies_in globals_start area_size a n ≡ true
lies-within span a n outer inner = grind (arith, nat_tests)

in-globals : (places : List Span) (a n : ℕ) → list_all (λ (span : Span). lies_in globals_start area_size span.start span.size) places ≡ true → lies_in_global places a n ≡ true → lies_in globals_start area_size a n ≡ true
in-globals [] a n all any = cc
in-globals (s ∷ ss) a n all any = by_test (in-globals ss a n) (lies_in s.start s.size a n) refl (lies_in globals_start area_size s.start s.size) refl
  where
    by_test : (list_all (λ (span : Span). lies_in globals_start area_size span.start span.size) ss ≡ true → lies_in_global ss a n ≡ true → lies_in globals_start area_size a n ≡ true) → (b : Bool) → lies_in s.start s.size a n ≡ b → (o : Bool) → lies_in globals_start area_size s.start s.size ≡ o → lies_in globals_start area_size a n ≡ true
    by_test later true inner true outer = lies-within s a n outer inner
    by_test later b inner false outer = let e : false ≡ true = sym (ap (λ (o : Bool). o && list_all (λ (span : Span). lies_in globals_start area_size span.start span.size) ss) outer) ∙ all in cc
    by_test later false inner true outer = later (sym (ap (λ (o : Bool). o && list_all (λ (span : Span). lies_in globals_start area_size span.start span.size) ss) outer) ∙ all) (sym (ap (λ (b : Bool). b || lies_in_global ss a n) inner) ∙ any)

pub is-globals : (a : ℕ) → a < stacks_start → area_of a ≡ Globals
is-globals a below = let e : nat_lt a stacks_start ≡ true = grind (arith, nat_tests) in ap (λ (b : Bool). if b then Globals else if nat_lt a heap_start then Stacks else Heap) e

pub is-stacks : (a : ℕ) → stacks_start ≤ a → a < heap_start → area_of a ≡ Stacks
is-stacks a from below =
    let e : nat_lt a stacks_start ≡ false = grind (arith, nat_tests) in
    let f : nat_lt a heap_start ≡ true = grind (arith, nat_tests) in
    ap (λ (b : Bool). if b then Globals else if nat_lt a heap_start then Stacks else Heap) e ∙ ap (λ (b : Bool). if b then Stacks else Heap) f

pub is-heap : (a : ℕ) → heap_start ≤ a → area_of a ≡ Heap
is-heap a from =
    let e : nat_lt a stacks_start ≡ false = grind (arith, nat_tests) in
    let f : nat_lt a heap_start ≡ false = grind (arith, nat_tests) in
    ap (λ (b : Bool). if b then Globals else if nat_lt a heap_start then Stacks else Heap) e ∙ ap (λ (b : Bool). if b then Stacks else Heap) f

inside-at : (a n : ℕ) (area : Area) → area_of a ≡ area → start_of area ≤ a → a + n ≤ start_of area + area_size → IsInside a n
inside-at a n area e from to =
    let f : start_of (area_of a) ≡ start_of area = ap start_of e in
    record { start = omega (arith, f); end = omega (arith, f) }

inside-globals : (a n : ℕ) → lies_in globals_start area_size a n ≡ true → IsInside a n
inside-globals a n e =
    let from : 65536 ≤ a = grind (arith, nat_tests) in
    let to : a + n ≤ 1114112 = grind (arith, nat_tests) in
    inside-at a n Globals (is-globals a (omega arith)) from to

inside-stack : (a n : ℕ) → 0 < n → lies_in_stack a n ≡ true → IsInside a n
inside-stack a n some e =
    let thread : thread_of a < 64 = grind (arith, nat_tests) in
    let from : 16777216 + thread_of a * 16384 ≤ a = grind (arith, nat_tests) in
    let to : a + n ≤ 16777216 + thread_of a * 16384 + 16384 = grind (arith, nat_tests) in
    inside-at a n Stacks (is-stacks a (omega arith) (omega arith)) (omega arith) (omega arith)

inside-heap : (a n : ℕ) → lies_in_heap a n ≡ true → IsInside a n
inside-heap a n e =
    let from : 67108864 ≤ a = grind (arith, nat_tests) in
    let to : a + n ≤ 68157440 = grind (arith, nat_tests) in
    inside-at a n Heap (is-heap a from) from to

pub valid_inside : (places : List Span) (a n : ℕ) → list_all (λ (span : Span). lies_in globals_start area_size span.start span.size) places ≡ true → is_valid places a n ≡ true → IsInside a n
valid_inside places a n all valid =
    let size : is_access_size n ≡ true = grind (arith, nat_tests) in
    let some : 0 < n = grind (arith, nat_tests) in
    by_test (lies_in_global places a n) refl (lies_in_stack a n) refl (lies_in_heap a n) refl some
  where
    by_test : (g : Bool) → lies_in_global places a n ≡ g → (s : Bool) → lies_in_stack a n ≡ s → (h : Bool) → lies_in_heap a n ≡ h → 0 < n → IsInside a n
    by_test true g s is_s h is_h some = inside-globals a n (in-globals places a n all g)
    by_test false g true s h is_h some = inside-stack a n some s
    by_test false g false s true h some = inside-heap a n h
    by_test false g false s false h some = let e : is_valid places a n ≡ false = grind (arith, nat_tests, g, s, h) in absurd (cc)
