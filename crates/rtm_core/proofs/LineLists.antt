-- Lines with their buffers: one is opened, a word is stored in one, and all are put into memory.
use Rattle.std.proofs.Common.{◌≡◌, ◌∙◌, ℕ, zero, suc, ◌+◌, ◌%◌, ◌<◌, ◌≤◌, Bool, true, false, ◌||◌, List, [], ◌∷◌, ◌++◌, map, length, set, drop, take, Option, Some, None, is_some, slice_get, slice_index, get_or, cond, nat_eq, nat_lt, refl, sym, ap, arith, length-append, replicate}
use Rattle.std.specs.Prelude.{unwrap_or}
use Rattle.std.specs.List.{find, position_or_len}
use Rattle.std.specs.Option.{option_and_then, option_flatten}
use Rattle.std.proofs.lemmas.Bool.{eqb-true, eqb-false}
use Rattle.std.proofs.lemmas.Bool.Decides.{nat_tests}
use Rattle.std.proofs.lemmas.List.{length-take, length-drop, length-map}
use Rattle.std.proofs.lemmas.List.Quantifiers.{position-Some}
use Rattle.std.proofs.Math.ListN.{length-set}
use Rattle.std.proofs.Math.Seq.{get_or-append_seam}
use Rattle.std.proofs.lemmas.List.Sums.{position_or_len_is}
use Rattle.byteorder.specs.Endian.{little_bytes}
use Rattle.byteorder.specs.Numbers.{length-bytes_low_first}
use Rattle.line_sets.specs.Sets.{has, place_in, with_member, added_unless, takes}
use Rattle.line_sets.proofs.Chains.{has-place}
use Rattle.mem_image.specs.Bytes.{Memory}
use Rattle.mem_image.specs.Lines.{Line, AreLines, line_size, line_of, numbers, blank, is_open, opened, opened_unless, marked_with, stored_if, lines_with, written_in}
use Rattle.mem_image.specs.Views.{view}
use Rattle.mem_image.proofs.OneByte.{view-twice}
use Rattle.rtm_core.specs.code.Slots.{lines_of, held_in, HasBuffers}

abbrev pub Buffers : Type 0
Buffers = List (List (Option ℕ))

abbrev pub line_with : ℕ → List (Option ℕ) → Line
line_with number buffer = record { number = number; bytes = buffer }

-- what a line, if there is one, has at an address
abbrev byte_of : ℕ → Option Line → Option ℕ
byte_of at line = option_and_then (λ line. option_flatten (slice_get line.bytes (at % line_size))) line

same-eq : (m n : ℕ) → nat_eq m n ≡ nat_eq n m
same-eq m n = by_test (nat_eq m n) refl
  where
    by_test : (b : Bool) → nat_eq m n ≡ b → nat_eq m n ≡ nat_eq n m
    by_test true e = let is = eqb-true m n e in grind (arith, nat_tests, is)
    by_test false e = let off = eqb-false m n e in grind (arith, nat_tests, off)

pub numbers-of : (ns : List ℕ) (bs : Buffers) → length ns ≤ length bs → numbers (lines_of ns bs) ≡ ns
numbers-of [] bs few = refl
numbers-of (n ∷ ns) [] few = absurd (omega (arith, few))
numbers-of (n ∷ ns) (b ∷ bs) few = ap (λ (more : List ℕ). n ∷ more) (numbers-of ns bs (omega (arith, few)))

-- a line is open where its number is among them
pub open-has : (ns : List ℕ) (bs : Buffers) (n : ℕ) → length ns ≤ length bs → is_open (lines_of ns bs) n ≡ has ns n
open-has [] bs n few = refl
open-has (m ∷ ns) [] n few = absurd (omega (arith, few))
open-has (m ∷ ns) (b ∷ bs) n few = rw (same-eq m n, open-has ns bs n (omega (arith, few))) refl

-- ---- the place of a number

pub record IsFirst (ns : List ℕ) (n i : ℕ) : Type 0 where
  pub within : i < length ns
  pub here : nat_eq n (slice_index ns i) ≡ true
  pub before : (k : ℕ) → k < i → nat_eq n (slice_index ns k) ≡ false

pub is-first : (ns : List ℕ) (n i : ℕ) → place_in ns n ≡ Some i → IsFirst ns n i
is-first ns n i e = let h = position-Some (nat_eq n) ns i 0 e in record { within = h.0; here = h.1; before = h.2 }

later : (m : ℕ) (ns : List ℕ) (n i : ℕ) → IsFirst (m ∷ ns) n (suc i) → IsFirst ns n i
later m ns n i first = record { within = omega (arith, first.within); here = first.here; before = λ k less. first.before (suc k) (omega (arith, less)) }

pub place-none : (ns : List ℕ) (n : ℕ) → place_in ns n ≡ None → has ns n ≡ false
place-none ns n e = sym (has-place ns n) ∙ ap is_some e

-- ---- a line is opened

pub opened-same : (ns : List ℕ) (bs : Buffers) (n i : ℕ) → length ns ≤ length bs → place_in ns n ≡ Some i → lines_of ns bs ≡ opened (lines_of ns bs) n
opened-same ns bs n i few at =
    let e : is_open (lines_of ns bs) n ≡ true = open-has ns bs n few ∙ sym (has-place ns n) ∙ ap is_some at in
    sym (ap (λ (b : Bool). opened_unless b (lines_of ns bs) n) e)

lines-opened : (ns : List ℕ) (bs : Buffers) (n : ℕ) → length ns < length bs → lines_of (ns ++ n ∷ []) (set bs (length ns) (replicate line_size None)) ≡ lines_of ns bs ++ blank n ∷ []
lines-opened [] [] n room = absurd (omega (arith, room))
lines-opened [] (b ∷ bs) n room = refl
lines-opened (m ∷ ns) [] n room = absurd (omega (arith, room))
lines-opened (m ∷ ns) (b ∷ bs) n room = ap (λ (more : List Line). line_with m b ∷ more) (lines-opened ns bs n (omega (arith, room)))

pub opened-new : (ns : List ℕ) (bs : Buffers) (n : ℕ) → length ns < length bs → has ns n ≡ false
    → lines_of (ns ++ n ∷ []) (set bs (length ns) (replicate line_size None)) ≡ opened (lines_of ns bs) n
opened-new ns bs n room none =
    let e : is_open (lines_of ns bs) n ≡ false = open-has ns bs n (omega (arith, room)) ∙ none in
    lines-opened ns bs n room ∙ sym (ap (λ (b : Bool). opened_unless b (lines_of ns bs) n) e)

pub room-left : (ns : List ℕ) (n : ℕ) → takes 512 ns n ≡ true → has ns n ≡ false → length ns < 512
room-left ns n room none = let e : nat_lt (length ns) 512 ≡ true = sym (ap (λ (b : Bool). b || nat_lt (length ns) 512) none) ∙ room in grind (arith, nat_tests, e)

pub new-member : (ns : List ℕ) (n : ℕ) → has ns n ≡ false → with_member ns n ≡ ns ++ n ∷ []
new-member ns n none = ap (λ (b : Bool). added_unless b ns n) none

-- ---- a word is stored

stored-off : (ns : List ℕ) (bs : Buffers) (a n w : ℕ) → is_open (lines_of ns bs) (line_of a) ≡ false → lines_with (lines_of ns bs) a n w ≡ lines_of ns bs
stored-off [] bs a n w none = refl
stored-off (m ∷ ns) [] a n w none = refl
stored-off (m ∷ ns) (b ∷ bs) a n w none = by_test (nat_eq m (line_of a)) refl (stored-off ns bs a n w)
  where
    by_test : (t : Bool) → nat_eq m (line_of a) ≡ t → (is_open (lines_of ns bs) (line_of a) ≡ false → lines_with (lines_of ns bs) a n w ≡ lines_of ns bs)
        → lines_with (line_with m b ∷ lines_of ns bs) a n w ≡ line_with m b ∷ lines_of ns bs
    by_test true e rest = let no : true ≡ false = sym (ap (λ (t : Bool). t || is_open (lines_of ns bs) (line_of a)) e) ∙ none in absurd cc
    by_test false e rest =
        let none_left : is_open (lines_of ns bs) (line_of a) ≡ false = sym (ap (λ (t : Bool). t || is_open (lines_of ns bs) (line_of a)) e) ∙ none in
        ap (λ (t : Bool). stored_if t (line_with m b) a n w ∷ lines_with (lines_of ns bs) a n w) e ∙ ap (λ (more : List Line). line_with m b ∷ more) (rest none_left)

pub lines-stored : (ns : List ℕ) (bs : Buffers) (a n w i : ℕ) → length ns ≤ length bs → AreLines (lines_of ns bs) → IsFirst ns (line_of a) i
    → lines_with (lines_of ns bs) a n w ≡ lines_of ns (set bs i (marked_with (get_or bs i []) (a % line_size) n w))
lines-stored [] bs a n w i few all first = absurd (omega (arith, first.within))
lines-stored (m ∷ ns) [] a n w i few all first = absurd (omega (arith, few))
lines-stored (m ∷ ns) (b ∷ bs) a n w zero few all first =
    let is : line_of a ≡ m = eqb-true (line_of a) m first.here in
    let e : nat_eq m (line_of a) ≡ true = same-eq m (line_of a) ∙ first.here in
    let none : is_open (lines_of ns bs) (line_of a) ≡ false = ap (is_open (lines_of ns bs)) is ∙ all.1 in
    ap (λ (t : Bool). stored_if t (line_with m b) a n w ∷ lines_with (lines_of ns bs) a n w) e
    ∙ ap (λ (more : List Line). line_with m (marked_with b (a % line_size) n w) ∷ more) (stored-off ns bs a n w none)
lines-stored (m ∷ ns) (b ∷ bs) a n w (suc i) few all first =
    let e : nat_eq m (line_of a) ≡ false = same-eq m (line_of a) ∙ first.before 0 (omega arith) in
    ap (λ (t : Bool). stored_if t (line_with m b) a n w ∷ lines_with (lines_of ns bs) a n w) e
    ∙ ap (λ (more : List Line). line_with m b ∷ more) (lines-stored ns bs a n w i (omega (arith, few)) all.2 (later m ns (line_of a) i first))

open-set : (ns : List ℕ) (bs : Buffers) (i m : ℕ) (b : List (Option ℕ)) → is_open (lines_of ns (set bs i b)) m ≡ is_open (lines_of ns bs) m
open-set [] bs i m b = refl
open-set (n ∷ ns) [] i m b = refl
open-set (n ∷ ns) (c ∷ bs) zero m b = refl
open-set (n ∷ ns) (c ∷ bs) (suc i) m b = ap (λ (t : Bool). nat_eq n m || t) (open-set ns bs i m b)

pub lines-set : (ns : List ℕ) (bs : Buffers) (i : ℕ) (b : List (Option ℕ)) → AreLines (lines_of ns bs) → length b ≡ line_size → AreLines (lines_of ns (set bs i b))
lines-set [] bs i b all long = tt
lines-set (n ∷ ns) [] i b all long = tt
lines-set (n ∷ ns) (c ∷ bs) zero b all long = (long, all.1, all.2)
lines-set (n ∷ ns) (c ∷ bs) (suc i) b all long = (all.0, open-set ns bs i n b ∙ all.1, lines-set ns bs i b all.2 long)

pub length-marked : (b : List (Option ℕ)) (at n w : ℕ) → length b ≡ line_size → at + n ≤ line_size → length (marked_with b at n w) ≡ line_size
length-marked b at n w long fits =
    let word : List (Option ℕ) = map Some (little_bytes n w) in
    let count : length word ≡ n = length-map (little_bytes n w) Some ∙ length-bytes_low_first 0 n w in
    length-append (take at b ++ word) (drop (at + n) b) ∙ ap (λ (m : ℕ). m + length (drop (at + n) b)) (length-append (take at b) word)
    ∙ omega (arith, long, fits, count, length-take at b, length-drop (at + n) b)

pub buffer-long : (ns : List ℕ) (bs : Buffers) (i : ℕ) → i < length ns → length ns ≤ length bs → AreLines (lines_of ns bs) → length (get_or bs i []) ≡ line_size
buffer-long [] bs i less few all = absurd (omega (arith, less))
buffer-long (n ∷ ns) [] i less few all = absurd (omega (arith, few))
buffer-long (n ∷ ns) (b ∷ bs) zero less few all = all.0
buffer-long (n ∷ ns) (b ∷ bs) (suc i) less few all = buffer-long ns bs i (omega (arith, less)) (omega (arith, few)) all.2

-- ---- what was written

pub bytes-at : (ns : List ℕ) (bs : Buffers) (n i at : ℕ) → length ns ≤ length bs → IsFirst ns n i → line_of at ≡ n → written_in (lines_of ns bs) at ≡ held_in (get_or bs i []) (at % line_size)
bytes-at [] bs n i at few first is = absurd (omega (arith, first.within))
bytes-at (m ∷ ns) [] n i at few first is = absurd (omega (arith, few))
bytes-at (m ∷ ns) (b ∷ bs) n zero at few first is =
    let e : nat_eq m (line_of at) ≡ true = ap (nat_eq m) is ∙ same-eq m n ∙ first.here in
    ap (λ (t : Bool). byte_of at (cond t (Some (line_with m b)) (find (λ line. nat_eq line.number (line_of at)) (lines_of ns bs)))) e
bytes-at (m ∷ ns) (b ∷ bs) n (suc i) at few first is =
    let e : nat_eq m (line_of at) ≡ false = ap (nat_eq m) is ∙ same-eq m n ∙ first.before 0 (omega arith) in
    ap (λ (t : Bool). byte_of at (cond t (Some (line_with m b)) (find (λ line. nat_eq line.number (line_of at)) (lines_of ns bs)))) e
    ∙ bytes-at ns bs n i at (omega (arith, few)) (later m ns n i first) is

pub bytes-none : (lines : List Line) (at : ℕ) → is_open lines (line_of at) ≡ false → written_in lines at ≡ None
bytes-none [] at none = refl
bytes-none (l ∷ lines) at none = by_test (nat_eq l.number (line_of at)) refl (bytes-none lines at)
  where
    by_test : (t : Bool) → nat_eq l.number (line_of at) ≡ t → (is_open lines (line_of at) ≡ false → written_in lines at ≡ None)
        → byte_of at (cond (nat_eq l.number (line_of at)) (Some l) (find (λ line. nat_eq line.number (line_of at)) lines)) ≡ None
    by_test true e rest = let no : true ≡ false = sym (ap (λ (t : Bool). t || is_open lines (line_of at)) e) ∙ none in absurd cc
    by_test false e rest =
        ap (λ (t : Bool). byte_of at (cond t (Some l) (find (λ line. nat_eq line.number (line_of at)) lines))) e
        ∙ rest (sym (ap (λ (t : Bool). t || is_open lines (line_of at)) e) ∙ none)

-- ---- lines one after the other

pub drop-lines : (ns : List ℕ) (bs : Buffers) (i : ℕ) → i < length ns → length ns ≤ length bs → drop i (lines_of ns bs) ≡ line_with (slice_index ns i) (get_or bs i []) ∷ drop (suc i) (lines_of ns bs)
drop-lines [] bs i less few = absurd (omega (arith, less))
drop-lines (n ∷ ns) [] i less few = absurd (omega (arith, few))
drop-lines (n ∷ ns) (b ∷ bs) zero less few = refl
drop-lines (n ∷ ns) (b ∷ bs) (suc i) less few = drop-lines ns bs i (omega (arith, less)) (omega (arith, few))

pub are-left : (lines : List Line) (i : ℕ) → AreLines lines → AreLines (drop i lines)
are-left lines zero all = all
are-left [] (suc i) all = tt
are-left (l ∷ lines) (suc i) all = are-left lines i all.2

pub committed : (mem : Memory) (line : Line) (lines : List Line) → is_open lines line.number ≡ false
    → view (view mem (written_in (line ∷ []))) (written_in lines) ≡ view mem (written_in (line ∷ lines))
committed mem line lines none = view-twice mem (written_in (line ∷ [])) (written_in lines) (written_in (line ∷ lines)) (λ at old. by_test at old (nat_eq line.number (line_of at)) refl)
  where
    byte : (t : Bool) → Option Line → (at : ℕ) → Option ℕ
    byte t rest at = byte_of at (cond t (Some line) rest)

    by_test : (at old : ℕ) → (t : Bool) → nat_eq line.number (line_of at) ≡ t
        → unwrap_or (written_in lines at) (unwrap_or (byte (nat_eq line.number (line_of at)) None at) old) ≡ unwrap_or (byte (nat_eq line.number (line_of at)) (find (λ line. nat_eq line.number (line_of at)) lines) at) old
    by_test at old true e =
        let is = eqb-true line.number (line_of at) e in
        let off : written_in lines at ≡ None = bytes-none lines at (ap (is_open lines) (sym is) ∙ none) in
        rw (e, off) refl
    by_test at old false e = rw e refl

pub length-lines : (ns : List ℕ) (bs : Buffers) → length ns ≤ length bs → length (lines_of ns bs) ≡ length ns
length-lines [] bs few = refl
length-lines (n ∷ ns) [] few = absurd (omega (arith, few))
length-lines (n ∷ ns) (b ∷ bs) few = ap suc (length-lines ns bs (omega (arith, few)))

pub place-last : (ns : List ℕ) (n : ℕ) → has ns n ≡ false → place_in (ns ++ n ∷ []) n ≡ Some (length ns)
place-last ns n none = grind (arith, nat_tests, first, count)
  where
    count : length (ns ++ n ∷ []) ≡ length ns + 1
    count = length-append ns (n ∷ [])

    off : (ms : List ℕ) → has ms n ≡ false → (k : ℕ) → k < length ms → nat_eq n (get_or (ms ++ n ∷ []) k 0) ≡ false
    off [] e k less = absurd (omega (arith, less))
    off (m ∷ ms) e zero less = first-of (nat_eq n m) (has ms n) e
      where
        first-of : (b c : Bool) → (b || c) ≡ false → b ≡ false
        first-of true c e = e
        first-of false c e = refl
    off (m ∷ ms) e (suc k) less = off ms (rest-of (nat_eq n m) (has ms n) e) k (omega (arith, less))
      where
        rest-of : (b c : Bool) → (b || c) ≡ false → c ≡ false
        rest-of true c e = absurd cc
        rest-of false c e = e

    last : nat_eq n (get_or (ns ++ n ∷ []) (length ns) 0) ≡ true
    last = let e : get_or (ns ++ n ∷ []) (length ns) 0 ≡ n = get_or-append_seam ns n [] 0 in grind (arith, nat_tests, e)

    first : position_or_len (nat_eq n) (ns ++ n ∷ []) ≡ length ns
    first = position_or_len_is (nat_eq n) (ns ++ n ∷ []) (length ns) 0 (omega (arith, count)) (λ k less. off ns none k less) (λ _. last)

-- a new line's lists show the lines with that one opened
pub with-new : (ws new : List ℕ) (bs : Buffers) (n i : ℕ) (buffer : List (Option ℕ)) → HasBuffers ws bs → has ws n ≡ false → takes 512 ws n ≡ true → new ≡ with_member ws n → i ≡ length ws
    → buffer ≡ replicate line_size None → lines_of new (set bs i buffer) ≡ opened (lines_of ws bs) n
with-new ws new bs n i buffer all none room is place fresh =
    ap (λ (ns : List ℕ). lines_of ns (set bs i buffer)) (is ∙ new-member ws n none) ∙ ap (λ (j : ℕ). lines_of (ws ++ n ∷ []) (set bs j buffer)) place
    ∙ ap (λ (b : List (Option ℕ)). lines_of (ws ++ n ∷ []) (set bs (length ws) b)) fresh
    ∙ opened-new ws bs n (omega (arith, room-left ws n room none, all.count)) none

-- a word is put into the buffer of its line
pub word-put : (ws vs : List ℕ) (bs cs : Buffers) (a n w i : ℕ) (b new : List (Option ℕ)) → length vs ≤ length cs → AreLines (lines_of vs cs) → lines_of vs cs ≡ opened (lines_of ws bs) (line_of a)
    → place_in vs (line_of a) ≡ Some i → b ≡ get_or cs i [] → new ≡ marked_with b (a % line_size) n w → lines_of vs (set cs i new) ≡ lines_with (opened (lines_of ws bs) (line_of a)) a n w
word-put ws vs bs cs a n w i b new few all lines place is put =
    ap (λ (x : List (Option ℕ)). lines_of vs (set cs i x)) (put ∙ ap (λ (x : List (Option ℕ)). marked_with x (a % line_size) n w) is)
    ∙ sym (lines-stored vs cs a n w i few all (is-first vs (line_of a) i place)) ∙ ap (λ (more : List Line). lines_with more a n w) lines

pub buffers-put : (vs : List ℕ) (cs : Buffers) (a n w i : ℕ) (b new : List (Option ℕ)) → HasBuffers vs cs → length vs ≤ length cs → place_in vs (line_of a) ≡ Some i → b ≡ get_or cs i []
    → a % line_size + n ≤ line_size → new ≡ marked_with b (a % line_size) n w → HasBuffers vs (set cs i new)
buffers-put vs cs a n w i b new all few place is fits put =
    let first = is-first vs (line_of a) i place in
    let long : length b ≡ line_size = ap length is ∙ buffer-long vs cs i first.within few all.lines in
    record {
      count = length-set cs i new ∙ all.count;
      few = all.few;
      lines = lines-set vs cs i new all.lines (ap length put ∙ length-marked b (a % line_size) n w long fits);
    }
