-- Buffers: a word is put there byte by byte, a word is seen through one, and one is put into memory byte by byte.
use Rattle.std.proofs.Common.{◌≡◌, ◌≢◌, ◌∙◌, ℕ, zero, suc, ◌+◌, ◌*◌, ◌%◌, ◌^◌, ◌<◌, ◌≤◌, Bool, true, false, List, [], ◌∷◌, ◌++◌, length, map, take, drop, set, Option, Some, None, slice_index, get_or, nat_eq, nat_le, refl, sym, ap, subst, arith}
use Rattle.std.specs.Prelude.{unwrap_or}
use Rattle.std.specs.Int.{byte_at, bytes_low_first}
use Rattle.std.proofs.Math.Nat.{pow-suc}
use Rattle.std.proofs.lemmas.Bool.{eqb-true, eqb-false}
use Rattle.std.proofs.lemmas.Bool.Decides.{nat_tests}
use Rattle.std.proofs.lemmas.List.{take_all}
use Rattle.byteorder.specs.Endian.{little_bytes, little_from, little_number}
use Rattle.byteorder.specs.Numbers.{length-bytes_low_first}
use Rattle.mem_image.specs.declared.sizes.Size.{Size}
use Rattle.mem_image.specs.declared.sizes.Size.TheVariants.{S1, S2, S4, S8}
use Rattle.mem_image.specs.Accesses.{bytes}
use Rattle.mem_image.specs.Bytes.{Memory}
use Rattle.mem_image.specs.Lines.{Line, line_size, line_of, marked_with, written_in}
use Rattle.mem_image.specs.Views.{Written, nothing_written, one_byte, only_if, overlaid, view}
use Rattle.mem_image.proofs.Laws.{power_of_bytes}
use Rattle.mem_image.proofs.OneByte.{view-same, view-twice}
use Rattle.mem_image.proofs.ViewBytes.{overlaid-at}
use Rattle.mem_image.proofs.Views.{view-nothing}
use Rattle.mem_image.proofs.Words.{agree}
use Rattle.rtm_core.specs.code.Slots.{held_in}

-- ---- a word is put there

-- its first k bytes stand there
abbrev pub so_far : List (Option ℕ) → ℕ → ℕ → List ℕ → List (Option ℕ)
so_far buffer at k word = take at buffer ++ map Some (take k word) ++ drop (at + k) buffer

pub none-yet : (buffer : List (Option ℕ)) (at : ℕ) (word : List ℕ) → so_far buffer at 0 word ≡ buffer
none-yet [] zero word = refl
none-yet [] (suc at) word = let e : suc at + 0 ≡ suc at = omega arith in rw e refl
none-yet (b ∷ buffer) zero word = refl
none-yet (b ∷ buffer) (suc at) word = let e : suc at + 0 ≡ suc (at + 0) = omega arith in rw e (ap (λ (rest : List (Option ℕ)). b ∷ rest) (none-yet buffer at word))

one-more-here : (buffer : List (Option ℕ)) (k : ℕ) (word : List ℕ) → length word ≤ length buffer → k < length word
    → set (map Some (take k word) ++ drop k buffer) k (Some (slice_index word k)) ≡ map Some (take (suc k) word) ++ drop (suc k) buffer
one-more-here buffer k [] few less = absurd (omega (arith, less))
one-more-here [] k (w ∷ word) few less = absurd (omega (arith, few))
one-more-here (b ∷ buffer) zero (w ∷ word) few less = refl
one-more-here (b ∷ buffer) (suc k) (w ∷ word) few less = ap (λ (rest : List (Option ℕ)). Some w ∷ rest) (one-more-here buffer k word (omega (arith, few)) (omega (arith, less)))

one-more : (buffer : List (Option ℕ)) (at k : ℕ) (word : List ℕ) → at + length word ≤ length buffer → k < length word
    → set (so_far buffer at k word) (at + k) (Some (slice_index word k)) ≡ so_far buffer at (suc k) word
one-more buffer zero k word few less = let e : 0 + k ≡ k = omega arith in let f : 0 + suc k ≡ suc k = omega arith in rw (e, f) (one-more-here buffer k word (omega (arith, few)) less)
one-more [] (suc at) k word few less = absurd (omega (arith, few))
one-more (b ∷ buffer) (suc at) k word few less = let e : suc at + k ≡ suc (at + k) = omega arith in let f : suc at + suc k ≡ suc (at + suc k) = omega arith in rw (e, f) (ap (λ (rest : List (Option ℕ)). b ∷ rest) (one-more buffer at k word (omega (arith, few)) less))

low-byte : (i n v k : ℕ) → k < n → slice_index (bytes_low_first i n v) k ≡ byte_at (i + k) v
low-byte i zero v k less = absurd (omega (arith, less))
low-byte i (suc n) v zero less = let e : i ≡ i + 0 = omega arith in ap (λ (j : ℕ). byte_at j v) e
low-byte i (suc n) v (suc k) less = let e : suc i + k ≡ i + suc k = omega arith in low-byte (suc i) n v k (omega (arith, less)) ∙ ap (λ (j : ℕ). byte_at j v) e

pub next-byte : (old buffer : List (Option ℕ)) (at k n v : ℕ) → at + n ≤ length old → n ≤ 8 → k < n → buffer ≡ so_far old at k (little_bytes n v)
    → set buffer (at + k) (Some (slice_index (little_bytes 8 v) k)) ≡ so_far old at (k + 1) (little_bytes n v)
next-byte old buffer at k n v few most less is =
    let count : length (little_bytes n v) ≡ n = length-bytes_low_first 0 n v in
    let same : slice_index (little_bytes 8 v) k ≡ slice_index (little_bytes n v) k = low-byte 0 8 v k (omega (arith, less, most)) ∙ sym (low-byte 0 n v k less) in
    let next : suc k ≡ k + 1 = omega arith in
    ap (λ (bs : List (Option ℕ)). set bs (at + k) (Some (slice_index (little_bytes 8 v) k))) is
    ∙ ap (λ (b : ℕ). set (so_far old at k (little_bytes n v)) (at + k) (Some b)) same
    ∙ one-more old at k (little_bytes n v) (omega (arith, count, few)) (omega (arith, count, less))
    ∙ ap (λ (j : ℕ). so_far old at j (little_bytes n v)) next

pub all-bytes : (old : List (Option ℕ)) (at k n v : ℕ) → k ≡ n → so_far old at k (little_bytes n v) ≡ marked_with old at n v
all-bytes old at k n v e =
    let count : length (little_bytes n v) ≡ n = length-bytes_low_first 0 n v in
    ap (λ (j : ℕ). so_far old at j (little_bytes n v)) e
    ∙ ap (λ (bs : List ℕ). take at old ++ map Some bs ++ drop (at + n) old) (take_all n (little_bytes n v) (omega (arith, count)))

-- ---- it is put into memory

pub held-or : (buffer : List (Option ℕ)) (k : ℕ) → held_in buffer k ≡ get_or buffer k None
held-or [] k = refl
held-or (b ∷ buffer) zero = refl
held-or (b ∷ buffer) (suc k) = held-or buffer k

-- what is written from place k of a line on
abbrev pub rest_of : ℕ → ℕ → List (Option ℕ) → Written
rest_of number k buffer at = only_if (nat_eq number (line_of at)) (only_if (nat_le k (at % line_size)) (held_in buffer (at % line_size)))

abbrev line_with : ℕ → List (Option ℕ) → Line
line_with number buffer = record { number = number; bytes = buffer }

whole-line : (number : ℕ) (buffer : List (Option ℕ)) (at : ℕ) → rest_of number 0 buffer at ≡ written_in (line_with number buffer ∷ []) at
whole-line number buffer at = by_test (nat_eq number (line_of at)) refl
  where
    first : nat_le 0 (at % line_size) ≡ true
    first = grind (arith, nat_tests)

    by_test : (b : Bool) → nat_eq number (line_of at) ≡ b → rest_of number 0 buffer at ≡ written_in (line_with number buffer ∷ []) at
    by_test true e = rw (e, first) refl
    by_test false e = rw e refl

pub rest-whole : (mem : Memory) (number : ℕ) (buffer : List (Option ℕ)) → view mem (rest_of number 0 buffer) ≡ view mem (written_in (line_with number buffer ∷ []))
rest-whole mem number buffer = view-same mem (rest_of number 0 buffer) (written_in (line_with number buffer ∷ [])) (whole-line number buffer)

none-past : (number : ℕ) (buffer : List (Option ℕ)) (k at : ℕ) → line_size ≤ k → rest_of number k buffer at ≡ None
none-past number buffer k at past = by_test (nat_eq number (line_of at))
  where
    off : nat_le k (at % line_size) ≡ false
    off = grind (arith, nat_tests, past)

    by_test : (b : Bool) → only_if b (only_if (nat_le k (at % line_size)) (held_in buffer (at % line_size))) ≡ None
    by_test false = refl
    by_test true = ap (λ (b : Bool). only_if b (held_in buffer (at % line_size))) off

pub rest-none : (mem : Memory) (number k : ℕ) (buffer : List (Option ℕ)) → line_size ≤ k → view mem (rest_of number k buffer) ≡ mem
rest-none mem number k buffer past = view-same mem (rest_of number k buffer) nothing_written (λ at. none-past number buffer k at past) ∙ view-nothing mem

-- beside place k the rest from k on and that from k + 1 on are the same
beside : (number k : ℕ) (buffer : List (Option ℕ)) (at : ℕ) → at ≢ number * line_size + k → rest_of number (k + 1) buffer at ≡ rest_of number k buffer at
beside number k buffer at off = by_test (nat_eq number (line_of at)) refl
  where
    by_test : (b : Bool) → nat_eq number (line_of at) ≡ b → only_if b (only_if (nat_le (k + 1) (at % line_size)) (held_in buffer (at % line_size)))
        ≡ only_if b (only_if (nat_le k (at % line_size)) (held_in buffer (at % line_size)))
    by_test false e = refl
    by_test true e =
        let line : number ≡ line_of at = eqb-true number (line_of at) e in
        let other : at % line_size ≢ k = (λ is. off (omega (arith, line, is))) in
        let same : nat_le (k + 1) (at % line_size) ≡ nat_le k (at % line_size) = grind (arith, nat_tests, other) in
        ap (λ (t : Bool). only_if t (held_in buffer (at % line_size))) same

-- the place itself
here : (number k : ℕ) (buffer : List (Option ℕ)) → k < line_size → rest_of number k buffer (number * line_size + k) ≡ held_in buffer k
here number k buffer less =
    let line : line_of (number * line_size + k) ≡ number = omega (arith, less) in
    let place : (number * line_size + k) % line_size ≡ k = omega (arith, less) in
    let e : nat_eq number number ≡ true = grind (arith, nat_tests) in
    let f : nat_le k k ≡ true = grind (arith, nat_tests) in
    rw (line, place, e, f) refl

past-here : (number k : ℕ) (buffer : List (Option ℕ)) → k < line_size → rest_of number (k + 1) buffer (number * line_size + k) ≡ None
past-here number k buffer less =
    let line : line_of (number * line_size + k) ≡ number = omega (arith, less) in
    let place : (number * line_size + k) % line_size ≡ k = omega (arith, less) in
    let e : nat_eq number number ≡ true = grind (arith, nat_tests) in
    let f : nat_le (k + 1) k ≡ false = grind (arith, nat_tests) in
    rw (line, place, e, f) refl

pub rest-next : (mem : Memory) (number k byte : ℕ) (buffer : List (Option ℕ)) → k < line_size → held_in buffer k ≡ Some byte
    → view (view mem (one_byte (number * line_size + k) byte)) (rest_of number (k + 1) buffer) ≡ view mem (rest_of number k buffer)
rest-next mem number k byte buffer less is = view-twice mem (one_byte (number * line_size + k) byte) (rest_of number (k + 1) buffer) (rest_of number k buffer)
    (λ at old. by_test at old (nat_eq at (number * line_size + k)) refl)
  where
    at-place : (at old : ℕ) → at ≡ number * line_size + k → unwrap_or (rest_of number (k + 1) buffer at) byte ≡ unwrap_or (rest_of number k buffer at) old
    at-place at old e =
        ap (λ (x : ℕ). unwrap_or (rest_of number (k + 1) buffer x) byte) e ∙ ap (λ (o : Option ℕ). unwrap_or o byte) (past-here number k buffer less)
        ∙ ap (λ (o : Option ℕ). unwrap_or o old) (sym (here number k buffer less ∙ is)) ∙ ap (λ (x : ℕ). unwrap_or (rest_of number k buffer x) old) (sym e)

    by_test : (at old : ℕ) → (b : Bool) → nat_eq at (number * line_size + k) ≡ b
        → unwrap_or (rest_of number (k + 1) buffer at) (unwrap_or (only_if (nat_eq at (number * line_size + k)) (Some byte)) old) ≡ unwrap_or (rest_of number k buffer at) old
    by_test at old true e =
        ap (λ (t : Bool). unwrap_or (rest_of number (k + 1) buffer at) (unwrap_or (only_if t (Some byte)) old)) e ∙ at-place at old (eqb-true at (number * line_size + k) e)
    by_test at old false e =
        ap (λ (t : Bool). unwrap_or (rest_of number (k + 1) buffer at) (unwrap_or (only_if t (Some byte)) old)) e
        ∙ ap (λ (o : Option ℕ). unwrap_or o old) (beside number k buffer at (eqb-false at (number * line_size + k) e))

pub rest-skips : (mem : Memory) (number k : ℕ) (buffer : List (Option ℕ)) → k < line_size → held_in buffer k ≡ None
    → view mem (rest_of number (k + 1) buffer) ≡ view mem (rest_of number k buffer)
rest-skips mem number k buffer less is = view-same mem (rest_of number (k + 1) buffer) (rest_of number k buffer) (λ at. by_test at (nat_eq at (number * line_size + k)) refl)
  where
    by_test : (at : ℕ) → (b : Bool) → nat_eq at (number * line_size + k) ≡ b → rest_of number (k + 1) buffer at ≡ rest_of number k buffer at
    by_test at true e =
        let same = eqb-true at (number * line_size + k) e in
        ap (rest_of number (k + 1) buffer) same ∙ past-here number k buffer less ∙ sym (here number k buffer less ∙ is) ∙ ap (rest_of number k buffer) (sym same)
    by_test at false e = beside number k buffer at (eqb-false at (number * line_size + k) e)

-- ---- a word is seen through a buffer

pub word-seen : (buffer : List (Option ℕ)) (at : ℕ) (old word : List ℕ) (n : ℕ) → n ≡ length old
    → ((j : ℕ) → j < n → slice_index word j ≡ unwrap_or (held_in buffer (at + j)) (slice_index old j)) → little_number n word ≡ little_number (length old) (overlaid (held_in buffer) at old)
word-seen buffer at old word n count done = ap (λ (m : ℕ). little_number m word) count
    ∙ agree (length old) 0 word (overlaid (held_in buffer) at old) (λ k low less. done k (omega (arith, less, count)) ∙ sym (overlaid-at (held_in buffer) at old k (omega (arith, less))))

pub few-bytes : (size : Size) → bytes size ≤ 8
few-bytes S1 = omega arith
few-bytes S2 = omega arith
few-bytes S4 = omega arith
few-bytes S8 = omega arith

pub some-bytes : (size : Size) → 1 ≤ bytes size
some-bytes S1 = omega arith
some-bytes S2 = omega arith
some-bytes S4 = omega arith
some-bytes S8 = omega arith

-- ---- a word of bytes is below its size

little-below : (i n : ℕ) (xs : List ℕ) → ((j : ℕ) → i ≤ j → j < i + n → slice_index xs j < 256) → little_from i n xs < 256 ^ n
little-below i zero xs small = omega arith
little-below i (suc n) xs small =
    let first : slice_index xs i < 256 = small i (omega arith) (omega arith) in
    let rest : little_from (suc i) n xs < 256 ^ n = little-below (suc i) n xs (λ j e f. small j (omega (arith, e)) (omega (arith, f))) in
    let power : 256 ^ suc n ≡ 256 ^ n * 256 = pow-suc 256 n in
    omega (arith, first, rest, power)

pub word-below : (n : ℕ) (xs : List ℕ) → ((j : ℕ) → j < n → slice_index xs j < 256) → little_number n xs < 2 ^ (8 * n)
word-below n xs small = subst (λ (end : ℕ). little_number n xs < end) (power_of_bytes n) (little-below 0 n xs (λ j e f. small j (omega (arith, f))))
