-- What was written, byte by byte: of one word, once a word was stored besides, and over the bytes of an area.
use Rattle.std.proofs.Common.{◌≡◌, ◌∙◌, ℕ, zero, suc, ◌+◌, ◌-◌, ◌<◌, ◌≤◌, Bool, true, false, List, [], ◌∷◌, length, Option, Some, None, slice_get, slice_index, refl, sym, ap, arith, inl, inr}
use Rattle.std.specs.Prelude.{◌⊎◌, nat_le, unwrap_or}
use Rattle.std.specs.Option.{option_map, option_or}
use Rattle.std.proofs.lemmas.Bool.{cases_lt}
use Rattle.std.proofs.lemmas.Bool.Decides.{nat_tests}
use Rattle.std.proofs.lemmas.List.{ext_get_or}
use Rattle.std.proofs.lemmas.Option.{slice_get-get_or, slice_get_past}
use Rattle.byteorder.specs.Endian.{little_bytes}
use Rattle.byteorder.specs.Numbers.{length-bytes_low_first}
use Rattle.mem_image.specs.Bytes.{with_word}
use Rattle.mem_image.specs.Views.{Written, nothing_written, only_if, byte_of, stored, overlaid}
use Rattle.mem_image.proofs.Words.{length_with_word, byte-apart, byte-inside}

-- ---- a word

-- it has its bytes, and no others
pub byte-of_word : (a n word at : ℕ) → a ≤ at → at < a + n → byte_of a n word at ≡ Some (slice_index (little_bytes n word) (at - a))
byte-of_word a n word at from below =
    let test : nat_le a at ≡ true = grind (arith, nat_tests) in
    let count : length (little_bytes n word) ≡ n = length-bytes_low_first 0 n word in
    ap (λ (b : Bool). only_if b (slice_get (little_bytes n word) (at - a))) test
    ∙ slice_get-get_or (little_bytes n word) (at - a) 0 (omega (arith, count, from, below))

pub byte-of_none : (a n word at : ℕ) → (at < a) ⊎ (a + n ≤ at) → byte_of a n word at ≡ None
byte-of_none a n word at (inl before) =
    let test : nat_le a at ≡ false = grind (arith, nat_tests) in
    ap (λ (b : Bool). only_if b (slice_get (little_bytes n word) (at - a))) test
byte-of_none a n word at (inr after) =
    let test : nat_le a at ≡ true = grind (arith, nat_tests) in
    let count : length (little_bytes n word) ≡ n = length-bytes_low_first 0 n word in
    ap (λ (b : Bool). only_if b (slice_get (little_bytes n word) (at - a))) test
    ∙ slice_get_past (little_bytes n word) (at - a) (omega (arith, count, after))

-- ---- a word stored besides

pub stored-apart : (written : Written) (a n word at : ℕ) → (at < a) ⊎ (a + n ≤ at) → stored written a n word at ≡ written at
stored-apart written a n word at apart = ap (λ (o : Option ℕ). option_or o (written at)) (byte-of_none a n word at apart)

pub stored-inside : (written : Written) (a n word at : ℕ) → a ≤ at → at < a + n → stored written a n word at ≡ Some (slice_index (little_bytes n word) (at - a))
stored-inside written a n word at from below = ap (λ (o : Option ℕ). option_or o (written at)) (byte-of_word a n word at from below)

-- ---- the bytes of an area

pub length-overlaid : (written : Written) (at : ℕ) (bs : List ℕ) → length (overlaid written at bs) ≡ length bs
length-overlaid written at [] = refl
length-overlaid written at (b ∷ bs) = ap suc (length-overlaid written (suc at) bs)

-- each byte is the written one, or else what was there
pub overlaid-get : (written : Written) (at : ℕ) (bs : List ℕ) (i : ℕ)
    → slice_get (overlaid written at bs) i ≡ option_map (unwrap_or (written (at + i))) (slice_get bs i)
overlaid-get written at [] i = refl
overlaid-get written at (b ∷ bs) zero = let e : at ≡ at + 0 = omega arith in ap (λ (x : ℕ). Some (unwrap_or (written x) b)) e
overlaid-get written at (b ∷ bs) (suc i) =
    let e : suc at + i ≡ at + suc i = omega arith in
    overlaid-get written (suc at) bs i ∙ ap (λ (x : ℕ). option_map (unwrap_or (written x)) (slice_get bs i)) e

pub overlaid-at : (written : Written) (at : ℕ) (bs : List ℕ) (i : ℕ) → i < length bs → slice_index (overlaid written at bs) i ≡ unwrap_or (written (at + i)) (slice_index bs i)
overlaid-at written at [] i below = absurd (omega (arith, below))
overlaid-at written at (b ∷ bs) zero below = let e : at ≡ at + 0 = omega arith in ap (λ (x : ℕ). unwrap_or (written x) b) e
overlaid-at written at (b ∷ bs) (suc i) below =
    let e : suc at + i ≡ at + suc i = omega arith in
    overlaid-at written (suc at) bs i (omega (arith, below)) ∙ ap (λ (x : ℕ). unwrap_or (written x) (slice_index bs i)) e

pub overlaid-nothing : (at : ℕ) (bs : List ℕ) → overlaid nothing_written at bs ≡ bs
overlaid-nothing at [] = refl
overlaid-nothing at (b ∷ bs) = ap (λ (rest : List ℕ). b ∷ rest) (overlaid-nothing (suc at) bs)

-- a word is stored among the bytes of an area
pub overlaid-stored : (written : Written) (start : ℕ) (bs : List ℕ) (a n word : ℕ) → start ≤ a → a - start + n ≤ length bs
    → overlaid (stored written a n word) start bs ≡ with_word (overlaid written start bs) (a - start) n word
overlaid-stored written start bs a n word from fits =
    ext_get_or 0 (overlaid (stored written a n word) start bs) (with_word (overlaid written start bs) (a - start) n word) lengths
    (λ j below. by_place j (omega (arith, below, count)) (cases_lt (start + j) a) (cases_lt (start + j) (a + n)))
  where
    count : length (overlaid (stored written a n word) start bs) ≡ length bs
    count = length-overlaid (stored written a n word) start bs

    old : length (overlaid written start bs) ≡ length bs
    old = length-overlaid written start bs

    inside : a - start + n ≤ length (overlaid written start bs)
    inside = omega (arith, old, fits)

    lengths : length (overlaid (stored written a n word) start bs) ≡ length (with_word (overlaid written start bs) (a - start) n word)
    lengths = count ∙ sym old ∙ sym (length_with_word (overlaid written start bs) (a - start) n word inside)

    beside : (j : ℕ) → j < length bs → (start + j < a) ⊎ (a + n ≤ start + j) → (j < a - start) ⊎ (a - start + n ≤ j)
        → slice_index (overlaid (stored written a n word) start bs) j ≡ slice_index (with_word (overlaid written start bs) (a - start) n word) j
    beside j below apart off = overlaid-at (stored written a n word) start bs j below
        ∙ ap (λ (o : Option ℕ). unwrap_or o (slice_index bs j)) (stored-apart written a n word (start + j) apart)
        ∙ sym (overlaid-at written start bs j below) ∙ sym (byte-apart (overlaid written start bs) (a - start) n word j inside off)

    by_place : (j : ℕ) → j < length bs → (start + j < a) ⊎ (a ≤ start + j) → (start + j < a + n) ⊎ (a + n ≤ start + j)
        → slice_index (overlaid (stored written a n word) start bs) j ≡ slice_index (with_word (overlaid written start bs) (a - start) n word) j
    by_place j below (inl less) other = beside j below (inl less) (inl (omega (arith, from, less)))
    by_place j below (inr more) (inr after) = beside j below (inr after) (inr (omega (arith, from, after)))
    by_place j below (inr more) (inl less) =
        let e : start + j - a ≡ j - (a - start) = omega (arith, from, more) in
        overlaid-at (stored written a n word) start bs j below
        ∙ ap (λ (o : Option ℕ). unwrap_or o (slice_index bs j)) (stored-inside written a n word (start + j) more less)
        ∙ ap (λ (k : ℕ). slice_index (little_bytes n word) k) e
        ∙ sym (byte-inside (overlaid written start bs) (a - start) n word j inside (omega (arith, from, more)) (omega (arith, from, less)))

-- and changes no byte of another
pub overlaid-elsewhere : (written : Written) (start : ℕ) (bs : List ℕ) (a n word : ℕ) → (a + n ≤ start) ⊎ (start + length bs ≤ a)
    → overlaid (stored written a n word) start bs ≡ overlaid written start bs
overlaid-elsewhere written start [] a n word apart = refl
overlaid-elsewhere written start (b ∷ bs) a n word (inl before) =
    ap (λ (o : Option ℕ). unwrap_or o b ∷ overlaid (stored written a n word) (suc start) bs) (stored-apart written a n word start (inr before))
    ∙ ap (λ (rest : List ℕ). unwrap_or (written start) b ∷ rest) (overlaid-elsewhere written (suc start) bs a n word (inl (omega (arith, before))))
overlaid-elsewhere written start (b ∷ bs) a n word (inr after) =
    ap (λ (o : Option ℕ). unwrap_or o b ∷ overlaid (stored written a n word) (suc start) bs) (stored-apart written a n word start (inl (omega (arith, after))))
    ∙ ap (λ (rest : List ℕ). unwrap_or (written start) b ∷ rest) (overlaid-elsewhere written (suc start) bs a n word (inr (omega (arith, after))))
