-- A word among the bytes of one area: written, read back, read beside a write, and two words written side by side.
use Rattle.std.proofs.Common.{◌≡◌, ℕ, zero, suc, ◌+◌, ◌-◌, ◌*◌, ◌^◌, ◌<◌, ◌≤◌, List, ◌++◌, length, take, drop, slice_index, refl, sym, ap, ◌∙◌, arith, inl, inr}
use Rattle.std.specs.Prelude.{◌⊎◌}
use Rattle.std.proofs.lemmas.Bool.{cases_lt}
use Rattle.std.proofs.lemmas.List.{append_assoc, drop_at, ext_get_or, get_or-drop, length-take-le}
use Rattle.byteorder.specs.Endian.{little_number, little_from, little_bytes}
use Rattle.byteorder.specs.Numbers.{length-bytes_low_first, little_number-reads_back}
use Rattle.mem_image.specs.Bytes.{word_at, with_word}
use Rattle.mem_image.proofs.Spliced.{length-spliced, spliced-apart, spliced-inside}

-- ---- each byte behind a write

bytes-of : (n v : ℕ) → length (little_bytes n v) ≡ n
bytes-of n v = length-bytes_low_first 0 n v

-- there are as many bytes as before
pub length_with_word : (bs : List ℕ) (at n v : ℕ) → at + n ≤ length bs → length (with_word bs at n v) ≡ length bs
length_with_word bs at n v inside = length-spliced bs at n (little_bytes n v) (bytes-of n v) inside

-- a byte beside the word is as before
pub byte-apart : (bs : List ℕ) (at n v j : ℕ) → at + n ≤ length bs → (j < at) ⊎ (at + n ≤ j) → slice_index (with_word bs at n v) j ≡ slice_index bs j
byte-apart bs at n v j inside apart = spliced-apart bs at n (little_bytes n v) (bytes-of n v) 0 j inside apart

-- a byte of the word is the word's, whatever stood there
pub byte-inside : (bs : List ℕ) (at n v j : ℕ) → at + n ≤ length bs → at ≤ j → j < at + n → slice_index (with_word bs at n v) j ≡ slice_index (little_bytes n v) (j - at)
byte-inside bs at n v j inside from below = spliced-inside bs at n (little_bytes n v) (bytes-of n v) 0 j inside from below

-- ---- a word read behind a write

-- what was written is read back
pub word_back : (bs : List ℕ) (at n v : ℕ) → at ≤ length bs → v < 256 ^ n → word_at (with_word bs at n v) at n ≡ v
word_back bs at n v inside fits =
    let e : length (take at bs) ≡ at = length-take-le at bs inside in
    ap (λ (xs : List ℕ). word_at xs at n) (append_assoc (take at bs) (little_bytes n v) (drop (at + n) bs))
    ∙ ap (little_number n) (drop_at (take at bs) (little_bytes n v ++ drop (at + n) bs) at e) ∙ little_number-reads_back n v (drop (at + n) bs) fits

-- the number in bytes that agree is the same
pub agree : (m i : ℕ) (xs ys : List ℕ) → ((k : ℕ) → i ≤ k → k < i + m → slice_index xs k ≡ slice_index ys k) → little_from i m xs ≡ little_from i m ys
agree zero i xs ys same = refl
agree (suc m) i xs ys same =
    ap (λ (b : ℕ). b + 256 * little_from (suc i) m xs) (same i (omega arith) (omega arith))
    ∙ ap (λ (r : ℕ). slice_index ys i + 256 * r) (agree m (suc i) xs ys (λ k low high. same k (omega arith) (omega arith)))

-- a word beside the one that was written is as before
pub word_apart : (bs : List ℕ) (at n v bt m : ℕ) → at + n ≤ length bs → (bt + m ≤ at) ⊎ (at + n ≤ bt) → word_at (with_word bs at n v) bt m ≡ word_at bs bt m
word_apart bs at n v bt m inside apart = agree m 0 (drop bt (with_word bs at n v)) (drop bt bs) (λ k low high. get_or-drop bt (with_word bs at n v) k 0 ∙ byte-apart bs at n v (bt + k) inside (side apart k high) ∙ sym (get_or-drop bt bs k 0))
  where
    side : (bt + m ≤ at) ⊎ (at + n ≤ bt) → (k : ℕ) → k < 0 + m → (bt + k < at) ⊎ (at + n ≤ bt + k)
    side (inl before) k high = inl (omega arith)
    side (inr behind) k high = inr (omega arith)

-- ---- two words written side by side

-- a byte of the word that is written first: the second write leaves it
byte-of_first : (bs : List ℕ) (at n v bt m w j : ℕ) → at + n ≤ length bs → bt + m ≤ length bs → (bt + m ≤ at) ⊎ (at + n ≤ bt) → at ≤ j → j < at + n → slice_index (with_word (with_word bs at n v) bt m w) j ≡ slice_index (with_word (with_word bs bt m w) at n v) j
byte-of_first bs at n v bt m w j in_a in_b apart from below =
    let e = length_with_word bs at n v in_a in
    let f = length_with_word bs bt m w in_b in
    byte-apart (with_word bs at n v) bt m w j (omega (arith, e)) (side apart) ∙ byte-inside bs at n v j in_a from below ∙ sym (byte-inside (with_word bs bt m w) at n v j (omega (arith, f)) from below)
  where
    side : (bt + m ≤ at) ⊎ (at + n ≤ bt) → (j < bt) ⊎ (bt + m ≤ j)
    side (inl before) = inr (omega arith)
    side (inr behind) = inl (omega arith)

-- a byte of neither word is as before
byte-of_none : (bs : List ℕ) (at n v bt m w j : ℕ) → at + n ≤ length bs → bt + m ≤ length bs → (j < at) ⊎ (at + n ≤ j) → (j < bt) ⊎ (bt + m ≤ j) → slice_index (with_word (with_word bs at n v) bt m w) j ≡ slice_index bs j
byte-of_none bs at n v bt m w j in_a in_b off_a off_b =
    let e = length_with_word bs at n v in_a in
    byte-apart (with_word bs at n v) bt m w j (omega (arith, e)) off_b ∙ byte-apart bs at n v j in_a off_a

-- the order of two writes side by side doesn't matter
pub words_commute : (bs : List ℕ) (at n v bt m w : ℕ) → at + n ≤ length bs → bt + m ≤ length bs → (bt + m ≤ at) ⊎ (at + n ≤ bt) → with_word (with_word bs at n v) bt m w ≡ with_word (with_word bs bt m w) at n v
words_commute bs at n v bt m w in_a in_b apart = ext_get_or 0 (with_word (with_word bs at n v) bt m w) (with_word (with_word bs bt m w) at n v) lengths (λ j _. by_place j (cases_lt j at) (cases_lt j (at + n)) (cases_lt j bt) (cases_lt j (bt + m)))
  where
    length_a : length (with_word bs at n v) ≡ length bs
    length_a = length_with_word bs at n v in_a

    length_b : length (with_word bs bt m w) ≡ length bs
    length_b = length_with_word bs bt m w in_b

    lengths : length (with_word (with_word bs at n v) bt m w) ≡ length (with_word (with_word bs bt m w) at n v)
    lengths = length_with_word (with_word bs at n v) bt m w (omega (arith, length_a)) ∙ length_a ∙ sym length_b ∙ sym (length_with_word (with_word bs bt m w) at n v (omega (arith, length_b)))

    swapped : (bt + m ≤ at) ⊎ (at + n ≤ bt) → (at + n ≤ bt) ⊎ (bt + m ≤ at)
    swapped (inl before) = inr before
    swapped (inr behind) = inl behind

    beside_a : (j : ℕ) → (j < at) ⊎ (at + n ≤ j) → (j < bt) ⊎ (bt ≤ j) → (j < bt + m) ⊎ (bt + m ≤ j) → slice_index (with_word (with_word bs at n v) bt m w) j ≡ slice_index (with_word (with_word bs bt m w) at n v) j
    beside_a j off_a (inl less) other = byte-of_none bs at n v bt m w j in_a in_b off_a (inl less) ∙ sym (byte-of_none bs bt m w at n v j in_b in_a (inl less) off_a)
    beside_a j off_a (inr from) (inr more) = byte-of_none bs at n v bt m w j in_a in_b off_a (inr more) ∙ sym (byte-of_none bs bt m w at n v j in_b in_a (inr more) off_a)
    beside_a j off_a (inr from) (inl below) = sym (byte-of_first bs bt m w at n v j in_b in_a (swapped apart) from below)

    by_place : (j : ℕ) → (j < at) ⊎ (at ≤ j) → (j < at + n) ⊎ (at + n ≤ j) → (j < bt) ⊎ (bt ≤ j) → (j < bt + m) ⊎ (bt + m ≤ j) → slice_index (with_word (with_word bs at n v) bt m w) j ≡ slice_index (with_word (with_word bs bt m w) at n v) j
    by_place j (inl less) other low high = beside_a j (inl less) low high
    by_place j (inr from) (inr more) low high = beside_a j (inr more) low high
    by_place j (inr from) (inl below) low high = byte-of_first bs at n v bt m w j in_a in_b apart from below
