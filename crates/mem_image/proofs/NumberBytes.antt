-- The bytes of a number that was read are those that it was read from.
use Rattle.std.proofs.Common.{◌≡◌, ℕ, zero, suc, ◌+◌, ◌<◌, ◌≤◌, List, [], ◌∷◌, ◌++◌, length, take, drop, slice_index, refl, sym, ap, ◌∙◌, arith, inl, inr}
use Rattle.std.specs.Prelude.{◌⊎◌}
use Rattle.std.specs.Int.{byte_at, bytes_low_first}
use Rattle.std.specs.List.{All}
use Rattle.std.proofs.Math.Nat.{mod-lt}
use Rattle.std.proofs.lemmas.Bool.{cases_lt}
use Rattle.std.proofs.lemmas.List.{append-nil, append_assoc, drop-drop, get_or_past, length-drop, length-take-le, take-append-drop}
use Rattle.std.proofs.lemmas.List.Elements.{All-get_or, All-drop, All-take}
use Rattle.byteorder.specs.Endian.{little_number, little_from, little_bytes}
use Rattle.byteorder.specs.Numbers.{length-bytes_low_first, little_from-cons, little_from-lt, little_from-take, little_number-reads_back}
use Rattle.mem_image.specs.Bytes.{word_at, with_word}

byte-below : (k x : ℕ) → byte_at k x < 256
byte-below zero x = mod-lt x (omega arith)
byte-below (suc k) x = mod-lt _ (omega arith)

number-below : (i n x k : ℕ) → slice_index (bytes_low_first i n x) k < 256
number-below i zero x k = omega arith
number-below i (suc n) x zero = byte-below i x
number-below i (suc n) x (suc k) = number-below (suc i) n x k

-- what holds of each byte holds at each place, past the end too, where 0 stands for a byte
at-each : (bs : List ℕ) → All (λ byte. byte < 256) bs → (k : ℕ) → slice_index bs k < 256
at-each bs all k = by_place (cases_lt k (length bs))
  where
    by_place : (k < length bs) ⊎ (length bs ≤ k) → slice_index bs k < 256
    by_place (inl less) = All-get_or (λ (byte : ℕ). byte < 256) bs k 0 less all
    by_place (inr past) = let e = get_or_past bs k 0 past in omega (arith, e)

-- bytes are known by their number
same-bytes : (n : ℕ) (xs ys : List ℕ) → length xs ≡ n → length ys ≡ n → ((k : ℕ) → slice_index xs k < 256) → ((k : ℕ) → slice_index ys k < 256) → little_from 0 n xs ≡ little_from 0 n ys → xs ≡ ys
same-bytes zero [] [] length_x length_y below_x below_y same = refl
same-bytes zero [] (y ∷ ys) length_x length_y below_x below_y same = absurd (omega (arith, length_y))
same-bytes zero (x ∷ xs) ys length_x length_y below_x below_y same = absurd (omega (arith, length_x))
same-bytes (suc n) [] ys length_x length_y below_x below_y same = absurd (omega (arith, length_x))
same-bytes (suc n) (x ∷ xs) [] length_x length_y below_x below_y same = absurd (omega (arith, length_y))
same-bytes (suc n) (x ∷ xs) (y ∷ ys) length_x length_y below_x below_y same =
    let e = little_from-cons 0 n x xs in
    let f = little_from-cons 0 n y ys in
    let low_x : x < 256 = below_x 0 in
    let low_y : y < 256 = below_y 0 in
    let head : x ≡ y = omega (arith, same, low_x, low_y) in
    let number : little_from 0 n xs ≡ little_from 0 n ys = omega (arith, same, e, f, low_x, low_y) in
    let tail = same-bytes n xs ys (omega (arith, length_x)) (omega (arith, length_y)) (λ k. below_x (suc k)) (λ k. below_y (suc k)) number in
    cc

-- the bytes of the number in some bytes are these
bytes-back : (n : ℕ) (xs : List ℕ) → length xs ≡ n → ((k : ℕ) → slice_index xs k < 256) → little_bytes n (little_number n xs) ≡ xs
bytes-back n xs count below = same-bytes n (little_bytes n (little_number n xs)) xs (length-bytes_low_first 0 n (little_number n xs)) count (number-below 0 n (little_number n xs)) below again
  where
    again : little_number n (little_bytes n (little_number n xs)) ≡ little_number n xs
    again = ap (little_number n) (sym (append-nil (little_bytes n (little_number n xs)))) ∙ little_number-reads_back n (little_number n xs) [] (little_from-lt 0 n xs below)

-- a word written where it was read changes no byte
pub word_again : (bs : List ℕ) (at n : ℕ) → at + n ≤ length bs → All (λ byte. byte < 256) bs → with_word bs at n (word_at bs at n) ≡ bs
word_again bs at n inside all =
    let e = length-drop at bs in
    let few : n ≤ length (drop at bs) = omega (arith, e) in
    let number : word_at bs at n ≡ little_number n (take n (drop at bs)) = sym (little_from-take 0 n n (drop at bs) (omega arith)) in
    let below = at-each (take n (drop at bs)) (All-take (λ (byte : ℕ). byte < 256) n (drop at bs) (All-drop (λ (byte : ℕ). byte < 256) at bs all)) in
    let word : little_bytes n (word_at bs at n) ≡ take n (drop at bs) = ap (little_bytes n) number ∙ bytes-back n (take n (drop at bs)) (length-take-le n (drop at bs) few) below in
    ap (λ (middle : List ℕ). take at bs ++ middle ++ drop (at + n) bs) word
    ∙ append_assoc (take at bs) (take n (drop at bs)) (drop (at + n) bs)
    ∙ ap (λ (rest : List ℕ). take at bs ++ (take n (drop at bs) ++ rest)) (sym (drop-drop n at bs))
    ∙ ap (λ (rest : List ℕ). take at bs ++ rest) (take-append-drop n (drop at bs))
    ∙ take-append-drop at bs
