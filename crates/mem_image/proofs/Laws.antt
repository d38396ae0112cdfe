-- What machines need to know of reads and writes at valid addresses.
use Rattle.std.proofs.Common.{◌≡◌, ℕ, zero, suc, ◌+◌, ◌*◌, ◌^◌, ◌<◌, ◌≤◌, List, length, refl, sym, ap, ◌∙◌, arith, true, false, inl, inr}
use Rattle.std.specs.Prelude.{◌⊎◌}
use Rattle.std.specs.List.{All}
use Rattle.std.proofs.Math.Nat.{pow-suc}
use Rattle.std.proofs.lemmas.Nat.{pow-add}
use Rattle.std.proofs.lemmas.Bool.{cases_lt}
use Rattle.std.proofs.lemmas.Bool.Decides.{nat_tests}
use Rattle.ir_layout.specs.Memory.{is_valid}
use Rattle.mem_image.specs.Accesses.{overlap}
use Rattle.mem_image.specs.Bytes.{Memory, IsWhole, area_of, start_of, place_of, bytes_in, with_bytes, with_word, word_at, peek, poke}
use Rattle.mem_image.proofs.AreaBytes.{area_again, area_whole, areas_commute, elsewhere, length_area, same_area, same_places}
use Rattle.mem_image.proofs.Inside.{IsInside, valid_inside}
use Rattle.mem_image.proofs.NumberBytes.{word_again}
use Rattle.mem_image.proofs.Words.{length_with_word, word_apart, word_back, words_commute}

-- ---- where an access lies in its area

-- a valid access lies among the bytes of its area
within : (mem : Memory) (a n : ℕ) → IsWhole mem → is_valid mem.places a n ≡ true → place_of a + n ≤ length (bytes_in mem (area_of a))
within mem a n whole valid =
    let inside : IsInside a n = valid_inside mem.places a n whole.places valid in
    let e = length_area mem (area_of a) whole in
    omega (arith, inside.end, e)

-- of two valid accesses in one area that share no byte, one ends where the other starts or before it
sides : (mem : Memory) (a n b m : ℕ) → IsWhole mem → is_valid mem.places a n ≡ true → is_valid mem.places b m ≡ true → overlap a n b m ≡ false → area_of a ≡ area_of b → (place_of b + m ≤ place_of a) ⊎ (place_of a + n ≤ place_of b)
sides mem a n b m whole valid_a valid_b apart same = by_order (cases_lt a (b + m)) (cases_lt b (a + n))
  where
    in_a : IsInside a n
    in_a = valid_inside mem.places a n whole.places valid_a

    in_b : IsInside b m
    in_b = valid_inside mem.places b m whole.places valid_b

    starts : start_of (area_of a) ≡ start_of (area_of b)
    starts = ap start_of same

    by_order : (a < b + m) ⊎ (b + m ≤ a) → (b < a + n) ⊎ (a + n ≤ b) → (place_of b + m ≤ place_of a) ⊎ (place_of a + n ≤ place_of b)
    by_order (inr behind) other = inl (omega (arith, in_a.start, in_b.start, starts))
    by_order (inl x) (inr behind) = inr (omega (arith, in_a.start, in_b.start, starts))
    by_order (inl x) (inl y) = let e : overlap a n b m ≡ true = grind (arith, nat_tests, x, y) in let f : true ≡ false = sym e ∙ apart in absurd cc

-- ---- the laws

-- a number of n bytes is one of 8 * n bits
pub power_of_bytes : (n : ℕ) → 256 ^ n ≡ 2 ^ (8 * n)
power_of_bytes zero = refl
power_of_bytes (suc n) =
    let e : 8 * n + 8 ≡ 8 * suc n = omega arith in
    pow-suc 256 n ∙ ap (λ (p : ℕ). p * 256) (power_of_bytes n) ∙ sym (pow-add 2 (8 * n) 8) ∙ ap (λ (k : ℕ). 2 ^ k) e

-- what was written is read back
pub read_back : (mem : Memory) (a n v : ℕ) → IsWhole mem → is_valid mem.places a n ≡ true → v < 256 ^ n → peek (poke mem a n v) a n ≡ v
read_back mem a n v whole valid fits =
    let inside = within mem a n whole valid in
    ap (λ (bs : List ℕ). word_at bs (place_of a) n) (same_area mem (area_of a) (with_word (bytes_in mem (area_of a)) (place_of a) n v))
    ∙ word_back (bytes_in mem (area_of a)) (place_of a) n v (omega (arith, inside)) fits

-- what was written changes no word that shares no byte with it
pub read_elsewhere : (mem : Memory) (a n v b m : ℕ) → IsWhole mem → is_valid mem.places a n ≡ true → is_valid mem.places b m ≡ true → overlap a n b m ≡ false → peek (poke mem a n v) b m ≡ peek mem b m
read_elsewhere mem a n v b m whole valid_a valid_b apart = elsewhere mem (area_of a) (area_of b) (with_word (bytes_in mem (area_of a)) (place_of a) n v) (place_of b) m (λ same. word_apart (bytes_in mem (area_of a)) (place_of a) n v (place_of b) m (within mem a n whole valid_a) (sides mem a n b m whole valid_a valid_b apart same))

-- a write moves no global
pub poke_places : (mem : Memory) (a n v : ℕ) → (poke mem a n v).places ≡ mem.places
poke_places mem a n v = same_places mem (area_of a) (with_word (bytes_in mem (area_of a)) (place_of a) n v)

-- memory is whole behind a write
pub poke_whole : (mem : Memory) (a n v : ℕ) → IsWhole mem → is_valid mem.places a n ≡ true → IsWhole (poke mem a n v)
poke_whole mem a n v whole valid =
    let e = length_with_word (bytes_in mem (area_of a)) (place_of a) n v (within mem a n whole valid) in
    area_whole mem (area_of a) (with_word (bytes_in mem (area_of a)) (place_of a) n v) whole (e ∙ length_area mem (area_of a) whole)

-- the order of two writes that share no byte doesn't matter
pub writes_commute : (mem : Memory) (a n v b m w : ℕ) → IsWhole mem → is_valid mem.places a n ≡ true → is_valid mem.places b m ≡ true → overlap a n b m ≡ false → poke (poke mem a n v) b m w ≡ poke (poke mem b m w) a n v
writes_commute mem a n v b m w whole valid_a valid_b apart = areas_commute mem (area_of a) (area_of b) (place_of a) n v (place_of b) m w (λ same. words_commute (bytes_in mem (area_of a)) (place_of a) n v (place_of b) m w (within mem a n whole valid_a) (within_b same) (sides mem a n b m whole valid_a valid_b apart same))
  where
    within_b : area_of a ≡ area_of b → place_of b + m ≤ length (bytes_in mem (area_of a))
    within_b same =
        let inside = within mem b m whole valid_b in
        let e = length_area mem (area_of a) whole in
        let f = length_area mem (area_of b) whole in
        omega (arith, inside, e, f)

-- a write of the word that stands there changes nothing, where what stands in the access's area are bytes
pub write_same : (mem : Memory) (a n : ℕ) → IsWhole mem → is_valid mem.places a n ≡ true → All (λ byte. byte < 256) (bytes_in mem (area_of a)) → poke mem a n (peek mem a n) ≡ mem
write_same mem a n whole valid bytes =
    ap (with_bytes mem (area_of a)) (word_again (bytes_in mem (area_of a)) (place_of a) n (within mem a n whole valid) bytes) ∙ area_again mem (area_of a)
