-- The buffers of lines after an access: they have what was written before, and the word of the access besides.
use Rattle.std.proofs.Common.{◌≡◌, ◌≢◌, ◌∙◌, ℕ, zero, suc, ◌+◌, ◌-◌, ◌/◌, ◌%◌, ◌<◌, ◌≤◌, Bool, true, false, ◌||◌, List, [], ◌∷◌, ◌++◌, length, map, replicate, Option, Some, None, slice_get, cond, nat_eq, refl, sym, ap, arith, inl, inr}
use Rattle.std.specs.Prelude.{◌⊎◌, get_or}
use Rattle.std.specs.List.{find}
use Rattle.std.specs.Option.{option_and_then, option_flatten, option_or}
use Rattle.std.proofs.lemmas.Bool.{cases_lt, eqb-true, eqb-false, eq-eqb}
use Rattle.std.proofs.lemmas.Bool.Decides.{nat_tests}
use Rattle.std.proofs.lemmas.List.{get_or-map, length-map, length-replicate}
use Rattle.std.proofs.lemmas.List.Folds.{list_any-append}
use Rattle.std.proofs.lemmas.Option.{slice_get-get_or}
use Rattle.byteorder.specs.Endian.{little_bytes}
use Rattle.byteorder.specs.Numbers.{length-bytes_low_first}
use Rattle.ir_layout.specs.declared.spans.Span.{Span}
use Rattle.ir_layout.specs.Memory.{is_valid}
use Rattle.mem_image.specs.Lines.{Line, AreLines, line_size, line_of, blank, is_open, opened_unless, marked_with, stored_if, lines_with, opened_where, lines_after, written_in}
use Rattle.mem_image.specs.Touches.{Touch, Store}
use Rattle.mem_image.specs.Views.{Written, byte_of, stored}
use Rattle.mem_image.proofs.AccessLines.{within-line}
use Rattle.mem_image.proofs.Agreement.{other-line}
use Rattle.mem_image.proofs.Spliced.{length-spliced, spliced-apart, spliced-inside}
use Rattle.mem_image.proofs.ViewBytes.{byte-of_word, byte-of_none}

-- ---- a line is opened

nothing-at : (n i : ℕ) → option_flatten {T = ℕ} (slice_get (replicate n None) i) ≡ None
nothing-at zero i = refl
nothing-at (suc n) zero = refl
nothing-at (suc n) (suc i) = nothing-at n i

-- what the first line of a number has at an address
abbrev first : Bool → Line → Option Line → ℕ → Option ℕ
first here line rest at = option_and_then (λ line. option_flatten (slice_get line.bytes (at % line_size))) (cond here (Some line) rest)

blank-byte : (here : Bool) (number at : ℕ) → first here (blank number) None at ≡ None
blank-byte true number at = nothing-at line_size (at % line_size)
blank-byte false number at = refl

opened-byte : (lines : List Line) (number at : ℕ) → written_in (lines ++ blank number ∷ []) at ≡ written_in lines at
opened-byte [] number at = blank-byte (nat_eq number (line_of at)) number at
opened-byte (line ∷ lines) number at = by_first (opened-byte lines number at) (nat_eq line.number (line_of at))
  where
    by_first : written_in (lines ++ blank number ∷ []) at ≡ written_in lines at → (here : Bool) → first here line (find (λ line. nat_eq line.number (line_of at)) (lines ++ blank number ∷ [])) at
        ≡ first here line (find (λ line. nat_eq line.number (line_of at)) lines) at
    by_first later true = refl
    by_first later false = later

opened-writes_nothing : (writes : Bool) (lines : List Line) (number at : ℕ) → written_in (opened_where writes lines number) at ≡ written_in lines at
opened-writes_nothing false lines number at = refl
opened-writes_nothing true lines number at = by_test (is_open lines number)
  where
    by_test : (b : Bool) → written_in (opened_unless b lines number) at ≡ written_in lines at
    by_test true = refl
    by_test false = opened-byte lines number at

-- an access that stores nothing writes nothing
pub access-writes_nothing : (touch : Touch) (lines : List Line) (at : ℕ) → written_in (lines_after touch None lines) at ≡ written_in lines at
access-writes_nothing touch lines at = opened-writes_nothing touch.writes lines (line_of touch.address) at

opened-last : (lines : List Line) (number : ℕ) → is_open (lines ++ blank number ∷ []) number ≡ true
opened-last [] number = ap (λ (b : Bool). b || false) (eq-eqb number number refl)
opened-last (line ∷ lines) number = by_first (opened-last lines number) (nat_eq line.number number)
  where
    by_first : is_open (lines ++ blank number ∷ []) number ≡ true → (b : Bool) → (b || is_open (lines ++ blank number ∷ []) number) ≡ true
    by_first later true = refl
    by_first later false = later

is-opened : (writes : Bool) (lines : List Line) (number : ℕ) → writes ≡ true → is_open (opened_where writes lines number) number ≡ true
is-opened false lines number e = absurd cc
is-opened true lines number e = by_test (is_open lines number) refl
  where
    by_test : (b : Bool) → is_open lines number ≡ b → is_open (opened_unless b lines number) number ≡ true
    by_test true f = f
    by_test false f = opened-last lines number

-- ---- a word is written to its line

module _ (spans : List Span) (a n word : ℕ) (valid : is_valid spans a n ≡ true) where
  size : length (map Some (little_bytes n word)) ≡ n
  size = length-map (little_bytes n word) Some ∙ length-bytes_low_first 0 n word

  length-marked : (bytes : List (Option ℕ)) → length bytes ≡ line_size → length (marked_with bytes (a % line_size) n word) ≡ line_size
  length-marked bytes count = let fits = within-line spans a n valid in
      length-spliced bytes (a % line_size) n (map Some (little_bytes n word)) size (omega (arith, count, fits)) ∙ count

  -- a byte of its line is the word's, or as before
  own-byte : (bytes : List (Option ℕ)) (at : ℕ) → length bytes ≡ line_size → line_of at ≡ line_of a
      → option_flatten (slice_get (marked_with bytes (a % line_size) n word) (at % line_size)) ≡ option_or (byte_of a n word at) (option_flatten (slice_get bytes (at % line_size)))
  own-byte bytes at count line = by_place (cases_lt at a) (cases_lt at (a + n))
    where
      fits : a % 64 + n ≤ 64
      fits = within-line spans a n valid

      same : at / 64 ≡ a / 64
      same = line

      room : a % line_size + n ≤ length bytes
      room = omega (arith, fits, count)

      got : slice_get (marked_with bytes (a % line_size) n word) (at % line_size) ≡ Some (get_or (marked_with bytes (a % line_size) n word) (at % line_size) None)
      got = let marked = length-marked bytes count in slice_get-get_or (marked_with bytes (a % line_size) n word) (at % line_size) None (omega (arith, marked))

      beside : (at < a) ⊎ (a + n ≤ at) → (at % line_size < a % line_size) ⊎ (a % line_size + n ≤ at % line_size)
          → option_flatten (slice_get (marked_with bytes (a % line_size) n word) (at % line_size)) ≡ option_or (byte_of a n word at) (option_flatten (slice_get bytes (at % line_size)))
      beside apart off = ap option_flatten (got ∙ ap Some (spliced-apart bytes (a % line_size) n (map Some (little_bytes n word)) size None (at % line_size) room off)
          ∙ sym (slice_get-get_or bytes (at % line_size) None (omega (arith, count))))
          ∙ sym (ap (λ (o : Option ℕ). option_or o (option_flatten (slice_get bytes (at % line_size)))) (byte-of_none a n word at apart))

      by_place : (at < a) ⊎ (a ≤ at) → (at < a + n) ⊎ (a + n ≤ at)
          → option_flatten (slice_get (marked_with bytes (a % line_size) n word) (at % line_size)) ≡ option_or (byte_of a n word at) (option_flatten (slice_get bytes (at % line_size)))
      by_place (inl less) other = beside (inl less) (inl (omega (arith, less, same)))
      by_place (inr from) (inr after) = beside (inr after) (inr (omega (arith, after, same, fits)))
      by_place (inr from) (inl below) =
          let e : at % line_size - a % line_size ≡ at - a = omega (arith, from, same) in
          let count' : length (little_bytes n word) ≡ n = length-bytes_low_first 0 n word in
          ap option_flatten (got
          ∙ ap Some (spliced-inside bytes (a % line_size) n (map Some (little_bytes n word)) size None (at % line_size) room (omega (arith, from, same)) (omega (arith, from, below, same))
          ∙ ap (λ (k : ℕ). get_or (map Some (little_bytes n word)) k None) e
          ∙ get_or-map Some (little_bytes n word) (at - a) 0 None (omega (arith, from, below, count'))))
          ∙ sym (ap (λ (o : Option ℕ). option_or o (option_flatten (slice_get bytes (at % line_size)))) (byte-of_word a n word at from below))

  -- a byte of another line is as before
  other-lines : (lines : List Line) (at : ℕ) → line_of at ≢ line_of a → written_in (lines_with lines a n word) at ≡ written_in lines at
  other-lines [] at off = refl
  other-lines (line ∷ lines) at off = by_own (other-lines lines at off) (nat_eq line.number (line_of a)) refl (nat_eq line.number (line_of at)) refl
    where
      by_own : written_in (lines_with lines a n word) at ≡ written_in lines at → (own : Bool) → nat_eq line.number (line_of a) ≡ own → (here : Bool) → nat_eq line.number (line_of at) ≡ here
          → first (nat_eq (stored_if own line a n word).number (line_of at)) (stored_if own line a n word) (find (λ line. nat_eq line.number (line_of at)) (lines_with lines a n word)) at
          ≡ first here line (find (λ line. nat_eq line.number (line_of at)) lines) at
      by_own later true e true f = absurd (off (sym (eqb-true line.number (line_of at) f) ∙ eqb-true line.number (line_of a) e))
      by_own later true e false f = ap (λ (b : Bool). first b (stored_if true line a n word) (find (λ line. nat_eq line.number (line_of at)) (lines_with lines a n word)) at) f ∙ later
      by_own later false e true f = ap (λ (b : Bool). first b line (find (λ line. nat_eq line.number (line_of at)) (lines_with lines a n word)) at) f
      by_own later false e false f = ap (λ (b : Bool). first b line (find (λ line. nat_eq line.number (line_of at)) (lines_with lines a n word)) at) f ∙ later

  -- a byte of its line has the word's, where that line is among them
  own-lines : (lines : List Line) (at : ℕ) → AreLines lines → is_open lines (line_of a) ≡ true → line_of at ≡ line_of a
      → written_in (lines_with lines a n word) at ≡ option_or (byte_of a n word at) (written_in lines at)
  own-lines [] at all among same = absurd cc
  own-lines (line ∷ lines) at all among same = by_own (own-lines lines at all.2) (nat_eq line.number (line_of a)) refl among
    where
      by_own : (is_open lines (line_of a) ≡ true → line_of at ≡ line_of a → written_in (lines_with lines a n word) at ≡ option_or (byte_of a n word at) (written_in lines at)) → (own : Bool) → nat_eq line.number (line_of a) ≡ own → (own || is_open lines (line_of a)) ≡ true
          → first (nat_eq (stored_if own line a n word).number (line_of at)) (stored_if own line a n word) (find (λ line. nat_eq line.number (line_of at)) (lines_with lines a n word)) at
          ≡ option_or (byte_of a n word at) (first (nat_eq line.number (line_of at)) line (find (λ line. nat_eq line.number (line_of at)) lines) at)
      by_own later true e among =
          let here : nat_eq line.number (line_of at) ≡ true = ap (nat_eq line.number) same ∙ e in
          ap (λ (b : Bool). first b (stored_if true line a n word) (find (λ line. nat_eq line.number (line_of at)) (lines_with lines a n word)) at) here
          ∙ own-byte line.bytes at all.0 same
          ∙ sym (ap (λ (b : Bool). option_or (byte_of a n word at) (first b line (find (λ line. nat_eq line.number (line_of at)) lines) at)) here)
      by_own later false e among =
          let here : nat_eq line.number (line_of at) ≡ false = ap (nat_eq line.number) same ∙ e in
          ap (λ (b : Bool). first b line (find (λ line. nat_eq line.number (line_of at)) (lines_with lines a n word)) at) here
          ∙ later among same
          ∙ sym (ap (λ (b : Bool). option_or (byte_of a n word at) (first b line (find (λ line. nat_eq line.number (line_of at)) lines) at)) here)

  lines-stored : (lines : List Line) (at : ℕ) → AreLines lines → is_open lines (line_of a) ≡ true
      → written_in (lines_with lines a n word) at ≡ stored (written_in lines) a n word at
  lines-stored lines at all among = by_line (nat_eq (line_of at) (line_of a)) refl
    where
      by_line : (b : Bool) → nat_eq (line_of at) (line_of a) ≡ b → written_in (lines_with lines a n word) at ≡ stored (written_in lines) a n word at
      by_line true e = own-lines lines at all among (eqb-true (line_of at) (line_of a) e)
      by_line false e =
          let off : line_of at ≢ line_of a = eqb-false (line_of at) (line_of a) e in
          other-lines lines at off ∙ sym (ap (λ (o : Option ℕ). option_or o (written_in lines at)) (byte-of_none a n word at (other-line spans a n at valid off)))

  -- ---- they stay lines

  kept-number : (own : Bool) (line : Line) → (stored_if own line a n word).number ≡ line.number
  kept-number true line = refl
  kept-number false line = refl

  kept-open : (lines : List Line) (number : ℕ) → is_open (lines_with lines a n word) number ≡ is_open lines number
  kept-open [] number = refl
  kept-open (line ∷ lines) number =
      ap (λ (x : ℕ). nat_eq x number || is_open (lines_with lines a n word) number) (kept-number (nat_eq line.number (line_of a)) line)
      ∙ ap (λ (b : Bool). nat_eq line.number number || b) (kept-open lines number)

  kept-length : (own : Bool) (line : Line) → length line.bytes ≡ line_size → length (stored_if own line a n word).bytes ≡ line_size
  kept-length true line count = length-marked line.bytes count
  kept-length false line count = count

  kept-lines : (lines : List Line) → AreLines lines → AreLines (lines_with lines a n word)
  kept-lines [] all = tt
  kept-lines (line ∷ lines) all = (
    kept-length (nat_eq line.number (line_of a)) line all.0,
    ap (is_open (lines_with lines a n word)) (kept-number (nat_eq line.number (line_of a)) line) ∙ kept-open lines line.number ∙ all.1,
    kept-lines lines all.2,
  )

or-none : (a b : Bool) → (a || b) ≡ false → (a ≡ false) × (b ≡ false)
or-none true b e = absurd cc
or-none false b e = (refl, e)

blank-lines : (lines : List Line) (number : ℕ) → AreLines lines → is_open lines number ≡ false → AreLines (lines ++ blank number ∷ [])
blank-lines [] number all absent = (length-replicate {A = Option ℕ} line_size None, refl, tt)
blank-lines (line ∷ lines) number all absent =
    let both = or-none (nat_eq line.number number) (is_open lines number) absent in
    let other : nat_eq number line.number ≡ false = let e = both.0 in grind (arith, nat_tests, e) in (
      all.0,
      list_any-append (λ (l : Line). nat_eq l.number line.number) lines (blank number ∷ []) ∙ ap (λ (b : Bool). b || (nat_eq number line.number || false)) all.1 ∙ ap (λ (b : Bool). b || false) other,
      blank-lines lines number all.2 both.1,
    )

pub opened-lines : (writes : Bool) (lines : List Line) (number : ℕ) → AreLines lines → AreLines (opened_where writes lines number)
opened-lines false lines number all = all
opened-lines true lines number all = by_test (is_open lines number) refl
  where
    by_test : (b : Bool) → is_open lines number ≡ b → AreLines (opened_unless b lines number)
    by_test true e = all
    by_test false e = blank-lines lines number all e

-- ---- an access

stored-opened : (written other : Written) (a n word at : ℕ) → written at ≡ other at → stored written a n word at ≡ stored other a n word at
stored-opened written other a n word at same = ap (option_or (byte_of a n word at)) same

-- an access that writes has its word among what was written
pub access-writes : (spans : List Span) (touch : Touch) (store : Store) (lines : List Line) (at : ℕ) → AreLines lines → touch.writes ≡ true
    → store.address ≡ touch.address → is_valid spans store.address store.size ≡ true
    → written_in (lines_after touch (Some store) lines) at ≡ stored (written_in lines) store.address store.size store.word at
access-writes spans touch store lines at all writes same valid =
    lines-stored spans store.address store.size store.word valid (opened_where touch.writes lines (line_of touch.address)) at
    (opened-lines touch.writes lines (line_of touch.address) all)
    (ap (λ (a : ℕ). is_open (opened_where touch.writes lines (line_of touch.address)) (line_of a)) same ∙ is-opened touch.writes lines (line_of touch.address) writes)
    ∙ stored-opened (written_in (opened_where touch.writes lines (line_of touch.address))) (written_in lines) store.address store.size store.word at
    (opened-writes_nothing touch.writes lines (line_of touch.address) at)

-- each line has its bytes after any access
pub access-kept : (spans : List Span) (touch : Touch) (store : Option Store) (lines : List Line) → AreLines lines
    → ((s : Store) → store ≡ Some s → is_valid spans s.address s.size ≡ true) → AreLines (lines_after touch store lines)
access-kept spans touch None lines all valid = opened-lines touch.writes lines (line_of touch.address) all
access-kept spans touch (Some store) lines all valid =
    kept-lines spans store.address store.size store.word (valid store refl) (opened_where touch.writes lines (line_of touch.address))
    (opened-lines touch.writes lines (line_of touch.address) all)
