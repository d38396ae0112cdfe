-- The length that is found for a kind of token is that of the longest such token at the front.
use Rattle.std.proofs.Common.{◌≡◌, ℕ, suc, ◌+◌, ◌<◌, ◌≤◌, ◌⊎◌, inl, inr, Bool, true, false, cond, ◌&&◌, ◌||◌, eqb, List, [], ◌∷◌, ◌++◌, length, refl, ap, ◌∙◌, arith}
use Rattle.std.specs.List.{prefix_len, list_all}
use Rattle.std.proofs.lemmas.Bool.{eqb-true}
use Rattle.std.proofs.lemmas.Bool.Decides.{nat_tests}
use Rattle.ir_core.specs.Tokens.{is_digit, begins_word, is_word_byte, begins_name, is_name_byte, is_digits, is_name, is_word}
use Rattle.ir_core.specs.TokenLengths.{word_len, name_len, digits_len}

-- ---- tests

pub both_true : (a b : Bool) → (a && b) ≡ true → (a ≡ true) × (b ≡ true)
both_true true b e = (refl, e)
both_true false b e = absurd cc

pub both : (a b : Bool) → a ≡ true → b ≡ true → (a && b) ≡ true
both a b e f = rw (e, f) refl

pub either_true : (a b : Bool) → (a || b) ≡ true → (a ≡ true) ⊎ (b ≡ true)
either_true true b e = inl refl
either_true false b e = inr e

-- a test of one byte that lets the wrong one not pass
pub apart : (p : ℕ → Bool) (b k : ℕ) → p k ≡ false → p b ≡ true → eqb b k ≡ false
apart p b k fails holds = by (eqb b k) refl
  where
    by : (t : Bool) → eqb b k ≡ t → t ≡ false
    by false e = refl
    by true e =
        let same : b ≡ k = eqb-true b k e in
        absurd (clash (p b) (ap p same ∙ fails) holds)
      where
        clash : (t : Bool) → t ≡ false → t ≡ true → ⊥
        clash t u v = cc

-- what passes a test passes a wider one
pub all_pass : (p q : ℕ → Bool) (bytes : List ℕ) → ((b : ℕ) → p b ≡ true → q b ≡ true) → list_all p bytes ≡ true → list_all q bytes ≡ true
all_pass p q [] wider all = refl
all_pass p q (b ∷ bytes) wider all =
    let w = both_true (p b) (list_all p bytes) all in
    both (q b) (list_all q bytes) (wider b w.0) (all_pass p q bytes wider w.1)

-- ---- runs of bytes that pass a test

-- a front that passes the test, and what is behind it
pub record Part (test : List ℕ → Bool) (bytes : List ℕ) (n : ℕ) : Type 0 where
  pub front : List ℕ
  pub rest : List ℕ
  pub whole : bytes ≡ front ++ rest
  pub passes : test front ≡ true
  pub size : n ≡ length front

module _ (p : ℕ → Bool) where
  pub run : (bytes : List ℕ) → Part (list_all p) bytes (prefix_len p bytes)
  run [] = record { front = []; rest = []; whole = refl; passes = refl; size = refl }
  run (b ∷ bytes) = by (p b) refl (run bytes)
    where
      by : (t : Bool) → p b ≡ t → Part (list_all p) bytes (prefix_len p bytes) → Part (list_all p) (b ∷ bytes) (cond t (1 + prefix_len p bytes) 0)
      by false e more = record { front = []; rest = b ∷ bytes; whole = refl; passes = refl; size = refl }
      by true e more = record { front = b ∷ more.front; rest = more.rest; whole = ap (λ (l : List ℕ). b ∷ l) more.whole; passes = both (p b) _ e more.passes; size = omega (arith, more.size) }

  pub run_most : (front rest : List ℕ) → list_all p front ≡ true → length front ≤ prefix_len p (front ++ rest)
  run_most [] rest all = omega arith
  run_most (b ∷ front) rest all =
      let w = both_true (p b) (list_all p front) all in
      let more : length front ≤ prefix_len p (front ++ rest) = run_most front rest w.1 in
      rw w.0 (omega arith)

  pub run_ends : (front rest : List ℕ) (c : ℕ) → p c ≡ false → list_all p front ≡ true → prefix_len p (front ++ c ∷ rest) ≡ length front
  run_ends [] rest c fails all = rw fails refl
  run_ends (b ∷ front) rest c fails all =
      let w = both_true (p b) (list_all p front) all in
      let more : prefix_len p (front ++ c ∷ rest) ≡ length front = run_ends front rest c fails w.1 in
      rw w.0 (omega arith)

  -- a run that ends before the bytes do ends at a byte that doesn't pass
  pub record Stop (bytes : List ℕ) : Type 0 where
    pub front : List ℕ
    pub rest : List ℕ
    pub byte : ℕ
    pub whole : bytes ≡ front ++ byte ∷ rest
    pub all : list_all p front ≡ true
    pub stops : p byte ≡ false
    pub size : prefix_len p bytes ≡ length front

  pub run_stops : (bytes : List ℕ) → prefix_len p bytes < length bytes → Stop bytes
  run_stops [] lt = absurd (omega arith)
  run_stops (b ∷ bytes) lt = by (p b) refl lt (run_stops bytes)
    where
      by : (t : Bool) → p b ≡ t → cond t (1 + prefix_len p bytes) 0 < suc (length bytes) → (prefix_len p bytes < length bytes → Stop bytes) → Stop (b ∷ bytes)
      by false e lt later = record { front = []; rest = bytes; byte = b; whole = refl; all = refl; stops = e; size = rw e refl }
      by true e lt later =
          let more = later (omega arith) in
          record { front = b ∷ more.front; rest = more.rest; byte = more.byte; whole = ap (λ (l : List ℕ). b ∷ l) more.whole; all = both (p b) _ e more.all; stops = more.stops; size = rw e (omega (arith, more.size)) }

-- ---- a test of texts, and the length of the longest front that passes it

pub record Greedy (test : List ℕ → Bool) (len : List ℕ → ℕ) : Type 0 where
  pub finds : (bytes : List ℕ) → 0 < len bytes → Part test bytes (len bytes)
  pub most : (front rest : List ℕ) → test front ≡ true → length front ≤ len (front ++ rest)

digits_pass : (front : List ℕ) → list_all is_digit front ≡ true → 0 < length front → is_digits front ≡ true
digits_pass [] all lt = absurd (omega arith)
digits_pass (b ∷ front) all lt = all

digits_most : (front rest : List ℕ) → is_digits front ≡ true → length front ≤ digits_len (front ++ rest)
digits_most [] rest e = absurd cc
digits_most (b ∷ front) rest e = run_most is_digit (b ∷ front) rest e

pub digits : Greedy is_digits digits_len
digits = record {
  finds = λ bytes lt. let r = run is_digit bytes in record { front = r.front; rest = r.rest; whole = r.whole; passes = digits_pass r.front r.passes (omega (arith, r.size)); size = r.size };
  most = digits_most;
}

word_finds : (bytes : List ℕ) → 0 < word_len bytes → Part is_word bytes (word_len bytes)
word_finds [] lt = absurd (omega arith)
word_finds (b ∷ bytes) lt = by (begins_word b) refl lt
  where
    by : (t : Bool) → begins_word b ≡ t → 0 < cond t (1 + prefix_len is_word_byte bytes) 0 → Part is_word (b ∷ bytes) (cond t (1 + prefix_len is_word_byte bytes) 0)
    by false e lt = absurd (omega arith)
    by true e lt =
        let r = run is_word_byte bytes in
        record { front = b ∷ r.front; rest = r.rest; whole = ap (λ (l : List ℕ). b ∷ l) r.whole; passes = both (begins_word b) _ e r.passes; size = omega (arith, r.size) }

word_most : (front rest : List ℕ) → is_word front ≡ true → length front ≤ word_len (front ++ rest)
word_most [] rest e = absurd cc
word_most (b ∷ front) rest e =
    let w = both_true (begins_word b) (list_all is_word_byte front) e in
    let more : length front ≤ prefix_len is_word_byte (front ++ rest) = run_most is_word_byte front rest w.1 in
    rw w.0 (omega arith)

pub words : Greedy is_word word_len
words = record { finds = word_finds; most = word_most }

name_finds : (bytes : List ℕ) → 0 < name_len bytes → Part is_name bytes (name_len bytes)
name_finds [] lt = absurd (omega arith)
name_finds (b ∷ bytes) lt = by (begins_name b) refl lt
  where
    wide : (s t : Bool) → s ≡ true → (s || t) ≡ true
    wide true t e = refl
    wide false t e = absurd cc

    late : (s t : Bool) → t ≡ true → (s || t) ≡ true
    late true t e = refl
    late false t e = e

    pass : (front : List ℕ) → list_all is_digit front ≡ true → 0 < length front → is_name front ≡ true
    pass [] all lt = absurd (omega arith)
    pass (c ∷ front) all lt = late (begins_name c && list_all is_name_byte front) (list_all is_digit (c ∷ front)) all

    by : (t : Bool) → begins_name b ≡ t → 0 < cond t (1 + prefix_len is_name_byte bytes) (prefix_len is_digit (b ∷ bytes)) → Part is_name (b ∷ bytes) (cond t (1 + prefix_len is_name_byte bytes) (prefix_len is_digit (b ∷ bytes)))
    by false e lt =
        let r = run is_digit (b ∷ bytes) in
        record { front = r.front; rest = r.rest; whole = r.whole; passes = pass r.front r.passes (omega (arith, r.size)); size = r.size }
    by true e lt =
        let r = run is_name_byte bytes in
        record { front = b ∷ r.front; rest = r.rest; whole = ap (λ (l : List ℕ). b ∷ l) r.whole; passes = wide _ (list_all is_digit (b ∷ r.front)) (both (begins_name b) _ e r.passes); size = omega (arith, r.size) }

-- a digit begins no name of the first form
digit_begins : (b : ℕ) → is_digit b ≡ true → begins_name b ≡ false
digit_begins b e = grind (arith, nat_tests)

-- a byte that no name has ends it
pub name_ends : (front rest : List ℕ) → is_name front ≡ true → name_len (front ++ 58 ∷ rest) ≡ length front
name_ends [] rest e = absurd cc
name_ends (b ∷ front) rest e = by (either_true (begins_name b && list_all is_name_byte front) (list_all is_digit (b ∷ front)) e)
  where
    by : ((begins_name b && list_all is_name_byte front) ≡ true) ⊎ (list_all is_digit (b ∷ front) ≡ true) → name_len ((b ∷ front) ++ 58 ∷ rest) ≡ length (b ∷ front)
    by (inl h) =
        let w = both_true (begins_name b) (list_all is_name_byte front) h in
        let more : prefix_len is_name_byte (front ++ 58 ∷ rest) ≡ length front = run_ends is_name_byte front rest 58 refl w.1 in
        rw w.0 (omega arith)
    by (inr h) =
        let w = both_true (is_digit b) (list_all is_digit front) h in
        let more : prefix_len is_digit ((b ∷ front) ++ 58 ∷ rest) ≡ length (b ∷ front) = run_ends is_digit (b ∷ front) rest 58 refl h in
        rw (digit_begins b w.0) more

name_most : (front rest : List ℕ) → is_name front ≡ true → length front ≤ name_len (front ++ rest)
name_most [] rest e = absurd cc
name_most (b ∷ front) rest e = by (either_true (begins_name b && list_all is_name_byte front) (list_all is_digit (b ∷ front)) e)
  where
    by : ((begins_name b && list_all is_name_byte front) ≡ true) ⊎ (list_all is_digit (b ∷ front) ≡ true) → length (b ∷ front) ≤ name_len ((b ∷ front) ++ rest)
    by (inl h) =
        let w = both_true (begins_name b) (list_all is_name_byte front) h in
        let more : length front ≤ prefix_len is_name_byte (front ++ rest) = run_most is_name_byte front rest w.1 in
        rw w.0 (omega arith)
    by (inr h) =
        let w = both_true (is_digit b) (list_all is_digit front) h in
        let more : length (b ∷ front) ≤ prefix_len is_digit ((b ∷ front) ++ rest) = run_most is_digit (b ∷ front) rest h in
        rw (digit_begins b w.0) more

pub names : Greedy is_name name_len
names = record { finds = name_finds; most = name_most }
