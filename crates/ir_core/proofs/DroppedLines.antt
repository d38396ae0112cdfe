-- A line is told to be dropped exactly where it is.
use Rattle.std.proofs.Common.{◌≡◌, ℕ, zero, suc, ◌+◌, ◌<◌, ◌⊎◌, inl, inr, Bool, true, false, not, ◌&&◌, ◌||◌, nat_lt, eqb, List, [], ◌∷◌, ◌++◌, length, take, drop, refl, sym, ap, subst, ◌∙◌, arith, append_assoc}
use Rattle.std.specs.Prelude.{codes}
use Rattle.std.specs.List.{prefix_len, list_any, Contains, slice_index_or}
use Rattle.std.specs.Bool.{Decides}
use Rattle.std.specs.Str.{bytes_eq}
use Rattle.std.proofs.lemmas.Bool.{eqb-true, lt-ltb}
use Rattle.std.proofs.lemmas.Bool.Decides.{Decides-eqb}
use Rattle.std.proofs.lemmas.List.{drop_at, length-append}
use Rattle.std.proofs.lemmas.Slice.Eq.{bytes_eq-Decides, starts_is}
use Rattle.ir_core.specs.declared.text.LinePlace.{LinePlace}
use Rattle.ir_core.specs.declared.text.LinePlace.TheVariants.{Top, Function, Switch}
use Rattle.ir_core.specs.Tokens.{is_name, IsFront}
use Rattle.ir_core.specs.TokenLengths.{name_len}
use Rattle.ir_core.specs.Lines.{past_blanks, first_word, header_words, externals, debug_fronts, BehindAt, SaysNothing, Header, Metadata, Nameless, Unknown, IsDebug, IsDropped}
use Rattle.ir_core.specs.Dropping.{begins, isnt_at, has_at, name_at, is_among, is_header, is_foreign, is_debug, is_dropped}
use Rattle.ir_core.proofs.Lengths.{both_true, both, either_true, run_ends, run_stops, names}
use Rattle.ir_core.proofs.LongestName.{below, not_below, name_of, name_found, name_again, no_name}

or_left : (a b : Bool) → a ≡ true → (a || b) ≡ true
or_left true b e = refl
or_left false b e = absurd cc

or_right : (a b : Bool) → b ≡ true → (a || b) ≡ true
or_right true b e = refl
or_right false b e = e

-- ---- fronts

begins_found : (front bytes : List ℕ) → begins front bytes ≡ true → IsFront front bytes
begins_found front bytes e = (drop (length front) bytes, (starts_is Decides-eqb bytes front (begins front bytes) refl).0 e)

begins_again : (front bytes : List ℕ) → IsFront front bytes → begins front bytes ≡ true
begins_again front bytes h = (starts_is Decides-eqb bytes front (begins front bytes) refl).1 h.0 h.1

-- ---- words of a list

known_found : (names : List (List ℕ)) (name : List ℕ) → is_among names name ≡ true → Contains names name
known_found [] name e = absurd cc
known_found (x ∷ names) name e = by (either_true (bytes_eq name x) (is_among names name) e) (known_found names name)
  where
    by : (bytes_eq name x ≡ true) ⊎ (is_among names name ≡ true) → (is_among names name ≡ true → Contains names name) → Contains (x ∷ names) name
    by (inl h) later = (0, omega arith, sym ((bytes_eq-Decides name x).0 h))
    by (inr h) later = let k = later h in (suc k.0, omega (arith, k.1), k.2)

known_again : (names : List (List ℕ)) (name : List ℕ) → Contains names name → is_among names name ≡ true
known_again [] name h = absurd (omega (arith, h.1))
known_again (x ∷ names) name h = by h.0 h.1 h.2 (known_again names name)
  where
    by : (k : ℕ) → k < suc (length names) → slice_index_or (x ∷ names) k name ≡ name → (Contains names name → is_among names name ≡ true) → (bytes_eq name x || is_among names name) ≡ true
    by zero lt e later = or_left (bytes_eq name x) _ ((bytes_eq-Decides name x).1 (sym e))
    by (suc k) lt e later = or_right (bytes_eq name x) _ (later (k, omega arith, e))

-- ---- fronts of a list

front_found : (fronts : List (List ℕ)) (bytes : List ℕ) → list_any (λ front. begins front bytes) fronts ≡ true → (front : List ℕ) × Contains fronts front × IsFront front bytes
front_found [] bytes e = absurd cc
front_found (x ∷ fronts) bytes e = by (either_true (begins x bytes) (list_any (λ front. begins front bytes) fronts) e) (front_found fronts bytes)
  where
    by : (begins x bytes ≡ true) ⊎ (list_any (λ front. begins front bytes) fronts ≡ true) → (list_any (λ front. begins front bytes) fronts ≡ true → (front : List ℕ) × Contains fronts front × IsFront front bytes) → (front : List ℕ) × Contains (x ∷ fronts) front × IsFront front bytes
    by (inl h) later = (x, (0, omega arith, refl), begins_found x bytes h)
    by (inr h) later = let k = later h in (k.0, (suc k.1.0, omega (arith, k.1.1), k.1.2), k.2)

front_again : (fronts : List (List ℕ)) (front bytes : List ℕ) → Contains fronts front → IsFront front bytes → list_any (λ f. begins f bytes) fronts ≡ true
front_again [] front bytes h is = absurd (omega (arith, h.1))
front_again (x ∷ fronts) front bytes h is = by h.0 h.1 h.2 (front_again fronts front bytes)
  where
    by : (k : ℕ) → k < suc (length fronts) → slice_index_or (x ∷ fronts) k front ≡ front → (Contains fronts front → IsFront front bytes → list_any (λ f. begins f bytes) fronts ≡ true) → (begins x bytes || list_any (λ f. begins f bytes) fronts) ≡ true
    by zero lt e later = or_left (begins x bytes) _ (begins_again x bytes (subst (λ (l : List ℕ). IsFront l bytes) (sym e) is))
    by (suc k) lt e later = or_right (begins x bytes) _ (later (k, omega arith, e) is)

-- ---- the name behind the first `@`

is_at : (b : ℕ) → isnt_at b ≡ false → b ≡ 64
is_at b e = by (eqb b 64) refl e
  where
    by : (t : Bool) → eqb b 64 ≡ t → not t ≡ false → b ≡ 64
    by true h e = eqb-true b 64 h
    by false h e = absurd cc

-- what stands behind the first `@`
abbrev behind : List ℕ → List ℕ
behind line = drop (prefix_len isnt_at line + 1) line

behind_found : (line : List ℕ) → has_at line ≡ true → BehindAt line (behind line)
behind_found line e =
    let s = run_stops isnt_at line (below _ _ e) in
    let at : s.byte ≡ 64 = is_at s.byte s.stops in
    let whole : line ≡ s.front ++ 64 ∷ s.rest = s.whole ∙ ap (λ (c : ℕ). s.front ++ c ∷ s.rest) at in
    let split : line ≡ (s.front ++ 64 ∷ []) ++ s.rest = whole ∙ sym (append_assoc s.front (64 ∷ []) s.rest) in
    let size : length (s.front ++ 64 ∷ []) ≡ prefix_len isnt_at line + 1 = length-append s.front (64 ∷ []) ∙ omega (arith, s.size) in
    let rest : behind line ≡ s.rest = ap (drop (prefix_len isnt_at line + 1)) split ∙ drop_at (s.front ++ 64 ∷ []) s.rest _ size in
    record { front = s.front; whole = split ∙ ap (λ (l : List ℕ). (s.front ++ 64 ∷ []) ++ l) (sym rest); is_first = s.all }

behind_again : (line rest : List ℕ) → BehindAt line rest → (has_at line ≡ true) × (behind line ≡ rest)
behind_again line rest h =
    let split : line ≡ h.front ++ 64 ∷ rest = h.whole ∙ append_assoc h.front (64 ∷ []) rest in
    let n : prefix_len isnt_at line ≡ length h.front = ap (prefix_len isnt_at) split ∙ run_ends isnt_at h.front rest 64 refl h.is_first in
    let size : length (h.front ++ 64 ∷ []) ≡ prefix_len isnt_at line + 1 = length-append h.front (64 ∷ []) ∙ omega arith in
    let all : length line ≡ length h.front + suc (length rest) = ap length split ∙ length-append h.front (64 ∷ rest) in
    (lt-ltb _ _ (omega arith), ap (drop (prefix_len isnt_at line + 1)) h.whole ∙ drop_at (h.front ++ 64 ∷ []) rest _ size)

-- ---- the kinds of dropped lines

header_found : (line : List ℕ) → is_header line ≡ true → SaysNothing line
unfolding is_header
header_found line e = by (either_true (is_among header_words (first_word line)) (begins (codes "!") line) e)
  where
    by : (is_among header_words (first_word line) ≡ true) ⊎ (begins (codes "!") line ≡ true) → SaysNothing line
    by (inl h) = Header (known_found header_words (first_word line) h)
    by (inr h) = Metadata (begins_found (codes "!") line h)

foreign_found : (line : List ℕ) → is_foreign line ≡ true → SaysNothing line
unfolding is_foreign
foreign_found line e =
    let w = both_true (bytes_eq (first_word line) (codes "declare") && has_at line) _ e in
    let v = both_true (bytes_eq (first_word line) (codes "declare")) (has_at line) w.0 in
    by ((bytes_eq-Decides (first_word line) (codes "declare")).0 v.0) (behind_found line v.1) w.1 (nat_lt 0 (name_len (behind line))) refl
  where
    not_known : (t : Bool) → not t ≡ true → t ≡ true → ⊥
    not_known true e f = absurd cc
    not_known false e f = absurd cc

    by : first_word line ≡ codes "declare" → BehindAt line (behind line) → not (is_among externals (name_of (behind line))) ≡ true → (t : Bool) → nat_lt 0 (name_len (behind line)) ≡ t → SaysNothing line
    by word at unknown true e =
        Unknown (behind line) (name_of (behind line)) word at (name_found (behind line) (below _ _ e)) (λ h. not_known (is_among externals (name_of (behind line))) unknown (known_again externals (name_of (behind line)) h))
    by word at unknown false e = Nameless (behind line) word at (λ name n h. no_name (behind line) name (not_below _ e) n h)

nothing_found : (line : List ℕ) → (is_header line || is_foreign line) ≡ true → SaysNothing line
nothing_found line e = by (either_true (is_header line) (is_foreign line) e)
  where
    by : (is_header line ≡ true) ⊎ (is_foreign line ≡ true) → SaysNothing line
    by (inl h) = header_found line h
    by (inr h) = foreign_found line h

debug_found : (line : List ℕ) → is_debug (past_blanks line) ≡ true → IsDebug line
unfolding is_debug
debug_found line e = let k = front_found debug_fronts (past_blanks line) e in record { front = k.0; known = k.1; begins = k.2 }

dropped_found : (place : LinePlace) (line : List ℕ) → is_dropped place line ≡ true → IsDropped place line
unfolding is_dropped
dropped_found Top line e = nothing_found line e
dropped_found Function line e = by (either_true (is_header line || is_foreign line) (is_debug (past_blanks line)) e)
  where
    by : ((is_header line || is_foreign line) ≡ true) ⊎ (is_debug (past_blanks line) ≡ true) → SaysNothing line ⊎ IsDebug line
    by (inl h) = inl (nothing_found line h)
    by (inr h) = inr (debug_found line h)
dropped_found Switch line e = absurd cc

module _ (line : List ℕ) where
  by_header : is_header line ≡ true → (is_header line || is_foreign line) ≡ true
  by_header e = or_left (is_header line) (is_foreign line) e

  by_foreign : is_foreign line ≡ true → (is_header line || is_foreign line) ≡ true
  by_foreign e = or_right (is_header line) (is_foreign line) e

  word_is : (text : List ℕ) → first_word line ≡ text → bytes_eq (first_word line) text ≡ true
  word_is text e = (bytes_eq-Decides (first_word line) text).1 e

  foreign_again : (rest : List ℕ) → first_word line ≡ codes "declare" → BehindAt line rest → is_among externals (name_of rest) ≡ false → is_foreign line ≡ true
  unfolding is_foreign
  foreign_again rest word at unknown =
      let w = behind_again line rest at in
      let name : is_among externals (name_at line) ≡ false = ap (λ (l : List ℕ). is_among externals (name_of l)) w.1 ∙ unknown in
      both _ _ (both _ _ (word_is (codes "declare") word) w.0) (ap not name)

  nothing_again : SaysNothing line → (is_header line || is_foreign line) ≡ true
  unfolding is_header
  nothing_again (Header h) = by_header (or_left (is_among header_words (first_word line)) (begins (codes "!") line) (known_again header_words (first_word line) h))
  nothing_again (Metadata h) = by_header (or_right (is_among header_words (first_word line)) (begins (codes "!") line) (begins_again (codes "!") line h))
  nothing_again (Nameless rest word at none) = by_foreign (foreign_again rest word at (nothing rest (nat_lt 0 (name_len rest)) refl none))
    where
      nothing : (rest : List ℕ) (t : Bool) → nat_lt 0 (name_len rest) ≡ t → ((name : List ℕ) → is_name name ≡ true → IsFront name rest → ⊥) → is_among externals (name_of rest) ≡ false
      nothing rest true e none = let r = names.finds rest (below _ _ e) in absurd (none r.front r.passes (r.rest, r.whole))
      nothing rest false e none = ap (λ (n : ℕ). is_among externals (take n rest)) (not_below _ e)
  nothing_again (Unknown rest name word at is unknown) = by_foreign (foreign_again rest word at (by (is_among externals (name_of rest)) refl))
    where
      by : (t : Bool) → is_among externals (name_of rest) ≡ t → t ≡ false
      by true e = absurd (unknown (subst (λ (l : List ℕ). Contains externals l) (name_again rest name is) (known_found externals (name_of rest) e)))
      by false e = refl

debug_again : (line : List ℕ) → IsDebug line → is_debug (past_blanks line) ≡ true
unfolding is_debug
debug_again line h = front_again debug_fronts h.front (past_blanks line) h.known h.begins

dropped_again : (place : LinePlace) (line : List ℕ) → IsDropped place line → is_dropped place line ≡ true
unfolding is_dropped
dropped_again Top line h = nothing_again line h
dropped_again Function line (inl h) = or_left (is_header line || is_foreign line) (is_debug (past_blanks line)) (nothing_again line h)
dropped_again Function line (inr h) = or_right (is_header line || is_foreign line) (is_debug (past_blanks line)) (debug_again line h)
dropped_again Switch line h = absurd h

pub is_dropped-Decides : (place : LinePlace) (line : List ℕ) → Decides (is_dropped place line) (IsDropped place line)
is_dropped-Decides place line = (dropped_found place line, dropped_again place line)
