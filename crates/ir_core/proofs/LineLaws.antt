-- The first line of a text and the lines of the rest are its lines, and the lines give the text back.
use Rattle.std.proofs.Common.{◌≡◌, ℕ, ◌+◌, ◌<◌, ◌≤◌, ◌⊎◌, inl, inr, Bool, true, false, not, cond, eqb, List, [], ◌∷◌, ◌++◌, length, take, drop, refl, sym, ap, subst, ◌∙◌, arith, append_assoc}
use Rattle.std.specs.List.{prefix_len, list_all, flat_map}
use Rattle.std.proofs.lemmas.Bool.{eqb-true, cases_lt}
use Rattle.std.proofs.lemmas.Bool.Decides.{nat_tests}
use Rattle.std.proofs.lemmas.List.{take_at, drop_at, take_all, drop_all, length-append}
use Rattle.ir_core.specs.Lines.{with_byte, lines_of, isnt_feed, IsFirstLine, fed}
use Rattle.ir_core.proofs.Lengths.{both_true, run, run_stops}

no_feed : (b : ℕ) → isnt_feed b ≡ true → eqb b 10 ≡ false
no_feed b e = grind (arith, nat_tests)

is_feed : (b : ℕ) → isnt_feed b ≡ false → b ≡ 10
is_feed b e = grind (arith, nat_tests)

-- ---- the first line

fed_line : (line rest : List ℕ) → list_all isnt_feed line ≡ true → lines_of (line ++ 10 ∷ rest) ≡ line ∷ lines_of rest
unfolding lines_of
fed_line [] rest all = refl
fed_line (b ∷ line) rest all =
    let w = both_true (isnt_feed b) (list_all isnt_feed line) all in
    let more : lines_of (line ++ 10 ∷ rest) ≡ line ∷ lines_of rest = fed_line line rest w.1 in
    rw (no_feed b w.0) (ap (with_byte b) more)

last_line : (b : ℕ) (line : List ℕ) → list_all isnt_feed (b ∷ line) ≡ true → lines_of (b ∷ line) ≡ (b ∷ line) ∷ []
unfolding lines_of
last_line b [] all = let w = both_true (isnt_feed b) _ all in rw (no_feed b w.0) refl
last_line b (c ∷ line) all =
    let w = both_true (isnt_feed b) (list_all isnt_feed (c ∷ line)) all in
    let more : lines_of (c ∷ line) ≡ (c ∷ line) ∷ [] = last_line c line w.1 in
    rw (no_feed b w.0) (ap (with_byte b) more)

alone : (line : List ℕ) → (line ≡ [] → ⊥) → list_all isnt_feed line ≡ true → lines_of line ≡ line ∷ lines_of []
unfolding lines_of
alone [] some all = absurd (some refl)
alone (b ∷ line) some all = last_line b line all

-- the lines of a text are its first line and the lines of the rest
pub lines_split : (text line rest : List ℕ) → (text ≡ [] → ⊥) → IsFirstLine text line rest → lines_of text ≡ line ∷ lines_of rest
lines_split text line rest some h = by h.whole
  where
    by : (text ≡ line ++ 10 ∷ rest) ⊎ ((text ≡ line) × (rest ≡ [])) → lines_of text ≡ line ∷ lines_of rest
    by (inl e) = ap lines_of e ∙ fed_line line rest h.is_line
    by (inr e) = ap lines_of e.0 ∙ alone line (λ k. some (e.0 ∙ k)) h.is_line ∙ ap (λ (l : List ℕ). line ∷ lines_of l) (sym e.1)

-- the text up to its first line feed, and what stands behind that
module _ (text : List ℕ) where
  abbrev len : ℕ
  len = prefix_len isnt_feed text

  fed_first : len < length text → IsFirstLine text (take len text) (drop (len + 1) text)
  fed_first lt =
      let s = run_stops isnt_feed text lt in
      let split : text ≡ s.front ++ 10 ∷ s.rest = s.whole ∙ ap (λ (c : ℕ). s.front ++ c ∷ s.rest) (is_feed s.byte s.stops) in
      let size : length (s.front ++ 10 ∷ []) ≡ len + 1 = length-append s.front (10 ∷ []) ∙ omega (arith, s.size) in
      let front : take len text ≡ s.front = ap (take len) split ∙ take_at s.front (10 ∷ s.rest) len (sym s.size) in
      let rest : drop (len + 1) text ≡ s.rest = ap (drop (len + 1)) (split ∙ sym (append_assoc s.front (10 ∷ []) s.rest)) ∙ drop_at (s.front ++ 10 ∷ []) s.rest (len + 1) size in
      record {
        is_line = subst (λ (l : List ℕ). list_all isnt_feed l ≡ true) (sym front) s.all;
        whole = inl (split ∙ ap (λ (l : List ℕ). l ++ 10 ∷ s.rest) (sym front) ∙ ap (λ (l : List ℕ). take len text ++ 10 ∷ l) (sym rest));
      }

  last_first : length text ≤ len → IsFirstLine text (take len text) (drop (len + 1) text)
  last_first le =
      let r = run isnt_feed text in
      let front : take len text ≡ r.front = ap (take len) r.whole ∙ take_at r.front r.rest len (sym r.size) in
      record {
        is_line = subst (λ (l : List ℕ). list_all isnt_feed l ≡ true) (sym front) r.passes;
        whole = inr (sym (take_all len text le), drop_all (len + 1) text (omega arith));
      }

  pub first_line : IsFirstLine text (take len text) (drop (len + 1) text)
  first_line = by (cases_lt len (length text))
    where
      by : (len < length text) ⊎ (length text ≤ len) → IsFirstLine text (take len text) (drop (len + 1) text)
      by (inl lt) = fed_first lt
      by (inr le) = last_first le

-- ---- the lines give the text back

abbrev with_feed : List ℕ → List ℕ
with_feed line = line ++ 10 ∷ []

some_line : (b : ℕ) (text : List ℕ) → lines_of (b ∷ text) ≡ [] → ⊥
unfolding lines_of
some_line b text = by (eqb b 10) (lines_of text)
  where
    by : (t : Bool) (lines : List (List ℕ)) → cond t ([] ∷ lines) (with_byte b lines) ≡ [] → ⊥
    by true lines e = cc
    by false [] e = cc
    by false (line ∷ lines) e = cc

pushed : (b : ℕ) (lines : List (List ℕ)) → (lines ≡ [] → ⊥) → flat_map with_feed (with_byte b lines) ≡ b ∷ flat_map with_feed lines
pushed b [] some = absurd (some refl)
pushed b (line ∷ lines) some = refl

-- the lines of a text, each with a line feed, are the text with a line feed at its end
pub lines_joined : (text : List ℕ) → flat_map (λ line. line ++ 10 ∷ []) (lines_of text) ≡ fed text
unfolding lines_of
lines_joined [] = refl
lines_joined (b ∷ []) = by (eqb b 10) refl
  where
    by : (t : Bool) → eqb b 10 ≡ t → flat_map with_feed (cond t ([] ∷ []) ((b ∷ []) ∷ [])) ≡ cond t (b ∷ []) (b ∷ 10 ∷ [])
    by true e = ap (λ (c : ℕ). c ∷ []) (sym (eqb-true b 10 e))
    by false e = refl
lines_joined (b ∷ c ∷ text) = by (eqb b 10) refl (lines_joined (c ∷ text)) (some_line c text)
  where
    by : (t : Bool) → eqb b 10 ≡ t → flat_map with_feed (lines_of (c ∷ text)) ≡ fed (c ∷ text) → (lines_of (c ∷ text) ≡ [] → ⊥) → flat_map with_feed (cond t ([] ∷ lines_of (c ∷ text)) (with_byte b (lines_of (c ∷ text)))) ≡ b ∷ fed (c ∷ text)
    by true e more some = ap (λ (l : List ℕ). 10 ∷ l) more ∙ ap (λ (n : ℕ). n ∷ fed (c ∷ text)) (sym (eqb-true b 10 e))
    by false e more some = pushed b (lines_of (c ∷ text)) some ∙ ap (λ (l : List ℕ). b ∷ l) more

pushed_apart : (b : ℕ) (lines : List (List ℕ)) → isnt_feed b ≡ true → list_all (list_all isnt_feed) lines ≡ true → list_all (list_all isnt_feed) (with_byte b lines) ≡ true
pushed_apart b [] e all = rw e refl
pushed_apart b (line ∷ lines) e all = rw e all

-- no line has a line feed
pub lines_apart : (text : List ℕ) → list_all (list_all isnt_feed) (lines_of text) ≡ true
unfolding lines_of
lines_apart [] = refl
lines_apart (b ∷ text) = by (eqb b 10) refl (lines_apart text)
  where
    by : (t : Bool) → eqb b 10 ≡ t → list_all (list_all isnt_feed) (lines_of text) ≡ true → list_all (list_all isnt_feed) (cond t ([] ∷ lines_of text) (with_byte b (lines_of text))) ≡ true
    by true e more = more
    by false e more = pushed_apart b (lines_of text) (ap not e) more
