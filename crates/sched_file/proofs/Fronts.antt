-- The first line of a text, and the first field of a line.
use Rattle.std.proofs.Common.{◌≡◌, ℕ, suc, ◌+◌, ◌-◌, ◌<◌, Bool, true, false, not, cond, eqb, List, [], ◌∷◌, length, take, drop, refl, sym, ap, ◌∙◌, arith}
use Rattle.std.proofs.Math.Seq.{take-length}
use Rattle.std.proofs.lemmas.List.{drop_all, take_rest}
use Rattle.std.specs.List.{prefix_len, filter}
use Rattle.ir_core.specs.Tokens.{is_blank}
use Rattle.ir_core.specs.Lines.{with_byte, lines_of, past_blanks}
use Rattle.sched_file.specs.Fields.{pieces_of, is_filled, fields_of}
use Rattle.sched_file.specs.Cutting.{isnt_feed, isnt_blank}

one-more : (n : ℕ) → 1 + n ≡ suc n
one-more n = omega arith

-- ---- lines

pub lines_first : (text : List ℕ) → 0 < length text → lines_of text ≡ take (prefix_len isnt_feed text) text ∷ lines_of (drop (prefix_len isnt_feed text + 1) text)
unfolding lines_of
lines_first [] lt = absurd (omega arith)
lines_first (b ∷ bytes) lt = by (eqb b 10) bytes (lines_first bytes)
  where
    by : (t : Bool) (bytes : List ℕ) → (0 < length bytes → lines_of bytes ≡ take (prefix_len isnt_feed bytes) bytes ∷ lines_of (drop (prefix_len isnt_feed bytes + 1) bytes))
        → cond t ([] ∷ lines_of bytes) (with_byte b (lines_of bytes))
        ≡ take (cond (not t) (1 + prefix_len isnt_feed bytes) 0) (b ∷ bytes) ∷ lines_of (drop (cond (not t) (1 + prefix_len isnt_feed bytes) 0 + 1) (b ∷ bytes))
    by true bytes h = refl
    by false [] h = refl
    by false (c ∷ bytes) h =
        let e : 1 + prefix_len isnt_feed (c ∷ bytes) ≡ suc (prefix_len isnt_feed (c ∷ bytes)) = one-more (prefix_len isnt_feed (c ∷ bytes)) in
        let k : suc (prefix_len isnt_feed (c ∷ bytes)) + 1 ≡ suc (prefix_len isnt_feed (c ∷ bytes) + 1) = omega arith in
        let cut : ℕ → ℕ → List (List ℕ) = λ m n. take m (b ∷ c ∷ bytes) ∷ lines_of (drop n (b ∷ c ∷ bytes)) in
        ap (with_byte b) (h (omega arith)) ∙ ap (cut (suc (prefix_len isnt_feed (c ∷ bytes)))) (sym k) ∙ ap (λ m. cut m (m + 1)) (sym e)

-- a line that is all of the text
pub lines_only : (text : List ℕ) → 0 < length text → prefix_len isnt_feed text ≡ length text → lines_of text ≡ text ∷ lines_of []
lines_only text lt e =
    let front : take (prefix_len isnt_feed text) text ≡ text = ap (λ (n : ℕ). take n text) e ∙ take-length text in
    let rest : drop (prefix_len isnt_feed text + 1) text ≡ [] = drop_all (prefix_len isnt_feed text + 1) text (omega arith) in
    lines_first text lt ∙ ap (λ (l : List ℕ). l ∷ lines_of (drop (prefix_len isnt_feed text + 1) text)) front ∙ ap (λ (r : List ℕ). text ∷ lines_of r) rest

-- ---- fields

-- the pieces behind a piece
abbrev behind_piece : List ℕ → List (List ℕ)
behind_piece [] = []
behind_piece (b ∷ bytes) = pieces_of bytes

pieces_first : (line : List ℕ) → pieces_of line ≡ take (prefix_len isnt_blank line) line ∷ behind_piece (drop (prefix_len isnt_blank line) line)
unfolding pieces_of
pieces_first [] = refl
pieces_first (b ∷ bytes) = by (is_blank b) (pieces_first bytes)
  where
    by : (t : Bool) → pieces_of bytes ≡ take (prefix_len isnt_blank bytes) bytes ∷ behind_piece (drop (prefix_len isnt_blank bytes) bytes)
        → cond t ([] ∷ pieces_of bytes) (with_byte b (pieces_of bytes))
        ≡ take (cond (not t) (1 + prefix_len isnt_blank bytes) 0) (b ∷ bytes) ∷ behind_piece (drop (cond (not t) (1 + prefix_len isnt_blank bytes) 0) (b ∷ bytes))
    by true h = refl
    by false h = ap (with_byte b) h ∙ rw (one-more (prefix_len isnt_blank bytes)) refl

-- what stands behind a piece has the fields of the pieces behind it
fields_behind : (line : List ℕ) → fields_of (drop (prefix_len isnt_blank line) line) ≡ filter is_filled (behind_piece (drop (prefix_len isnt_blank line) line))
unfolding fields_of pieces_of
fields_behind [] = refl
fields_behind (b ∷ bytes) = by (is_blank b) refl (fields_behind bytes)
  where
    by : (t : Bool) → is_blank b ≡ t → fields_of (drop (prefix_len isnt_blank bytes) bytes) ≡ filter is_filled (behind_piece (drop (prefix_len isnt_blank bytes) bytes))
        → fields_of (drop (cond (not t) (1 + prefix_len isnt_blank bytes) 0) (b ∷ bytes)) ≡ filter is_filled (behind_piece (drop (cond (not t) (1 + prefix_len isnt_blank bytes) 0) (b ∷ bytes)))
    by true e h = ap (λ t. filter is_filled (cond t ([] ∷ pieces_of bytes) (with_byte b (pieces_of bytes)))) e
    by false e h = rw (one-more (prefix_len isnt_blank bytes)) h

-- the field at the front of a line that begins with none of the bytes between fields
pub fields_first : (line : List ℕ) → 0 < prefix_len isnt_blank line → fields_of line ≡ take (prefix_len isnt_blank line) line ∷ fields_of (drop (prefix_len isnt_blank line) line)
unfolding fields_of
fields_first [] lt = absurd (omega arith)
fields_first (b ∷ bytes) lt =
    ap (filter is_filled) (pieces_first (b ∷ bytes)) ∙ filled (is_blank b) lt
    ∙ ap (λ (fs : List (List ℕ)). take (prefix_len isnt_blank (b ∷ bytes)) (b ∷ bytes) ∷ fs) (sym (fields_behind (b ∷ bytes)))
  where
    filled : (t : Bool) → 0 < cond (not t) (1 + prefix_len isnt_blank bytes) 0
        → filter is_filled (take (cond (not t) (1 + prefix_len isnt_blank bytes) 0) (b ∷ bytes) ∷ behind_piece (drop (prefix_len isnt_blank (b ∷ bytes)) (b ∷ bytes)))
        ≡ take (cond (not t) (1 + prefix_len isnt_blank bytes) 0) (b ∷ bytes) ∷ filter is_filled (behind_piece (drop (prefix_len isnt_blank (b ∷ bytes)) (b ∷ bytes)))
    filled true lt = absurd (omega arith)
    filled false lt = rw (one-more (prefix_len isnt_blank bytes)) refl

fields_past : (b : ℕ) (bytes : List ℕ) → is_blank b ≡ true → fields_of (b ∷ bytes) ≡ fields_of bytes
unfolding fields_of pieces_of
fields_past b bytes e = ap (λ t. filter is_filled (cond t ([] ∷ pieces_of bytes) (with_byte b (pieces_of bytes)))) e

-- the bytes between fields say nothing
pub fields_past_blanks : (line : List ℕ) → fields_of (past_blanks line) ≡ fields_of line
fields_past_blanks [] = refl
fields_past_blanks (b ∷ bytes) = by (is_blank b) refl (fields_past_blanks bytes)
  where
    by : (t : Bool) → is_blank b ≡ t → fields_of (past_blanks bytes) ≡ fields_of bytes → fields_of (drop (cond t (1 + prefix_len is_blank bytes) 0) (b ∷ bytes)) ≡ fields_of (b ∷ bytes)
    by true e h = rw (one-more (prefix_len is_blank bytes)) (h ∙ sym (fields_past b bytes e))
    by false e h = refl

-- a line without a field
pub fields_none : (line : List ℕ) → prefix_len isnt_blank (past_blanks line) ≡ 0 → fields_of line ≡ []
unfolding fields_of pieces_of
fields_none [] e = refl
fields_none (b ∷ bytes) e = by (is_blank b) refl e (fields_none bytes)
  where
    by : (t : Bool) → is_blank b ≡ t → prefix_len isnt_blank (drop (cond t (1 + prefix_len is_blank bytes) 0) (b ∷ bytes)) ≡ 0
        → (prefix_len isnt_blank (past_blanks bytes) ≡ 0 → fields_of bytes ≡ []) → fields_of (b ∷ bytes) ≡ []
    by true k e h = fields_past b bytes k ∙ h (ap (λ (m : ℕ). prefix_len isnt_blank (drop m (b ∷ bytes))) (sym (one-more (prefix_len is_blank bytes))) ∙ e)
    by false k e h = let some : 0 < prefix_len isnt_blank (b ∷ bytes) = rw k (omega arith) in absurd (omega (arith, e))

-- the next field of a line, where so many bytes are passed over and so many are taken
module _ (line : List ℕ) (past len : ℕ) (p : past ≡ prefix_len is_blank line) (l : len ≡ prefix_len isnt_blank (take (length line - past) (drop past line))) where
  start : take (length line - past) (drop past line) ≡ past_blanks line
  start = take_rest line past ∙ ap (λ (n : ℕ). drop n line) p

  len_is : len ≡ prefix_len isnt_blank (past_blanks line)
  len_is = l ∙ ap (prefix_len isnt_blank) start

  pub next_none : len ≡ 0 → fields_of line ≡ []
  next_none e = fields_none line (sym len_is ∙ e)

  pub next_some : (len ≡ 0 → ⊥) → (field rest : List ℕ) → field ≡ take len (take (length line - past) (drop past line)) → rest ≡ drop len (take (length line - past) (drop past line)) → fields_of line ≡ field ∷ fields_of rest
  next_some some field rest f r =
      let found = fields_first (past_blanks line) (omega (arith, some, len_is)) in
      let cut : ℕ → List ℕ → List (List ℕ) = λ n s. take n s ∷ fields_of (drop n s) in
      sym (fields_past_blanks line) ∙ found
      ∙ ap (λ (n : ℕ). cut n (past_blanks line)) (sym len_is)
      ∙ ap (cut len) (sym start)
      ∙ ap (λ (x : List ℕ). x ∷ fields_of (drop len (take (length line - past) (drop past line)))) (sym f)
      ∙ ap (λ (x : List ℕ). field ∷ fields_of x) (sym r)
