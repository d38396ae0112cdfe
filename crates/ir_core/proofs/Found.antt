-- For each kind of token, what is found at the front is a token, and no token of the kind there is longer.
use Rattle.std.proofs.Common.{◌≡◌, ℕ, zero, suc, ◌+◌, ◌<◌, ◌≤◌, ◌⊎◌, inl, inr, Bool, true, false, not, cond, ◌&&◌, nat_lt, eqb, List, [], ◌∷◌, ◌++◌, length, drop, refl, sym, ap, subst, ◌∙◌, arith, append_assoc}
use Rattle.std.specs.List.{prefix_len, list_all}
use Rattle.std.specs.Prelude.{codes}
use Rattle.std.proofs.lemmas.Bool.{eqb-true, lt-ltb}
use Rattle.std.proofs.lemmas.Bool.Decides.{nat_tests}
use Rattle.std.proofs.lemmas.List.{drop_at, length-append}
use Rattle.ir_core.specs.declared.text.TokKind.{TokKind}
use Rattle.ir_core.specs.declared.text.TokKind.TheVariants.{Word, Local, At, Label, Num, Bytes, Str, Hash, Bang, Punct}
use Rattle.ir_core.specs.Tokens.{is_digit, is_punct, is_unquoted, is_digits, is_name, is_one_punct, Behind, Before, Quoted, IsToken}
use Rattle.ir_core.specs.TokenLengths.{name_len, digits_len, counted, marked_len, begins_with, label_len, num_len, closed_len, str_len, bytes_len, punct_len, len_of}
use Rattle.ir_core.proofs.Lengths.{both_true, both, apart, Part, run_ends, run_stops, Greedy, digits, words, names, name_ends}

-- a text at the front of bytes, and that it is what is looked for
pub record Cut (P : List ℕ → Type 0) (bytes : List ℕ) (n : ℕ) : Type 0 where
  pub text : List ℕ
  pub rest : List ℕ
  pub whole : bytes ≡ text ++ rest
  pub size : n ≡ length text
  pub is : P text

eqb-self : (n : ℕ) → eqb n n ≡ true
eqb-self n = grind (arith, nat_tests)

counted_is : (n : ℕ) → 0 < counted n → (0 < n) × (counted n ≡ n + 1)
counted_is zero lt = absurd (omega arith)
counted_is (suc n) lt = (omega arith, grind (arith, nat_tests))

counted_more : (n : ℕ) → 0 < n → counted n ≡ n + 1
counted_more n lt = grind (arith, nat_tests)

-- ---- a mark, and what stands behind it

module _ (mark : ℕ) {test : List ℕ → Bool} {len : List ℕ → ℕ} (g : Greedy test len) where
  marked_finds : (bytes : List ℕ) → 0 < marked_len mark len bytes → Cut (Behind (mark ∷ []) test) bytes (marked_len mark len bytes)
  marked_finds [] lt = absurd (omega arith)
  marked_finds (b ∷ bytes) lt = by (eqb b mark) refl lt
    where
      by : (t : Bool) → eqb b mark ≡ t → 0 < cond t (counted (len bytes)) 0 → Cut (Behind (mark ∷ []) test) (b ∷ bytes) (cond t (counted (len bytes)) 0)
      by false e lt = absurd (omega arith)
      by true e lt =
          let w = counted_is (len bytes) lt in
          let r = g.finds bytes w.0 in
          let same : b ≡ mark = eqb-true b mark e in
          record {
            text = mark ∷ r.front;
            rest = r.rest;
            whole = ap (λ (c : ℕ). c ∷ bytes) same ∙ ap (λ (l : List ℕ). mark ∷ l) r.whole;
            size = w.1 ∙ omega (arith, r.size);
            is = record { rest = r.front; whole = refl; passes = r.passes };
          }

  marked_most : (text rest : List ℕ) → test [] ≡ false → Behind (mark ∷ []) test text → length text ≤ marked_len mark len (text ++ rest)
  marked_most text rest empty h = subst (λ (l : List ℕ). length l ≤ marked_len mark len (l ++ rest)) (sym h.whole) (by h.rest h.passes)
    where
      by : (inside : List ℕ) → test inside ≡ true → length (mark ∷ inside) ≤ marked_len mark len (mark ∷ (inside ++ rest))
      by [] e = let clash : false ≡ true = sym empty ∙ e in absurd cc
      by (b ∷ inside) e =
          let more : length (b ∷ inside) ≤ len ((b ∷ inside) ++ rest) = g.most (b ∷ inside) rest e in
          let k : counted (len ((b ∷ inside) ++ rest)) ≡ len ((b ∷ inside) ++ rest) + 1 = counted_more _ (omega arith) in
          rw (eqb-self mark) (omega arith)

-- ---- quotes

unquoted_not : (b : ℕ) → is_unquoted b ≡ false → b ≡ 34
unquoted_not b e = by (eqb b 34) refl e
  where
    by : (t : Bool) → eqb b 34 ≡ t → not t ≡ false → b ≡ 34
    by true h e = eqb-true b 34 h
    by false h e = absurd cc

-- bytes without a quote, and a quote
record Closed (text : List ℕ) : Type 0 where
  inside : List ℕ
  whole : text ≡ inside ++ 34 ∷ []
  unquoted : list_all is_unquoted inside ≡ true

closed_finds : (bytes : List ℕ) → 0 < closed_len bytes → Cut Closed bytes (closed_len bytes)
closed_finds bytes lt = by (nat_lt (prefix_len is_unquoted bytes) (length bytes)) refl lt
  where
    below : (a b : ℕ) → nat_lt a b ≡ true → a < b
    below a b e = grind (arith, nat_tests)

    by : (t : Bool) → nat_lt (prefix_len is_unquoted bytes) (length bytes) ≡ t → 0 < cond t (prefix_len is_unquoted bytes + 1) 0 → Cut Closed bytes (cond t (prefix_len is_unquoted bytes + 1) 0)
    by false e lt = absurd (omega arith)
    by true e lt =
        let s = run_stops is_unquoted bytes (below _ _ e) in
        let quote : s.byte ≡ 34 = unquoted_not s.byte s.stops in
        record {
          text = s.front ++ 34 ∷ [];
          rest = s.rest;
          whole = s.whole ∙ ap (λ (c : ℕ). s.front ++ c ∷ s.rest) quote ∙ sym (append_assoc s.front (34 ∷ []) s.rest);
          size = omega (arith, s.size, length-append s.front (34 ∷ []));
          is = record { inside = s.front; whole = refl; unquoted = s.all };
        }

closed_ends : (inside rest : List ℕ) → list_all is_unquoted inside ≡ true → closed_len (inside ++ 34 ∷ rest) ≡ length inside + 1
closed_ends inside rest all =
    let e : prefix_len is_unquoted (inside ++ 34 ∷ rest) ≡ length inside = run_ends is_unquoted inside rest 34 refl all in
    let lt : nat_lt (prefix_len is_unquoted (inside ++ 34 ∷ rest)) (length (inside ++ 34 ∷ rest)) ≡ true = lt-ltb _ _ (omega (arith, length-append inside (34 ∷ rest))) in
    rw lt (omega arith)

str_finds : (bytes : List ℕ) → 0 < str_len bytes → Cut (Quoted (codes "\"")) bytes (str_len bytes)
str_finds [] lt = absurd (omega arith)
str_finds (b ∷ bytes) lt = by (eqb b 34) refl lt
  where
    by : (t : Bool) → eqb b 34 ≡ t → 0 < cond t (counted (closed_len bytes)) 0 → Cut (Quoted (codes "\"")) (b ∷ bytes) (cond t (counted (closed_len bytes)) 0)
    by false e lt = absurd (omega arith)
    by true e lt =
        let w = counted_is (closed_len bytes) lt in
        let r = closed_finds bytes w.0 in
        let same : b ≡ 34 = eqb-true b 34 e in
        record {
          text = 34 ∷ r.text;
          rest = r.rest;
          whole = ap (λ (c : ℕ). c ∷ bytes) same ∙ ap (λ (l : List ℕ). 34 ∷ l) r.whole;
          size = w.1 ∙ omega (arith, r.size);
          is = record { inside = r.is.inside; whole = ap (λ (l : List ℕ). 34 ∷ l) r.is.whole; unquoted = r.is.unquoted };
        }

str_of : (inside rest : List ℕ) → list_all is_unquoted inside ≡ true → str_len (34 ∷ ((inside ++ 34 ∷ []) ++ rest)) ≡ length inside + 2
str_of inside rest all =
    let e : closed_len ((inside ++ 34 ∷ []) ++ rest) ≡ length inside + 1 = ap closed_len (append_assoc inside (34 ∷ []) rest) ∙ closed_ends inside rest all in
    counted_more _ (omega arith) ∙ omega arith

str_most : (text rest : List ℕ) → Quoted (codes "\"") text → length text ≤ str_len (text ++ rest)
str_most text rest h =
    let e : str_len (34 ∷ ((h.inside ++ 34 ∷ []) ++ rest)) ≡ length h.inside + 2 = str_of h.inside rest h.unquoted in
    let n : length (h.inside ++ 34 ∷ []) ≡ length h.inside + 1 = length-append h.inside (34 ∷ []) ∙ omega arith in
    let here : length (34 ∷ (h.inside ++ 34 ∷ [])) ≤ str_len (34 ∷ ((h.inside ++ 34 ∷ []) ++ rest)) = omega arith in
    subst (λ (l : List ℕ). length l ≤ str_len (l ++ rest)) (sym h.whole) here

bytes_finds : (bytes : List ℕ) → 0 < bytes_len bytes → Cut (Quoted (codes "c\"")) bytes (bytes_len bytes)
bytes_finds [] lt = absurd (omega arith)
bytes_finds (b ∷ bytes) lt = by (eqb b 99) refl lt
  where
    by : (t : Bool) → eqb b 99 ≡ t → 0 < cond t (counted (str_len bytes)) 0 → Cut (Quoted (codes "c\"")) (b ∷ bytes) (cond t (counted (str_len bytes)) 0)
    by false e lt = absurd (omega arith)
    by true e lt =
        let w = counted_is (str_len bytes) lt in
        let r = str_finds bytes w.0 in
        let same : b ≡ 99 = eqb-true b 99 e in
        record {
          text = 99 ∷ r.text;
          rest = r.rest;
          whole = ap (λ (c : ℕ). c ∷ bytes) same ∙ ap (λ (l : List ℕ). 99 ∷ l) r.whole;
          size = w.1 ∙ omega (arith, r.size);
          is = record { inside = r.is.inside; whole = ap (λ (l : List ℕ). 99 ∷ l) r.is.whole; unquoted = r.is.unquoted };
        }

bytes_most : (text rest : List ℕ) → Quoted (codes "c\"") text → length text ≤ bytes_len (text ++ rest)
bytes_most text rest h =
    let e : str_len (34 ∷ ((h.inside ++ 34 ∷ []) ++ rest)) ≡ length h.inside + 2 = str_of h.inside rest h.unquoted in
    let n : length (h.inside ++ 34 ∷ []) ≡ length h.inside + 1 = length-append h.inside (34 ∷ []) ∙ omega arith in
    let k : counted (str_len (34 ∷ ((h.inside ++ 34 ∷ []) ++ rest))) ≡ str_len (34 ∷ ((h.inside ++ 34 ∷ []) ++ rest)) + 1 = counted_more _ (omega arith) in
    let here : length (99 ∷ 34 ∷ (h.inside ++ 34 ∷ [])) ≤ bytes_len (99 ∷ 34 ∷ ((h.inside ++ 34 ∷ []) ++ rest)) = omega arith in
    subst (λ (l : List ℕ). length l ≤ bytes_len (l ++ rest)) (sym h.whole) here

-- ---- labels

begins_with_is : (c : ℕ) (bytes : List ℕ) → begins_with c bytes ≡ true → bytes ≡ c ∷ drop 1 bytes
begins_with_is c [] e = absurd cc
begins_with_is c (b ∷ bytes) e = let same : b ≡ c = eqb-true b c e in ap (λ (x : ℕ). x ∷ bytes) same

label_finds : (bytes : List ℕ) → 0 < label_len bytes → Cut (Before is_name (codes ":")) bytes (label_len bytes)
label_finds bytes lt = by (nat_lt 0 (name_len bytes) && begins_with 58 (drop (name_len bytes) bytes)) refl lt
  where
    above : (n : ℕ) → nat_lt 0 n ≡ true → 0 < n
    above n e = grind (arith, nat_tests)

    by : (t : Bool) → (nat_lt 0 (name_len bytes) && begins_with 58 (drop (name_len bytes) bytes)) ≡ t → 0 < cond t (name_len bytes + 1) 0 → Cut (Before is_name (codes ":")) bytes (cond t (name_len bytes + 1) 0)
    by false e lt = absurd (omega arith)
    by true e lt =
        let w = both_true (nat_lt 0 (name_len bytes)) _ e in
        let r = names.finds bytes (above _ w.0) in
        let behind : drop (name_len bytes) bytes ≡ r.rest = ap (drop (name_len bytes)) r.whole ∙ drop_at r.front r.rest (name_len bytes) (sym r.size) in
        let colon : r.rest ≡ 58 ∷ drop 1 r.rest = begins_with_is 58 r.rest (ap (begins_with 58) (sym behind) ∙ w.1) in
        record {
          text = r.front ++ 58 ∷ [];
          rest = drop 1 r.rest;
          whole = r.whole ∙ ap (λ (l : List ℕ). r.front ++ l) colon ∙ sym (append_assoc r.front (58 ∷ []) (drop 1 r.rest));
          size = omega (arith, r.size, length-append r.front (58 ∷ []));
          is = record { begin = r.front; whole = refl; passes = r.passes };
        }

label_most : (text rest : List ℕ) → Before is_name (codes ":") text → length text ≤ label_len (text ++ rest)
label_most text rest h =
    let same : text ++ rest ≡ h.begin ++ 58 ∷ rest = ap (λ (l : List ℕ). l ++ rest) h.whole ∙ append_assoc h.begin (58 ∷ []) rest in
    let size : length text ≡ length h.begin + 1 = ap length h.whole ∙ length-append h.begin (58 ∷ []) in
    let n : name_len (h.begin ++ 58 ∷ rest) ≡ length h.begin = name_ends h.begin rest h.passes in
    let some : nat_lt 0 (name_len (h.begin ++ 58 ∷ rest)) ≡ true = lt-ltb _ _ (omega (arith, nonempty h.begin h.passes)) in
    let colon : begins_with 58 (drop (name_len (h.begin ++ 58 ∷ rest)) (h.begin ++ 58 ∷ rest)) ≡ true = ap (begins_with 58) (drop_at h.begin (58 ∷ rest) _ (sym n)) in
    let len : label_len (h.begin ++ 58 ∷ rest) ≡ name_len (h.begin ++ 58 ∷ rest) + 1 = ap (λ (t : Bool). cond t (name_len (h.begin ++ 58 ∷ rest) + 1) 0) (both _ _ some colon) in
    rw same (omega arith)
  where
    nonempty : (name : List ℕ) → is_name name ≡ true → 0 < length name
    nonempty [] e = absurd cc
    nonempty (b ∷ name) e = omega arith

-- ---- numbers

num_finds : (first : Bool) (bytes : List ℕ) → 0 < num_len bytes → Cut (IsToken first Num) bytes (num_len bytes)
unfolding IsToken
num_finds first [] lt = absurd (omega arith)
num_finds first (b ∷ bytes) lt = by (eqb b 45) refl lt
  where
    by : (t : Bool) → eqb b 45 ≡ t → 0 < cond t (counted (digits_len bytes)) (digits_len (b ∷ bytes)) → Cut (IsToken first Num) (b ∷ bytes) (cond t (counted (digits_len bytes)) (digits_len (b ∷ bytes)))
    by false e lt =
        let r = digits.finds (b ∷ bytes) lt in
        record { text = r.front; rest = r.rest; whole = r.whole; size = r.size; is = inl r.passes }
    by true e lt =
        let w = counted_is (digits_len bytes) lt in
        let r = digits.finds bytes w.0 in
        let same : b ≡ 45 = eqb-true b 45 e in
        record {
          text = 45 ∷ r.front;
          rest = r.rest;
          whole = ap (λ (c : ℕ). c ∷ bytes) same ∙ ap (λ (l : List ℕ). 45 ∷ l) r.whole;
          size = w.1 ∙ omega (arith, r.size);
          is = inr (record { rest = r.front; whole = refl; passes = r.passes });
        }

digits_num : (text rest : List ℕ) → is_digits text ≡ true → length text ≤ num_len (text ++ rest)
digits_num [] rest e = absurd cc
digits_num (b ∷ text) rest e =
    let w = both_true (is_digit b) (list_all is_digit text) e in
    let more : length (b ∷ text) ≤ digits_len ((b ∷ text) ++ rest) = digits.most (b ∷ text) rest e in
    rw (apart is_digit b 45 refl w.0) more

num_most : (text rest : List ℕ) → (is_digits text ≡ true) ⊎ Behind (codes "-") is_digits text → length text ≤ num_len (text ++ rest)
num_most text rest (inl e) = digits_num text rest e
num_most text rest (inr h) = subst (λ (l : List ℕ). length l ≤ num_len (l ++ rest)) (sym h.whole) (marked_most 45 digits (45 ∷ h.rest) rest refl (record { rest = h.rest; whole = refl; passes = h.passes }))

-- ---- marks of punctuation

punct_finds : (bytes : List ℕ) → 0 < punct_len bytes → Cut (λ text. is_one_punct text ≡ true) bytes (punct_len bytes)
punct_finds [] lt = absurd (omega arith)
punct_finds (b ∷ bytes) lt = by (is_punct b) refl lt
  where
    by : (t : Bool) → is_punct b ≡ t → 0 < cond t 1 0 → Cut (λ text. is_one_punct text ≡ true) (b ∷ bytes) (cond t 1 0)
    by false e lt = absurd (omega arith)
    by true e lt = record { text = b ∷ []; rest = bytes; whole = refl; size = refl; is = e }

punct_most : (text rest : List ℕ) → is_one_punct text ≡ true → length text ≤ punct_len (text ++ rest)
punct_most [] rest e = absurd cc
punct_most (b ∷ []) rest e = rw e (omega arith)
punct_most (b ∷ c ∷ text) rest e = absurd cc

-- ---- all kinds

part_cut : (test : List ℕ → Bool) (bytes : List ℕ) (n : ℕ) → Part test bytes n → Cut (λ text. test text ≡ true) bytes n
part_cut test bytes n r = record { text = r.front; rest = r.rest; whole = r.whole; size = r.size; is = r.passes }

label_found : (first : Bool) (bytes : List ℕ) → 0 < len_of first Label bytes → Cut (IsToken first Label) bytes (len_of first Label bytes)
unfolding len_of IsToken
label_found false bytes lt = absurd (omega arith)
label_found true bytes lt = let r = label_finds bytes lt in record { text = r.text; rest = r.rest; whole = r.whole; size = r.size; is = (refl, r.is) }

pub found : (first : Bool) (kind : TokKind) (bytes : List ℕ) → 0 < len_of first kind bytes → Cut (IsToken first kind) bytes (len_of first kind bytes)
unfolding len_of IsToken
found first Word bytes lt = part_cut _ bytes _ (words.finds bytes lt)
found first Local bytes lt = marked_finds 37 names bytes lt
found first At bytes lt = marked_finds 64 names bytes lt
found first Label bytes lt = label_found first bytes lt
found first Num bytes lt = num_finds first bytes lt
found first Bytes bytes lt = bytes_finds bytes lt
found first Str bytes lt = str_finds bytes lt
found first Hash bytes lt = marked_finds 35 digits bytes lt
found first Bang bytes lt = marked_finds 33 names bytes lt
found first Punct bytes lt = punct_finds bytes lt

pub most : (first : Bool) (kind : TokKind) (text rest : List ℕ) → IsToken first kind text → length text ≤ len_of first kind (text ++ rest)
unfolding len_of IsToken
most first Word text rest h = words.most text rest h
most first Local text rest h = marked_most 37 names text rest refl h
most first At text rest h = marked_most 64 names text rest refl h
most first Label text rest h = rw h.0 (label_most text rest h.1)
most first Num text rest h = num_most text rest h
most first Bytes text rest h = bytes_most text rest h
most first Str text rest h = str_most text rest h
most first Hash text rest h = marked_most 35 digits text rest refl h
most first Bang text rest h = marked_most 33 names text rest refl h
most first Punct text rest h = punct_most text rest h
