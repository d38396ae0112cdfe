-- What `longest_of` finds is the longest token at the front, which is one only.
use Rattle.std.proofs.Common.{◌≡◌, ℕ, zero, suc, ◌+◌, ◌<◌, ◌≤◌, Bool, true, false, cond, nat_lt, List, [], ◌∷◌, ◌++◌, length, take, get_or, refl, sym, ap, subst, ◌∙◌, arith, fold}
use Rattle.std.proofs.lemmas.Bool.Decides.{nat_tests}
use Rattle.std.proofs.lemmas.List.{take_at, length-append}
use Rattle.ir_core.specs.declared.text.TokKind.{TokKind}
use Rattle.ir_core.specs.declared.text.TokKind.TheVariants.{Word, Local, At, Label, Num, Bytes, Str, Hash, Bang, Punct}
use Rattle.ir_core.specs.Tokens.{IsToken, IsFront, IsLongest, Begins}
use Rattle.ir_core.specs.TokenLengths.{len_of, longer, longest_of}
use Rattle.ir_core.proofs.Found.{found, most}
use Rattle.ir_core.proofs.OneKind.{one_kind, nonempty}

longer_left : (best : TokKind × ℕ) (kind : TokKind) (len : ℕ) → best.1 ≤ (longer best kind len).1
longer_left best kind len = by (nat_lt best.1 len) refl
  where
    by : (t : Bool) → nat_lt best.1 len ≡ t → best.1 ≤ (cond t (kind, len) best).1
    by true e = let lt : best.1 < len = below best.1 len e in omega arith
      where
        below : (a b : ℕ) → nat_lt a b ≡ true → a < b
        below a b e = grind (arith, nat_tests)
    by false e = omega arith

longer_right : (best : TokKind × ℕ) (kind : TokKind) (len : ℕ) → len ≤ (longer best kind len).1
longer_right best kind len = by (nat_lt best.1 len) refl
  where
    by : (t : Bool) → nat_lt best.1 len ≡ t → len ≤ (cond t (kind, len) best).1
    by true e = omega arith
    by false e = let le : len ≤ best.1 = above best.1 len e in le
      where
        above : (a b : ℕ) → nat_lt a b ≡ false → b ≤ a
        above a b e = grind (arith, nat_tests)

module _ (first : Bool) (bytes : List ℕ) where
  abbrev step : TokKind × ℕ → TokKind → TokKind × ℕ
  step best kind = longer best kind (len_of first kind bytes)

  fold_most : (kinds : List TokKind) (best : TokKind × ℕ) → best.1 ≤ (fold step best kinds).1
  fold_most [] best = omega arith
  fold_most (kind ∷ kinds) best =
      let a : best.1 ≤ (step best kind).1 = longer_left best kind (len_of first kind bytes) in
      let b : (step best kind).1 ≤ (fold step (step best kind) kinds).1 = fold_most kinds (step best kind) in
      omega arith

  fold_each : (kinds : List TokKind) (best : TokKind × ℕ) (i : ℕ) → i < length kinds → len_of first (get_or kinds i Word) bytes ≤ (fold step best kinds).1
  fold_each [] best i lt = absurd (omega arith)
  fold_each (kind ∷ kinds) best zero lt =
      let a : len_of first kind bytes ≤ (step best kind).1 = longer_right best kind (len_of first kind bytes) in
      let b : (step best kind).1 ≤ (fold step (step best kind) kinds).1 = fold_most kinds (step best kind) in
      omega arith
  fold_each (kind ∷ kinds) best (suc i) lt = fold_each kinds (step best kind) i (omega arith)

  abbrev is_its : TokKind × ℕ → Type 0
  is_its best = best.1 ≡ len_of first best.0 bytes

  longer_is : (best : TokKind × ℕ) (kind : TokKind) → is_its best → is_its (step best kind)
  longer_is best kind h = by (nat_lt best.1 (len_of first kind bytes))
    where
      by : (t : Bool) → is_its (cond t (kind, len_of first kind bytes) best)
      by true = refl
      by false = h

  fold_is : (kinds : List TokKind) (best : TokKind × ℕ) → is_its best → is_its (fold step best kinds)
  fold_is [] best h = h
  fold_is (kind ∷ kinds) best h = fold_is kinds (step best kind) (longer_is best kind h)

  abbrev others : List TokKind
  others = Local ∷ At ∷ Label ∷ Num ∷ Bytes ∷ Str ∷ Hash ∷ Bang ∷ Punct ∷ []

  abbrev start : TokKind × ℕ
  start = (Word, len_of first Word bytes)

  longest_is : (longest_of first bytes).1 ≡ len_of first (longest_of first bytes).0 bytes
  unfolding longest_of
  longest_is = fold_is others start refl

  longest_most : (kind : TokKind) → len_of first kind bytes ≤ (longest_of first bytes).1
  unfolding longest_of
  longest_most Word = fold_most others start
  longest_most Local = fold_each others start 0 (omega arith)
  longest_most At = fold_each others start 1 (omega arith)
  longest_most Label = fold_each others start 2 (omega arith)
  longest_most Num = fold_each others start 3 (omega arith)
  longest_most Bytes = fold_each others start 4 (omega arith)
  longest_most Str = fold_each others start 5 (omega arith)
  longest_most Hash = fold_each others start 6 (omega arith)
  longest_most Bang = fold_each others start 7 (omega arith)
  longest_most Punct = fold_each others start 8 (omega arith)

  -- no token at the front is longer
  longest_bound : (kind : TokKind) (text : List ℕ) → IsToken first kind text → IsFront text bytes → length text ≤ (longest_of first bytes).1
  longest_bound kind text h front =
      let a : length text ≤ len_of first kind (text ++ front.0) = most first kind text front.0 h in
      let b : len_of first kind (text ++ front.0) ≡ len_of first kind bytes = ap (len_of first kind) (sym front.1) in
      let c : len_of first kind bytes ≤ (longest_of first bytes).1 = longest_most kind in
      omega arith

  -- what is found
  pub record Longest (kind : TokKind) (len : ℕ) : Type 0 where
    pub text : List ℕ
    pub is : IsLongest first kind text bytes
    pub size : length text ≡ len
    pub within : len ≤ length bytes

  pub longest_found : 0 < (longest_of first bytes).1 → Longest (longest_of first bytes).0 (longest_of first bytes).1
  longest_found lt =
      let e : (longest_of first bytes).1 ≡ len_of first (longest_of first bytes).0 bytes = longest_is in
      let r = found first (longest_of first bytes).0 bytes (omega arith) in
      let size : length r.text ≡ (longest_of first bytes).1 = sym r.size ∙ sym e in
      let whole : length bytes ≡ length r.text + length r.rest = ap length r.whole ∙ length-append r.text r.rest in
      record {
        text = r.text;
        is = record { is = r.is; front = (r.rest, r.whole); longest = λ other shorter h front. let b : length shorter ≤ (longest_of first bytes).1 = longest_bound other shorter h front in omega arith };
        size = size;
        within = omega arith;
      }

  -- a token isn't empty
  pub some_text : (kind : TokKind) (text : List ℕ) → IsToken first kind text → 0 < length text
  some_text kind [] h = absurd (nonempty first kind h)
  some_text kind (b ∷ text) h = omega arith

  -- where nothing is found no token begins
  pub longest_none : (longest_of first bytes).1 ≡ 0 → Begins first bytes → ⊥
  longest_none e h =
      let a : length h.1 ≤ (longest_of first bytes).1 = longest_bound h.0 h.1 h.2 h.3 in
      let b : 0 < length h.1 = some_text h.0 h.1 h.2 in
      omega arith

-- two longest tokens are one
front_is : (text bytes : List ℕ) → IsFront text bytes → text ≡ take (length text) bytes
front_is text bytes h = sym (ap (take (length text)) h.1 ∙ take_at text h.0 (length text) refl)

pub same_text : (first : Bool) (kind other : TokKind) (text again bytes : List ℕ) → IsLongest first kind text bytes → IsLongest first other again bytes → text ≡ again
same_text first kind other text again bytes h k =
    let a : length again ≤ length text = h.longest other again k.is k.front in
    let b : length text ≤ length again = k.longest kind text h.is h.front in
    let size : length text ≡ length again = omega arith in
    front_is text bytes h.front ∙ ap (λ (n : ℕ). take n bytes) size ∙ sym (front_is again bytes k.front)

pub same_kind : (first : Bool) (kind other : TokKind) (text again bytes : List ℕ) → IsLongest first kind text bytes → IsLongest first other again bytes → kind ≡ other
same_kind first kind other text again bytes h k =
    one_kind first kind other text h.is (subst (λ (l : List ℕ). IsToken first other l) (sym (same_text first kind other text again bytes h k)) k.is)
