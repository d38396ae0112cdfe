-- A `switch` over several lines: where its tokens fit the lines are read, and the first unfit one is on the line that is told.
use Rattle.std.specs.Prelude.{slice_get}
use Rattle.std.proofs.Common.{◌≡◌, ℕ, zero, suc, ◌+◌, ◌≤◌, ◌<◌, inl, inr, Bool, true, false, List, [], ◌∷◌, ◌++◌, length, leb, Option, ap, refl, sym, subst, ◌∙◌, arith}
use Rattle.std.proofs.lemmas.Bool.{false≢true, leb-true, leb-false, le-leb, lt-leb}
use Rattle.std.proofs.lemmas.List.{append-nil, append_assoc, length-append, length-map, map-append}
use Rattle.ir_core.specs.declared.text.Token.{Token}
use Rattle.ir_core.specs.declared.types.Loc.{Loc}
use Rattle.ir_core.specs.Module.{ModuleParts, FuncParts}
use Rattle.ir_core.specs.Lines.{IsDropped}
use Rattle.ir_core.specs.Tokens.{HasTokens}
use Rattle.ir_grammar.specs.declared.trees.BodyLine.{BodyLine}
use Rattle.ir_grammar.specs.Parts.{Tok}
use Rattle.ir_grammar.specs.Fitting.{IsLine, IsUnfit}
use Rattle.ir_grammar.specs.Tokens.{token_of, tokens_of}
use Rattle.ir_grammar.specs.Top.{body_line}
use Rattle.ir_parse_top.specs.Sheet.{Sheet, Inside}
use Rattle.ir_parse_top.specs.Text.{Line, all_moved, is_unclosed, place_of_switch, Leads, Blank, Said, BadWord, text_or_end, word_at, AtWord, Run, Trips}
use Rattle.ir_parse_top.specs.Reading.{closes, Grows, count_until}
use Rattle.ir_parse_top.proofs.PassedLines.{cons_isnt_nil}
use Rattle.ir_parse_top.proofs.Unfit.{unfit_front, front_early, line_early}
use Rattle.ir_parse_top.proofs.Unclosed.{opened, unclosed_more, nothing_unclosed}

-- ---- counts

count_more : (k n : ℕ) (ns : List ℕ) → n ≤ k → count_until k (n ∷ ns) ≡ 1 + count_until k ns
count_more k n ns h = rw (le-leb n k h) refl

count_none : (k n : ℕ) (ns : List ℕ) → k < n → count_until k (n ∷ ns) ≡ 0
count_none k n ns h = rw (lt-leb n k h) refl

-- ---- the word of a token

get_left : {X : Type 0} (xs ys : List X) (k : ℕ) → k < length xs → slice_get (xs ++ ys) k ≡ slice_get xs k
get_left [] ys k h = absurd (omega (arith, h))
get_left (x ∷ xs) ys zero h = refl
get_left (x ∷ xs) ys (suc k) h = get_left xs ys k (omega (arith, h))

-- ---- tokens that have joined

module _ (text : List ℕ) where
  abbrev unclosed_at : List Token → Type 0
  unclosed_at t = is_unclosed (tokens_of text t) ≡ true

  abbrev unfit_at : List Token → ℕ → Type 0
  unfit_at t k = IsUnfit body_line.means (tokens_of text t) k

  pub same_length : (t : List Token) → length (tokens_of text t) ≡ length t
  same_length t = length-map t (token_of text)

  pub joined_tokens : (a b : List Token) → tokens_of text (a ++ b) ≡ tokens_of text a ++ tokens_of text b
  joined_tokens a b = map-append (token_of text) a b

  pub unclosed_joined : (a b : List Token) → unclosed_at a → closes text b ≡ false → unclosed_at (a ++ b)
  unclosed_joined a b e h = ap is_unclosed (joined_tokens a b) ∙ unclosed_more (tokens_of text a) (tokens_of text b) e h

  no_line : (t : List Token) → unclosed_at t → (v : BodyLine) → body_line.means (tokens_of text t) v → ⊥
  no_line t e v = nothing_unclosed (tokens_of text t) v e

  -- the front of a `switch` fits as far as the whole does
  pub early : (a b all : List Token) (k : ℕ) → all ≡ a ++ b → unclosed_at a → unfit_at all k → length a ≤ k → unfit_at a (length a)
  early a b all k e is_open u h =
      let n : length (tokens_of text a) ≡ length a = same_length a in
      subst (unfit_at a) n (front_early body_line.means (tokens_of text a) (tokens_of text b) k (subst (λ (ts : List Tok). IsUnfit body_line.means ts k) (ap (tokens_of text) e ∙ joined_tokens a b) u) (omega (arith, n, h)) (no_line a is_open))

  pub early_line : (a b all : List Token) (v : BodyLine) → all ≡ a ++ b → unclosed_at a → IsLine body_line.means (tokens_of text all) v → unfit_at a (length a)
  early_line a b all v e is_open l =
      subst (unfit_at a) (same_length a) (line_early body_line.means (tokens_of text a) (tokens_of text b) v (subst (λ (ts : List Tok). IsLine body_line.means ts v) (ap (tokens_of text) e ∙ joined_tokens a b) l) (no_line a is_open))

  pub unfit_before : (a b all : List Token) (k : ℕ) → all ≡ a ++ b → unfit_at all k → k < length a → unfit_at a k
  unfit_before a b all k e u h =
      let n : length (tokens_of text a) ≡ length a = same_length a in
      unfit_front body_line.means (tokens_of text a) (tokens_of text b) k (subst (λ (ts : List Tok). IsUnfit body_line.means ts k) (ap (tokens_of text) e ∙ joined_tokens a b) u) (omega (arith, n, h))

  pub same_word : (a b all : List Token) (k : ℕ) → all ≡ a ++ b → k < length a → word_at text all k ≡ word_at text a k
  same_word a b all k e h =
      let n : length (tokens_of text a) ≡ length a = same_length a in
      ap (λ (o : Option Tok). BadWord (text_or_end o)) (ap (λ (ts : List Tok). slice_get ts k) (ap (tokens_of text) e ∙ joined_tokens a b) ∙ get_left (tokens_of text a) (tokens_of text b) k (omega (arith, n, h)))

  -- ---- what has grown

  pub record Extends (t : List Token) (used : List Line) (all : List Token) (counts : List ℕ) : Type 0 where
    pub extra : List Token
    pub is : all ≡ t ++ extra
    pub lines : length counts ≡ length used + 1

  pub extends : (t : List Token) (used : List Line) (all : List Token) (counts : List ℕ) → Grows text t used all counts → Extends t used all counts
  unfolding Grows
  extends t [] all counts g = record { extra = []; is = g.0 ∙ sym (append-nil t); lines = ap length g.1 }
  extends t (line ∷ used) all counts g =
      let own = all_moved line.at g.0 in
      let x = extends (t ++ own) used all g.1 g.5 in
      record { extra = own ++ x.extra; is = x.is ∙ append_assoc t own x.extra; lines = (let l : length g.1 ≡ length used + 1 = x.lines in let c : length counts ≡ length (length t ∷ g.1) = ap length g.4 in omega (arith, l, c)) }

  -- where no token of the front is unfit, all counts are
  pub count_whole : (k : ℕ) (t : List Token) (used : List Line) (all : List Token) (counts : List ℕ) → Grows text t used all counts → length all ≤ k → count_until k counts ≡ length counts
  unfolding Grows
  count_whole k t [] all counts g h =
      let n : length all ≡ length t = ap length g.0 in
      ap (count_until k) g.1 ∙ count_more k (length t) [] (omega (arith, n, h)) ∙ sym (ap length g.1)
  count_whole k t (line ∷ used) all counts g h =
      let own = all_moved line.at g.0 in
      let x = extends (t ++ own) used all g.1 g.5 in
      let n : length all ≡ length t + length own + length x.extra = ap length x.is ∙ length-append (t ++ own) x.extra ∙ ap (λ (m : ℕ). m + length x.extra) (length-append t own) in
      ap (count_until k) g.4 ∙ count_more k (length t) g.1 (omega (arith, n, h)) ∙ ap (λ (m : ℕ). 1 + m) (count_whole k (t ++ own) used all g.1 g.5 h) ∙ (let c : length counts ≡ length (length t ∷ g.1) = ap length g.4 in let e : 1 + length g.1 ≡ length counts = omega (arith, c) in e)

  pub count_head : (k : ℕ) (t : List Token) (used : List Line) (all : List Token) (counts : List ℕ) → Grows text t used all counts → k < length t → count_until k counts ≡ 0
  unfolding Grows
  count_head k t [] all counts g h = ap (count_until k) g.1 ∙ count_none k (length t) [] h
  count_head k t (line ∷ used) all counts g h = ap (count_until k) g.4 ∙ count_none k (length t) g.1 h

  pub unclosed_grown : (t : List Token) (used : List Line) (all : List Token) (counts : List ℕ) → unclosed_at t → Grows text t used all counts → unclosed_at all
  unfolding Grows
  unclosed_grown t [] all counts is_open g = subst unclosed_at (sym g.0) is_open
  unclosed_grown t (line ∷ used) all counts is_open g = unclosed_grown (t ++ all_moved line.at g.0) used all g.1 (unclosed_joined t (all_moved line.at g.0) is_open g.3) g.5

  -- ---- lines of an is_open `switch`

  pub not_dropped : (t : List Token) (bytes : List ℕ) → unclosed_at t → IsDropped (place_of_switch t) bytes → ⊥
  not_dropped [] bytes e d = false≢true (opened [] e).at_switch
  not_dropped (x ∷ t) bytes e d = d

  module _ (tree : ModuleParts) (f : FuncParts) (entry : Loc) where
    abbrev pub behind : List Token → Sheet
    behind t = Inside tree f entry t

    -- a line that leaves the brackets is_open
    line_leads : (t own : List Token) (line : Line) → unclosed_at t → HasTokens line.bytes own → closes text (all_moved line.at own) ≡ false → unfit_at (t ++ all_moved line.at own) (length (t ++ all_moved line.at own)) → Leads text (behind t) line (behind (t ++ all_moved line.at own))
    line_leads t [] line is_open is closed fits = Blank (not_dropped t line.bytes is_open) is (ap behind (append-nil t))
    line_leads t (o ∷ own) line is_open is closed fits =
        Said (t ++ all_moved line.at (o ∷ own)) (record { tokens = o ∷ own; kept = not_dropped t line.bytes is_open; own = is; some = λ e. cons_isnt_nil e; whole = refl })
        (inr (record { unclosed = unclosed_joined t (all_moved line.at (o ∷ own)) is_open closed; fits = fits }, refl))

    -- tokens that fit are read, line by line
    pub runs_through : (t : List Token) (used : List Line) (all : List Token) (counts : List ℕ) → unclosed_at t → Grows text t used all counts → unfit_at all (length all) → Run text (behind t) used (behind all)
    unfolding Grows
    runs_through t [] all counts is_open g fits = ap behind g.0
    runs_through t (line ∷ used) all counts is_open g fits =
        let own = all_moved line.at g.0 in
        let x = extends (t ++ own) used all g.1 g.5 in
        let n : length all ≡ length (t ++ own) + length x.extra = ap length x.is ∙ length-append (t ++ own) x.extra in
        let still = unclosed_joined t own is_open g.3 in
        (behind (t ++ own), line_leads t g.0 line is_open g.2 g.3 (early (t ++ own) x.extra all (length all) x.is still fits (omega (arith, n))), runs_through (t ++ own) used all g.1 still g.5 fits)

    -- the first unfit token among them is on the line that the counts tell
    pub trips_within : (number n k : ℕ) (t : List Token) (used rest : List Line) (all : List Token) (counts : List ℕ) → unclosed_at t → Grows text t used all counts → unfit_at all k → length t ≤ k → k < length all → n + 1 ≡ number + count_until k counts
        → Trips text number (behind t) (used ++ rest) n (word_at text all k)
    unfolding Grows
    trips_within number n k t [] rest all counts is_open g u low high is = absurd (let e : length all ≡ length t = ap length g.0 in omega (arith, e, low, high))
    trips_within number n k t (line ∷ used) rest all counts is_open g u low high is =
        by (leb (length next) k) refl (λ h j. trips_within (number + 1) n k next used rest all g.1 still g.5 u h high j)
      where
        next : List Token
        next = t ++ all_moved line.at g.0

        x : Extends next used all g.1
        x = extends next used all g.1 g.5

        here : count_until k counts ≡ 1 + count_until k g.1
        here = ap (count_until k) g.4 ∙ count_more k (length t) g.1 low

        still : unclosed_at next
        still = unclosed_joined t (all_moved line.at g.0) is_open g.3

        some : k < length next → g.0 ≡ [] → ⊥
        some h e = let n : length next ≡ length t = ap (λ (own : List Token). length (t ++ all_moved line.at own)) e ∙ ap length (append-nil t) in omega (arith, n, h, low)

        by : (b : Bool) → leb (length next) k ≡ b → (length next ≤ k → n + 1 ≡ (number + 1) + count_until k g.1 → Trips text (number + 1) (behind next) (used ++ rest) n (word_at text all k)) → Trips text number (behind t) (line ∷ (used ++ rest)) n (word_at text all k)
        by false e again =
            let h : k < length next = leb-false (length next) k e in
            let none : count_until k g.1 ≡ 0 = count_head k next used all g.1 g.5 h in
            let c : count_until k counts ≡ 1 + count_until k g.1 = here in
            let i : n + 1 ≡ number + count_until k counts = is in
            inl (
              let at : n ≡ number = omega (arith, none, c, i) in at,
              AtWord next k (record { tokens = g.0; kept = not_dropped t line.bytes is_open; own = g.2; some = some h; whole = refl })
                  (unfit_before next x.extra all k x.is u h, λ same. absurd (omega (arith, same, h))) (same_word next x.extra all k x.is h),
            )
        by true e again =
            let h : length next ≤ k = leb-true (length next) k e in
            let c : count_until k counts ≡ 1 + count_until k g.1 = here in
            let i : n + 1 ≡ number + count_until k counts = is in
            let j : n + 1 ≡ (number + 1) + count_until k g.1 = omega (arith, c, i) in
            inr (behind next, line_leads t g.0 line is_open g.2 g.3 (early next x.extra all k x.is still u h), again h j)
