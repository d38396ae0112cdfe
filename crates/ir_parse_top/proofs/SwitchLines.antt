-- A `switch` that goes on over further lines: what its tokens stand for, or the first line that can't be read.
use Rattle.std.specs.Prelude.{codes}
use Rattle.std.specs.List.{list_any}
use Rattle.std.proofs.Common.{◌≡◌, ℕ, ◌+◌, ◌≤◌, ◌<◌, inl, inr, Bool, true, false, List, [], ◌∷◌, ◌++◌, length, leb, Option, ap, refl, sym, subst, ◌∙◌, arith}
use Rattle.std.proofs.lemmas.Bool.{false≢true, leb-true, leb-false}
use Rattle.std.proofs.lemmas.List.{append-nil, append_assoc, length-append}
use Rattle.std.proofs.lemmas.Option.{slice_get_past}
use Rattle.ir_core.specs.declared.text.Token.{Token}
use Rattle.ir_core.specs.declared.text.LinePlace.TheVariants.{Function}
use Rattle.ir_core.specs.declared.types.Loc.{Loc}
use Rattle.ir_core.specs.Module.{ModuleParts, FuncParts}
use Rattle.ir_core.specs.Tokens.{HasTokens}
use Rattle.ir_grammar.specs.declared.trees.BodyLine.{BodyLine}
use Rattle.ir_grammar.specs.Parts.{Tok}
use Rattle.ir_grammar.specs.Fitting.{IsLine, IsUnfit}
use Rattle.ir_grammar.specs.Tokens.{tokens_of, is_punct, close_bracket}
use Rattle.ir_grammar.specs.Top.{body_line}
use Rattle.ir_parse_top.specs.declared.switches.Pause.{Pause}
use Rattle.ir_parse_top.specs.declared.switches.Pause.TheVariants.{Closed, AtColumn, AtEnd}
use Rattle.ir_parse_top.specs.Sheet.{Sheet, Inside, with_body}
use Rattle.ir_parse_top.specs.Text.{Line, all_moved, is_unclosed, HasText, Said, Fault, BadWord, text_or_end, word_at, Stops, AtByte, AtWord, Run, Trips}
use Rattle.ir_parse_top.specs.Reading.{Left, lines_left, closes, Grows, Pauses, Gathers, Blames, Early, Late, Whole, fault_at, taken, count_until, FindsText, FindsBody, TripsInside}
use Rattle.ir_parse_top.proofs.PassedLines.{goes_on}
use Rattle.ir_parse_top.proofs.Runs.{run_append, run_one, trips_append, trips_here, text_leads, text_trips}
use Rattle.ir_parse_top.proofs.Unclosed.{any_right, closed_by, nothing_unclosed}
use Rattle.ir_parse_top.proofs.Groups.{Extends, extends, early, early_line, unfit_before, same_word, same_length, joined_tokens, unclosed_grown, count_whole, count_head, not_dropped, behind, runs_through, trips_within}

module _ (old middle new : Left) (number : ℕ) (tokens all : List Token) (counts : List ℕ) (pause : Pause) (f : FindsText Function old middle number tokens) (open_first : is_unclosed (tokens_of old.text tokens) ≡ true) (g : Gathers middle new tokens all counts pause) where
  grows : Grows old.text tokens g.used g.kept counts
  grows = subst (λ (text : List ℕ). Grows text tokens g.used g.kept counts) f.goes.text g.grows

  pauses : Pauses old.text g.kept all g.behind (lines_left new) pause
  pauses = subst (λ (text : List ℕ). Pauses text g.kept all g.behind (lines_left new) pause) f.goes.text g.pauses

  x : Extends old.text tokens g.used g.kept counts
  x = extends old.text tokens g.used g.kept counts grows

  kept_length : length tokens ≤ length g.kept
  kept_length = let e : length g.kept ≡ length tokens + length x.extra = ap length x.is ∙ length-append tokens x.extra in omega (arith, e)

  open_kept : is_unclosed (tokens_of old.text g.kept) ≡ true
  open_kept = unclosed_grown old.text tokens g.used g.kept counts open_first grows

  first_lines : List Line
  first_lines = f.used ++ f.line ∷ []

  number_is : middle.number ≡ number + 1
  number_is =
      let m : middle.number ≡ old.number + length (f.used ++ f.line ∷ []) = f.goes.number in
      let l : length (f.used ++ f.line ∷ []) ≡ length f.used + 1 = length-append f.used (f.line ∷ []) in
      let i : number ≡ old.number + length f.used = f.number_is in
      omega (arith, m, l, i)

  module _ (tree : ModuleParts) (fn : FuncParts) (entry : Loc) where
    start : Sheet
    start = Inside tree fn entry []

    run_first : IsUnfit body_line.means (tokens_of old.text tokens) (length tokens) → Run old.text start (f.used ++ f.line ∷ []) (behind old.text tree fn entry tokens)
    unfolding start
    run_first fits = text_leads Function start refl refl old middle number tokens (behind old.text tree fn entry tokens) f (inr (record { unclosed = open_first; fits = fits }, refl))

    -- lines that fit, up to the pause
    run_kept : IsUnfit body_line.means (tokens_of old.text g.kept) (length g.kept) → Run old.text start ((f.used ++ f.line ∷ []) ++ g.used) (behind old.text tree fn entry g.kept)
    run_kept fits =
        run_append old.text start (behind old.text tree fn entry tokens) (behind old.text tree fn entry g.kept) (f.used ++ f.line ∷ []) g.used
        (run_first (early old.text tokens x.extra g.kept (length g.kept) x.is open_first fits kept_length)) (runs_through old.text tree fn entry tokens g.used g.kept counts open_first grows fits)

  -- ---- the tokens stand for a line

  more_of : (p : Pause) → Pauses old.text g.kept all g.behind (lines_left new) p → (extra : List Token) × (all ≡ g.kept ++ extra)
  more_of Closed p = (all_moved p.0.at p.1, p.5)
  more_of (AtColumn column) p = ([], p.3 ∙ sym (append-nil g.kept))
  more_of AtEnd p = ([], p.2 ∙ sym (append-nil g.kept))

  last_text : (tree : ModuleParts) (fn : FuncParts) (entry : Loc) (line : Line) (own : List Token) → HasTokens line.bytes own → closes old.text (all_moved line.at own) ≡ true → all ≡ g.kept ++ all_moved line.at own → HasText (behind old.text tree fn entry g.kept) line all
  last_text tree fn entry line own is closed joined = record {
    tokens = own;
    kept = not_dropped old.text g.kept line.bytes open_kept;
    own = is;
    some = λ e. false≢true (sym (ap (λ (o : List Token). closes old.text (all_moved line.at o)) e) ∙ closed);
    whole = joined;
  }

  pub switch_found : (line : BodyLine) → pause ≡ Closed → new.text ≡ middle.text → IsLine body_line.means (tokens_of old.text all) line → FindsBody old new line
  unfolding start
  switch_found line e same l = record {
    used = (f.used ++ f.line ∷ []) ++ (g.used ++ p.0 ∷ []);
    goes = goes_on (f.used ++ f.line ∷ []) (g.used ++ p.0 ∷ []) old middle new f.goes (record {
      text = same;
      lines = g.lines ∙ ap (λ (ls : List Line). g.used ++ ls) p.2 ∙ sym (append_assoc g.used (p.0 ∷ []) (lines_left new));
      number =
          (let n : new.number + 1 ≡ middle.number + length counts + taken pause = g.number in
          let one : taken pause ≡ 1 = ap taken e in
          let c : length counts ≡ length g.used + 1 = x.lines in
          let u : length (g.used ++ p.0 ∷ []) ≡ length g.used + 1 = length-append g.used (p.0 ∷ []) in
          let r : new.number ≡ middle.number + length (g.used ++ p.0 ∷ []) = omega (arith, n, one, c, u) in r);
    });
    ahead = (let a : length ((f.used ++ f.line ∷ []) ++ (g.used ++ p.0 ∷ [])) ≡ length (f.used ++ f.line ∷ []) + length (g.used ++ p.0 ∷ []) = length-append (f.used ++ f.line ∷ []) (g.used ++ p.0 ∷ []) in let b : length (f.used ++ f.line ∷ []) ≡ length f.used + 1 = length-append f.used (f.line ∷ []) in omega (arith, a, b));
    run = λ tree fn entry.
        subst (λ (ls : List Line). Run old.text (Inside tree fn entry []) ls (with_body tree fn entry line)) (append_assoc (f.used ++ f.line ∷ []) g.used (p.0 ∷ []))
        (run_append old.text (Inside tree fn entry []) (behind old.text tree fn entry g.kept) (with_body tree fn entry line) ((f.used ++ f.line ∷ []) ++ g.used) (p.0 ∷ []) (run_kept tree fn entry fits)
        (run_one old.text (behind old.text tree fn entry g.kept) (with_body tree fn entry line) p.0 (Said all (last_text tree fn entry p.0 p.1 p.3 p.4 p.5) (inl (line, l, refl)))));
  }
    where
      p : Pauses old.text g.kept all g.behind (lines_left new) Closed
      p = subst (λ (q : Pause). Pauses old.text g.kept all g.behind (lines_left new) q) e pauses

      fits : IsUnfit body_line.means (tokens_of old.text g.kept) (length g.kept)
      fits = early_line old.text g.kept (all_moved p.0.at p.1) all line p.5 open_kept l

  -- ---- a line of it can't be read

  module _ (tree : ModuleParts) (fn : FuncParts) (entry : Loc) (n : ℕ) (fault : Fault) where
    lines_are : (behind_it : List Line) → g.behind ≡ behind_it → lines_left old ≡ ((f.used ++ f.line ∷ []) ++ g.used) ++ behind_it
    lines_are rest e = f.goes.lines ∙ ap (λ (ls : List Line). (f.used ++ f.line ∷ []) ++ ls) (g.lines ∙ ap (λ (ls : List Line). g.used ++ ls) e) ∙ sym (append_assoc (f.used ++ f.line ∷ []) g.used rest)

    last_number : n ≡ number + length counts → n ≡ old.number + length ((f.used ++ f.line ∷ []) ++ g.used)
    last_number is =
        let i : number ≡ old.number + length f.used = f.number_is in
        let c : length counts ≡ length g.used + 1 = x.lines in
        let a : length ((f.used ++ f.line ∷ []) ++ g.used) ≡ length (f.used ++ f.line ∷ []) + length g.used = length-append (f.used ++ f.line ∷ []) g.used in
        let b : length (f.used ++ f.line ∷ []) ≡ length f.used + 1 = length-append f.used (f.line ∷ []) in
        let r : n ≡ old.number + length ((f.used ++ f.line ∷ []) ++ g.used) = omega (arith, is, i, c, a, b) in r

    trips_stop : (line : Line) (rest : List Line) → IsUnfit body_line.means (tokens_of old.text g.kept) (length g.kept) → g.behind ≡ line ∷ rest → n ≡ number + length counts → Stops old.text (behind old.text tree fn entry g.kept) line fault
        → Trips old.text old.number (Inside tree fn entry []) (lines_left old) n fault
    unfolding start
    trips_stop line rest fits e is stops =
        subst (λ (ls : List Line). Trips old.text old.number (Inside tree fn entry []) ls n fault) (sym (lines_are (line ∷ rest) e))
        (trips_here old.text old.number (Inside tree fn entry []) (behind old.text tree fn entry g.kept) ((f.used ++ f.line ∷ []) ++ g.used) rest line n fault (run_kept tree fn entry fits) (last_number is) stops)

    trips_end : IsUnfit body_line.means (tokens_of old.text g.kept) (length g.kept) → g.behind ≡ [] → n ≡ number + length counts → fault ≡ BadWord (codes "end") → Trips old.text old.number (Inside tree fn entry []) (lines_left old) n fault
    unfolding start
    trips_end fits e is word =
        subst (λ (ls : List Line). Trips old.text old.number (Inside tree fn entry []) ls n fault) (sym (lines_are [] e))
        (trips_append old.text old.number (Inside tree fn entry []) (behind old.text tree fn entry g.kept) ((f.used ++ f.line ∷ []) ++ g.used) [] n fault (run_kept tree fn entry fits) (refl, last_number is, word))

    -- a token on the line that closes the brackets is unfit, or the tokens end there
    trips_closed : (k : ℕ) → Pauses old.text g.kept all g.behind (lines_left new) Closed → IsUnfit body_line.means (tokens_of old.text all) k → length g.kept ≤ k → n ≡ number + length counts → fault ≡ word_at old.text all k
        → Trips old.text old.number (Inside tree fn entry []) (lines_left old) n fault
    trips_closed k p u low is word =
        trips_stop p.0 (lines_left new) (early old.text g.kept (all_moved p.0.at p.1) all k p.5 open_kept u low) p.2 is
        (AtWord all k (last_text tree fn entry p.0 p.1 p.3 p.4 p.5) (u, λ same. closed_by (tokens_of old.text all) all_closed) word)
      where
        all_closed : list_any (is_punct close_bracket) (tokens_of old.text all) ≡ true
        all_closed = ap (list_any (is_punct close_bracket)) (ap (tokens_of old.text) p.5 ∙ joined_tokens old.text g.kept (all_moved p.0.at p.1)) ∙ any_right (is_punct close_bracket) (tokens_of old.text g.kept) (tokens_of old.text (all_moved p.0.at p.1)) p.4

    early_trips : (k : ℕ) → k < length all → IsUnfit body_line.means (tokens_of old.text all) k → n ≡ number + count_until k counts → fault ≡ word_at old.text all k → Trips old.text old.number (Inside tree fn entry []) (lines_left old) n fault
    unfolding start
    early_trips k high u is word = by (leb (length tokens) k) (leb (length g.kept) k) refl refl
      where
        m : (extra : List Token) × (all ≡ g.kept ++ extra)
        m = more_of pause pauses

        all_is : all ≡ tokens ++ (x.extra ++ m.0)
        all_is = m.1 ∙ ap (λ (ts : List Token). ts ++ m.0) x.is ∙ append_assoc tokens x.extra m.0

        by_pause : (p : Pause) → Pauses old.text g.kept all g.behind (lines_left new) p → length g.kept ≤ k → Trips old.text old.number (Inside tree fn entry []) (lines_left old) n fault
        by_pause Closed p low = trips_closed k p u low (is ∙ ap (λ (c : ℕ). number + c) (count_whole old.text k tokens g.used g.kept counts grows low)) word
        by_pause (AtColumn column) p low = absurd (let e : length all ≡ length g.kept = ap length p.3 in omega (arith, e, low, high))
        by_pause AtEnd p low = absurd (let e : length all ≡ length g.kept = ap length p.2 in omega (arith, e, low, high))

        by : (a b : Bool) → leb (length tokens) k ≡ a → leb (length g.kept) k ≡ b → Trips old.text old.number (Inside tree fn entry []) (lines_left old) n fault
        by false b e h =
            let low : k < length tokens = leb-false (length tokens) k e in
            let none : count_until k counts ≡ 0 = count_head old.text k tokens g.used g.kept counts grows low in
            text_trips Function (Inside tree fn entry []) refl refl old middle number tokens n k fault f (let at : n ≡ number = omega (arith, is, none) in at)
            (unfit_before old.text tokens (x.extra ++ m.0) all k all_is u low, λ same. absurd (omega (arith, same, low))) (word ∙ same_word old.text tokens (x.extra ++ m.0) all k all_is low)
        by true true e h = by_pause pause pauses (leb-true (length g.kept) k h)
        by true false e h =
            let low : length tokens ≤ k = leb-true (length tokens) k e in
            let in_kept : k < length g.kept = leb-false (length g.kept) k h in
            let i : number ≡ old.number + length f.used = f.number_is in
            let l : length (f.used ++ f.line ∷ []) ≡ length f.used + 1 = length-append f.used (f.line ∷ []) in
            let at : n + 1 ≡ (old.number + length (f.used ++ f.line ∷ [])) + count_until k counts = omega (arith, is, i, l) in
            subst (λ (ls : List Line). Trips old.text old.number (Inside tree fn entry []) ls n fault) (sym (f.goes.lines ∙ ap (λ (ls : List Line). (f.used ++ f.line ∷ []) ++ ls) g.lines))
            (trips_append old.text old.number (Inside tree fn entry []) (behind old.text tree fn entry tokens) (f.used ++ f.line ∷ []) (g.used ++ g.behind) n fault
            (run_first tree fn entry (early old.text tokens (x.extra ++ m.0) all k all_is open_first u low))
            (subst (λ (w : Fault). Trips old.text (old.number + length (f.used ++ f.line ∷ [])) (behind old.text tree fn entry tokens) (g.used ++ g.behind) n w) (sym (word ∙ same_word old.text g.kept m.0 all k m.1 in_kept))
            (trips_within old.text tree fn entry (old.number + length (f.used ++ f.line ∷ [])) n k tokens g.used g.behind g.kept counts open_first grows (unfit_before old.text g.kept m.0 all k m.1 u in_kept) low in_kept at)))

    late_trips : (p : Pause) → Pauses old.text g.kept all g.behind (lines_left new) p → IsUnfit body_line.means (tokens_of old.text all) (length all) → n ≡ number + length counts → fault ≡ fault_at p → Trips old.text old.number (Inside tree fn entry []) (lines_left old) n fault
    late_trips Closed p u is word =
        trips_closed (length all) p u (let e : length all ≡ length g.kept + length (all_moved p.0.at p.1) = ap length p.5 ∙ length-append g.kept (all_moved p.0.at p.1) in omega (arith, e)) is
        (word ∙ ap (λ (o : Option Tok). BadWord (text_or_end o)) (sym (slice_get_past (tokens_of old.text all) (length all) (let e : length (tokens_of old.text all) ≡ length all = same_length old.text all in omega (arith, e)))))
    late_trips (AtColumn column) p u is word =
        trips_stop p.0 (lines_left new) (subst (λ (ts : List Token). IsUnfit body_line.means (tokens_of old.text ts) (length ts)) p.3 u) p.1 is (AtByte column (not_dropped old.text g.kept p.0.bytes open_kept) p.2 word)
    late_trips AtEnd p u is word = trips_end (subst (λ (ts : List Token). IsUnfit body_line.means (tokens_of old.text ts) (length ts)) p.2 u) p.0 is word

    whole_never : (p : Pause) → Pauses old.text g.kept all g.behind (lines_left new) p → (line : BodyLine) → IsLine body_line.means (tokens_of old.text all) line → (p ≡ Closed → ⊥) → ⊥
    whole_never Closed p line l never = never refl
    whole_never (AtColumn column) p line l never = nothing_unclosed (tokens_of old.text g.kept) line open_kept (subst (λ (ts : List Token). body_line.means (tokens_of old.text ts) line) p.3 l.is)
    whole_never AtEnd p line l never = nothing_unclosed (tokens_of old.text g.kept) line open_kept (subst (λ (ts : List Token). body_line.means (tokens_of old.text ts) line) p.2 l.is)

  pub switch_trips : (n : ℕ) (fault : Fault) → Blames old.text number all counts pause n fault → TripsInside old n fault
  switch_trips n fault (Early k high u is word) tree fn entry = early_trips tree fn entry n fault k high u is word
  switch_trips n fault (Late u is word) tree fn entry = late_trips tree fn entry n fault pause pauses u is word
  switch_trips n fault (Whole line l never) tree fn entry = absurd (whole_never tree fn entry n fault pause pauses line l never)

  -- ---- the same of a text and tokens that are these

  module _ (text : List ℕ) (tokens_taken : List Token) (in_text : text ≡ new.text) (same : new.text ≡ middle.text) (are : tokens_taken ≡ all) where
    text_is : text ≡ old.text
    text_is = in_text ∙ same ∙ f.goes.text

    pub found_by : (line : BodyLine) → IsLine body_line.means (tokens_of text tokens_taken) line × (pause ≡ Closed) → FindsBody old new line
    found_by line h =
        switch_found line h.1 same (subst (λ (x : List ℕ). IsLine body_line.means (tokens_of x all) line) text_is (subst (λ (ts : List Token). IsLine body_line.means (tokens_of text ts) line) are h.0))

    pub trips_by : (counts_taken : List ℕ) → counts_taken ≡ counts → (n : ℕ) (fault : Fault) → Blames text number tokens_taken counts_taken pause n fault → TripsInside old n fault
    trips_by counts_taken counted n fault b =
        switch_trips n fault (subst (λ (x : List ℕ). Blames x number all counts pause n fault) text_is
        (subst (λ (ts : List Token). Blames text number ts counts pause n fault) are (subst (λ (ns : List ℕ). Blames text number tokens_taken ns pause n fault) counted b)))

-- the numbers of the lines of a `switch` are small
pub small_enough : (middle new : Left) (tokens all : List Token) (counts taken_counts : List ℕ) (pause : Pause) (number : ℕ) → Gathers middle new tokens all counts pause → middle.number ≡ number + 1 → taken_counts ≡ counts → new.number < 4294967296 → number + length taken_counts < 4294967296
small_enough middle new tokens all counts taken_counts pause number g first same small =
    let n : new.number + 1 ≡ middle.number + length counts + taken pause = g.number in
    let c : length taken_counts ≡ length counts = ap length same in
    omega (arith, n, first, c, small)
