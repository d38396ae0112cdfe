-- Every text stands for one module or has one first line that fits no form, and never both.
use Rattle.std.proofs.Common.{◌≡◌, ℕ, suc, ◌+◌, ◌⊎◌, inl, inr, Bool, true, false, List, [], ◌∷◌, ◌++◌, length, ap, refl, sym, subst, ◌∙◌, arith}
use Rattle.std.proofs.lemmas.Bool.{false≢true, cases_eq}
use Rattle.ir_core.specs.declared.text.Token.{Token}
use Rattle.ir_core.specs.Module.{ModuleParts, empty_module}
use Rattle.ir_core.specs.Tokens.{HasTokens}
use Rattle.ir_core.specs.Lines.{IsDropped}
use Rattle.ir_core.specs.Dropping.{is_dropped}
use Rattle.ir_core.proofs.DroppedLines.{is_dropped-Decides}
use Rattle.ir_core.proofs.TokenLaws.{same_tokens, same_column, not_both, Either_of, Has_tokens, Has_column, tokens_or_column}
use Rattle.ir_grammar.specs.Tokens.{tokens_of}
use Rattle.ir_grammar.specs.Fitting.{IsUnfit, IsDecided, Verdict, Stands, Unfit}
use Rattle.ir_grammar.specs.Top.{top_line, body_line}
use Rattle.ir_grammar.proofs.TopLaws.{top_line_law, body_line_law}
use Rattle.ir_grammar.proofs.Lines.{decided}
use Rattle.ir_numbering.specs.Numbers.{numbered_module}
use Rattle.ir_parse_top.specs.Sheet.{Sheet, Outside, Inside, with_top, with_body, with_numerals}
use Rattle.ir_parse_top.specs.Text.{Line, all_moved, is_unclosed, place_behind, pending_of, Says, HasText, Leads, Dropped, Blank, Said, Fault, BadByte, BadWord, word_at, CantStand, Stops, AtByte, AtWord, Run, is_inside, Trips, lines_placed, numerals_for, Text}
use Rattle.ir_parse_top.specs.Laws as laws
use Rattle.ir_parse_top.proofs.PassedLines.{cons_isnt_nil}

top : IsDecided top_line.means
top = decided top_line_law

body : IsDecided body_line.means
body = decided body_line_law

module _ (text : List ℕ) where
  -- ---- what tokens say behind a sheet

  one_next : (sheet : Sheet) (tokens : List Token) (a b : Sheet) → Says text sheet tokens a → Says text sheet tokens b → a ≡ b
  one_next (Outside tree) tokens a b s t = s.2 ∙ ap (with_top text tree) (top.one_value (tokens_of text tokens) s.0 t.0 s.1 t.1) ∙ sym t.2
  one_next (Inside tree f entry pending) tokens a b (inl s) (inl t) = s.2 ∙ ap (with_body tree f entry) (body.one_value (tokens_of text tokens) s.0 t.0 s.1 t.1) ∙ sym t.2
  one_next (Inside tree f entry pending) tokens a b (inl s) (inr t) = absurd (body.never_both (tokens_of text tokens) s.0 (length tokens) s.1 t.0.fits)
  one_next (Inside tree f entry pending) tokens a b (inr s) (inl t) = absurd (body.never_both (tokens_of text tokens) t.0 (length tokens) t.1 s.0.fits)
  one_next (Inside tree f entry pending) tokens a b (inr s) (inr t) = s.1 ∙ sym t.1

  one_unfit : (sheet : Sheet) (tokens : List Token) (j k : ℕ) → CantStand text sheet tokens j → CantStand text sheet tokens k → j ≡ k
  one_unfit (Outside tree) tokens j k u v = top.one_place (tokens_of text tokens) j k u v
  one_unfit (Inside tree f entry pending) tokens j k u v = body.one_place (tokens_of text tokens) j k u.0 v.0

  says_or_cant : (sheet : Sheet) (tokens : List Token) (next : Sheet) (k : ℕ) → Says text sheet tokens next → CantStand text sheet tokens k → ⊥
  says_or_cant (Outside tree) tokens next k s u = top.never_both (tokens_of text tokens) s.0 k s.1 u
  says_or_cant (Inside tree f entry pending) tokens next k (inl s) u = body.never_both (tokens_of text tokens) s.0 k s.1 u.0
  says_or_cant (Inside tree f entry pending) tokens next k (inr s) u =
      false≢true (sym (u.1 (body.one_place (tokens_of text tokens) k (length tokens) u.0 s.0.fits)) ∙ s.0.unclosed)

  -- they say something, or one of them is unfit
  data SaysOrCant (sheet : Sheet) (tokens : List Token) : Type 0 where
    Speaks : (next : Sheet) → Says text sheet tokens next → SaysOrCant sheet tokens
    Cant : (k : ℕ) → CantStand text sheet tokens k → SaysOrCant sheet tokens

  says_something : (sheet : Sheet) (tokens : List Token) → SaysOrCant sheet tokens
  says_something (Outside tree) tokens = by (top.verdict (tokens_of text tokens))
    where
      by : Verdict top_line.means (tokens_of text tokens) → SaysOrCant (Outside tree) tokens
      by (Stands line is) = Speaks (with_top text tree line) (line, is, refl)
      by (Unfit k u) = Cant k u
  says_something (Inside tree f entry pending) tokens = by (body.verdict (tokens_of text tokens))
    where
      at_end : (k : ℕ) → IsUnfit body_line.means (tokens_of text tokens) k → k ≡ length tokens → (t : Bool) → is_unclosed (tokens_of text tokens) ≡ t → SaysOrCant (Inside tree f entry pending) tokens
      at_end k u e true open_yet = Speaks (Inside tree f entry tokens) (inr (record { unclosed = open_yet; fits = subst (IsUnfit body_line.means (tokens_of text tokens)) e u }, refl))
      at_end k u e false closed = Cant k (u, λ _. closed)

      unfit : (k : ℕ) → IsUnfit body_line.means (tokens_of text tokens) k → (k ≡ length tokens) ⊎ (k ≡ length tokens → ⊥) → SaysOrCant (Inside tree f entry pending) tokens
      unfit k u (inl e) = at_end k u e (is_unclosed (tokens_of text tokens)) refl
      unfit k u (inr other) = Cant k (u, λ e. absurd (other e))

      by : Verdict body_line.means (tokens_of text tokens) → SaysOrCant (Inside tree f entry pending) tokens
      by (Stands line is) = Speaks (with_body tree f entry line) (inl (line, is, refl))
      by (Unfit k u) = unfit k u (cases_eq k (length tokens))

  -- ---- one line behind a sheet

  module _ (sheet : Sheet) (line : Line) where
    one_text : (all others : List Token) → HasText sheet line all → HasText sheet line others → all ≡ others
    one_text all others h g =
        h.whole ∙ ap (λ (own : List Token). pending_of sheet ++ all_moved line.at own) (same_tokens true 0 line.bytes h.tokens g.tokens h.own g.own) ∙ sym g.whole

    not_blank : (all : List Token) → HasText sheet line all → HasTokens line.bytes [] → ⊥
    not_blank all h blank = h.some (same_tokens true 0 line.bytes h.tokens [] h.own blank)

    one_sheet : (a b : Sheet) → Leads text sheet line a → Leads text sheet line b → a ≡ b
    one_sheet a b (Dropped d e) (Dropped _ g) = e ∙ sym g
    one_sheet a b (Dropped d e) (Blank kept _ g) = e ∙ sym g
    one_sheet a b (Dropped d e) (Said all h says) = absurd (h.kept d)
    one_sheet a b (Blank _ _ e) (Dropped _ g) = e ∙ sym g
    one_sheet a b (Blank _ _ e) (Blank _ _ g) = e ∙ sym g
    one_sheet a b (Blank _ blank e) (Said all h says) = absurd (not_blank all h blank)
    one_sheet a b (Said all h says) (Dropped d g) = absurd (h.kept d)
    one_sheet a b (Said all h says) (Blank _ blank g) = absurd (not_blank all h blank)
    one_sheet a b (Said all h says) (Said others g tells) =
        one_next sheet others a b (subst (λ (ts : List Token). Says text sheet ts a) (one_text all others h g) says) tells

    one_stop : (a b : Fault) → Stops text sheet line a → Stops text sheet line b → a ≡ b
    one_stop a b (AtByte c _ bad e) (AtByte d _ worse g) = e ∙ ap BadByte (same_column true 0 line.bytes c d bad worse) ∙ sym g
    one_stop a b (AtByte c _ bad e) (AtWord all k h cant g) = absurd (not_both true 0 line.bytes h.tokens c h.own bad)
    one_stop a b (AtWord all k h cant e) (AtByte c _ bad g) = absurd (not_both true 0 line.bytes h.tokens c h.own bad)
    one_stop a b (AtWord all j h cant e) (AtWord others k g cannot i) =
        let same : all ≡ others = one_text all others h g in
        let place : j ≡ k = one_unfit sheet others j k (subst (λ (ts : List Token). CantStand text sheet ts j) same cant) cannot in
        e ∙ ap (λ (ts : List Token). word_at text ts j) same ∙ ap (word_at text others) place ∙ sym i

    leads_or_stops : (next : Sheet) (fault : Fault) → Leads text sheet line next → Stops text sheet line fault → ⊥
    leads_or_stops next fault (Dropped d e) (AtByte c kept bad g) = kept d
    leads_or_stops next fault (Dropped d e) (AtWord all k h cant g) = h.kept d
    leads_or_stops next fault (Blank _ blank e) (AtByte c kept bad g) = not_both true 0 line.bytes [] c blank bad
    leads_or_stops next fault (Blank _ blank e) (AtWord all k h cant g) = not_blank all h blank
    leads_or_stops next fault (Said all h says) (AtByte c kept bad g) = not_both true 0 line.bytes h.tokens c h.own bad
    leads_or_stops next fault (Said all h says) (AtWord others k g cant e) =
        says_or_cant sheet others next k (subst (λ (ts : List Token). Says text sheet ts next) (one_text all others h g) says) cant

    -- it leads on, or can't be read
    data Either_line : Type 0 where
      On : (next : Sheet) → Leads text sheet line next → Either_line
      Halt : (fault : Fault) → Stops text sheet line fault → Either_line

    reads_or_stops : Either_line
    reads_or_stops = by_drop (is_dropped (place_behind sheet) line.bytes) refl
      where
        with_text : (all : List Token) → HasText sheet line all → SaysOrCant sheet all → Either_line
        with_text all h (Speaks next says) = On next (Said all h says)
        with_text all h (Cant k cant) = Halt (word_at text all k) (AtWord all k h cant refl)

        by : (IsDropped (place_behind sheet) line.bytes → ⊥) → Either_of true 0 line.bytes → Either_line
        by kept (Has_column c bad) = Halt (BadByte c) (AtByte c kept bad refl)
        by kept (Has_tokens [] own) = On sheet (Blank kept own refl)
        by kept (Has_tokens (t ∷ ts) own) =
            with_text (pending_of sheet ++ all_moved line.at (t ∷ ts)) (record { tokens = t ∷ ts; kept = kept; own = own; some = cons_isnt_nil; whole = refl }) (says_something sheet (pending_of sheet ++ all_moved line.at (t ∷ ts)))

        by_drop : (d : Bool) → is_dropped (place_behind sheet) line.bytes ≡ d → Either_line
        by_drop true e = On sheet (Dropped ((is_dropped-Decides (place_behind sheet) line.bytes).0 e) refl)
        by_drop false e = by (λ d. false≢true (sym e ∙ (is_dropped-Decides (place_behind sheet) line.bytes).1 d)) (tokens_or_column (suc (length line.bytes)) true 0 line.bytes (omega arith))

  -- ---- all lines

  one_end : (lines : List Line) (sheet a b : Sheet) → Run text sheet lines a → Run text sheet lines b → a ≡ b
  one_end [] sheet a b r s = r ∙ sym s
  one_end (line ∷ lines) sheet a b r s =
      let same : r.0 ≡ s.0 = one_sheet sheet line r.0 s.0 r.1 s.1 in
      one_end lines s.0 a b (subst (λ (m : Sheet). Run text m lines a) same r.2) s.2

  one_trip : (lines : List Line) (number : ℕ) (sheet : Sheet) (m n : ℕ) (a b : Fault) → Trips text number sheet lines m a → Trips text number sheet lines n b → (m ≡ n) × (a ≡ b)
  one_trip [] number sheet m n a b t u = (t.1 ∙ sym u.1, t.2 ∙ sym u.2)
  one_trip (line ∷ lines) number sheet m n a b (inl t) (inl u) = (t.0 ∙ sym u.0, one_stop sheet line a b t.1 u.1)
  one_trip (line ∷ lines) number sheet m n a b (inl t) (inr u) = absurd (leads_or_stops sheet line u.0 a u.1 t.1)
  one_trip (line ∷ lines) number sheet m n a b (inr t) (inl u) = absurd (leads_or_stops sheet line t.0 b t.1 u.1)
  one_trip (line ∷ lines) number sheet m n a b (inr t) (inr u) =
      let same : t.0 ≡ u.0 = one_sheet sheet line t.0 u.0 t.1 u.1 in
      one_trip lines (number + 1) u.0 m n a b (subst (λ (s : Sheet). Trips text (number + 1) s lines m a) same t.2) u.2

  runs_or_trips : (lines : List Line) (number : ℕ) (sheet : Sheet) (tree : ModuleParts) (n : ℕ) (fault : Fault) → Run text sheet lines (Outside tree) → Trips text number sheet lines n fault → ⊥
  runs_or_trips [] number sheet tree n fault r t = false≢true (ap is_inside r ∙ t.0)
  runs_or_trips (line ∷ lines) number sheet tree n fault r (inl t) = leads_or_stops sheet line r.0 fault r.1 t.1
  runs_or_trips (line ∷ lines) number sheet tree n fault r (inr t) =
      let same : r.0 ≡ t.0 = one_sheet sheet line r.0 t.0 r.1 t.1 in
      runs_or_trips lines (number + 1) t.0 tree n fault (subst (λ (s : Sheet). Run text s lines (Outside tree)) same r.2) t.2

  -- they lead out of all functions, or one of them is the first that can't be read
  data Either_all (number : ℕ) (sheet : Sheet) (lines : List Line) : Type 0 where
    Whole : (tree : ModuleParts) → Run text sheet lines (Outside tree) → Either_all number sheet lines
    Broken : (n : ℕ) (fault : Fault) → Trips text number sheet lines n fault → Either_all number sheet lines

  all_read : (lines : List Line) (number : ℕ) (sheet : Sheet) → Either_all number sheet lines
  all_read [] number (Outside tree) = Whole tree refl
  all_read [] number (Inside tree f entry pending) = Broken number (BadWord _) (refl, refl, refl)
  all_read (line ∷ lines) number sheet = by (reads_or_stops sheet line) (all_read lines (number + 1))
    where
      behind : (middle : Sheet) → Leads text sheet line middle → Either_all (number + 1) middle lines → Either_all number sheet (line ∷ lines)
      behind middle leads (Whole tree run) = Whole tree (middle, leads, run)
      behind middle leads (Broken n fault trips) = Broken n fault (inr (middle, leads, trips))

      by : Either_line sheet line → ((s : Sheet) → Either_all (number + 1) s lines) → Either_all number sheet (line ∷ lines)
      by (On next leads) later = behind next leads (later next)
      by (Halt fault stops) later = Broken number fault (inl (refl, stops))

-- the tree of a sheet, were it outside functions
abbrev tree_of : Sheet → ModuleParts
tree_of (Outside tree) = tree
tree_of (Inside tree f entry pending) = tree

one_module : (text : List ℕ) (a b : ModuleParts) → Text text a → Text text b → a ≡ b
one_module text a b t u =
    let same : t.tree ≡ u.tree = ap tree_of (one_end text (lines_placed text) (Outside empty_module) (Outside t.tree) (Outside u.tree) t.read u.read) in
    t.is ∙ ap (λ (m : ModuleParts). numbered_module (with_numerals (numerals_for m.funcs) text) m) same ∙ sym u.is

verdict : (text : List ℕ) → laws.Verdict text
verdict text = by (all_read text (lines_placed text) 1 (Outside empty_module))
  where
    by : Either_all text 1 (Outside empty_module) (lines_placed text) → laws.Verdict text
    by (Whole tree run) = laws.Stands (numbered_module (with_numerals (numerals_for tree.funcs) text) tree) (record { tree = tree; read = run; is = refl })
    by (Broken n fault trips) = laws.Refused n fault trips

pub texts_decided : laws.TextsAreDecided
texts_decided = record {
  one_module = one_module;
  one_fault = λ text m n a b t u. one_trip text (lines_placed text) 1 (Outside empty_module) m n a b t u;
  verdict = verdict;
  never_both = λ text m n fault t u. runs_or_trips text (lines_placed text) 1 (Outside empty_module) t.tree n fault t.read u;
}
