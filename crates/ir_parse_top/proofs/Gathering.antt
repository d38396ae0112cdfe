-- Lines of a `switch` that are taken one after another.
use Rattle.std.specs.Prelude.{⊤}
use Rattle.std.specs.List.{AllByRecursion}
use Rattle.std.proofs.Common.{◌≡◌, ℕ, ◌+◌, ◌-◌, ◌≤◌, ◌<◌, ◌⊎◌, inl, inr, Bool, true, false, List, [], ◌∷◌, ◌++◌, length, take, drop, ap, refl, sym, subst, ◌∙◌, arith}
use Rattle.std.proofs.lemmas.List.{append-nil, append_assoc, length-append, length-map}
use Rattle.std.proofs.Math.Seq.{drop-append_seam}
use Rattle.ir_core.specs.declared.text.Token.{Token}
use Rattle.ir_core.specs.Tokens.{HasBadColumn, AreWithin, IsWithin}
use Rattle.ir_parse_top.specs.declared.switches.Pause.{Pause}
use Rattle.ir_parse_top.specs.declared.switches.Pause.TheVariants.{Closed, AtColumn, AtEnd}
use Rattle.ir_parse_top.specs.Text.{Line, moved, all_moved}
use Rattle.ir_parse_top.specs.Reading.{Left, lines_left, Takes, AddsTokens, closes, Grows, Pauses, AreSound, GrowsBy, ComesTo, Gathers, taken}
use Rattle.ir_grammar.specs.Fitting.{IsUnfit}
use Rattle.ir_grammar.specs.Tokens.{token_of, tokens_of}
use Rattle.ir_grammar.specs.Top.{body_line}
use Rattle.ir_parse_top.proofs.LinesLeft.{to_end}
use Rattle.ir_parse_top.proofs.Unfit.{place_at_end}
use Rattle.ir_parse_top.proofs.PassedLines.{all_append, moved_within}

-- ---- one line more

-- the tokens that were added, as a slice of all is written
pub new_tokens : (all before new : List Token) → all ≡ before ++ new → take (length all - length before) (drop (length before) all) ≡ new
new_tokens all before new e = to_end all (length before) ∙ ap (drop (length before)) e ∙ drop-append_seam before new

module _ (old new : Left) (line : Line) (number : ℕ) (before after : List Token) (t : Takes line number old new) (adds : AddsTokens line before after) where
  -- the tokens of the line
  abbrev own_moved : List Token
  own_moved = all_moved line.at adds.own

  pub own_within : AreWithin (length old.text) own_moved
  own_within = record {
    each = moved_within (length old.text) line.at (length line.bytes) adds.own t.within adds.within.each;
    count = (let e : length own_moved ≡ length adds.own = length-map adds.own (moved line.at) in let c : length adds.own ≤ length line.bytes = adds.within.count in let w : line.at + length line.bytes ≤ length old.text = t.within in omega (arith, e, c, w));
  }

  pub sound_more : AreSound old before → new.at ≤ length old.text + 1 → AreSound new after
  sound_more s inside = record {
    within = record {
      each = subst (λ (text : List ℕ). AllByRecursion (IsWithin (length text)) after) (sym t.text) (subst (AllByRecursion (IsWithin (length old.text))) (sym adds.joined) (all_append (IsWithin (length old.text)) before own_moved s.within.each own_within.each));
      count = subst (λ (text : List ℕ). length after ≤ length text) (sym t.text) (let f = few in omega (arith, f, inside));
    };
    few = few;
  }
    where
      few : length after < new.at
      few = let e : length after ≡ length before + length own_moved = ap length adds.joined ∙ length-append before own_moved in
          let m : length own_moved ≡ length adds.own = length-map adds.own (moved line.at) in
          let c : length adds.own ≤ length line.bytes = adds.within.count in
          let f : length before < old.at = s.few in
          let a : new.at ≡ old.at + length line.bytes + 1 = t.at in
          omega (arith, e, m, c, f, a)

  pub grows_by : AreSound old before → new.at ≤ length old.text + 1 → closes old.text own_moved ≡ false → GrowsBy old new before after
  grows_by s inside unclosed = record { line = line; own = adds.own; lines = t.lines; number = t.next; ahead = (let a : new.at ≡ old.at + length line.bytes + 1 = t.at in omega (arith, a)); is = adds.is; unclosed = unclosed; joined = adds.joined; sound = sound_more s inside }

  pub comes_to_closed : AreSound old before → new.at ≤ length old.text + 1 → closes old.text own_moved ≡ true → ComesTo old new before after Closed
  comes_to_closed s inside closed = record {
    pauses = (line, adds.own, t.lines, adds.is, closed, adds.joined);
    number = t.next;
    within = subst (λ (text : List ℕ). AreWithin (length text) after) t.text (sound_more s inside).within;
  }

  -- the tokens of the line, as they are taken from the end of all
  module _ (text : List ℕ) (all first : List Token) (in_text : text ≡ new.text) (all_is : all ≡ after) (first_is : first ≡ before) where
    slice_is : take (length all - length first) (drop (length first) all) ≡ own_moved
    slice_is = new_tokens all first own_moved (all_is ∙ adds.joined ∙ ap (λ (ts : List Token). ts ++ own_moved) (sym first_is))

    pub slice_within : AllByRecursion (IsWithin (length text)) (take (length all - length first) (drop (length first) all))
    slice_within = subst (λ (x : List ℕ). AllByRecursion (IsWithin (length x)) (take (length all - length first) (drop (length first) all))) (sym (in_text ∙ t.text)) (subst (AllByRecursion (IsWithin (length old.text))) (sym slice_is) own_within.each)

    pub slice_closes : (b : Bool) → closes text (take (length all - length first) (drop (length first) all)) ≡ b → closes old.text own_moved ≡ b
    slice_closes b e = ap (λ (x : List ℕ). closes x own_moved) (sym (in_text ∙ t.text)) ∙ ap (closes text) (sym slice_is) ∙ e

pub comes_to_column : (old new : Left) (line : Line) (number column : ℕ) (before after : List Token) → Takes line number old new → AreSound old before → HasBadColumn line.bytes column → after ≡ before → ComesTo old new before after (AtColumn column)
comes_to_column old new line number column before after t s bad same = record {
  pauses = (line, t.lines, bad, same);
  number = t.next;
  within = subst (AreWithin (length old.text)) (sym same) s.within;
}

pub comes_to_end : (old new : Left) (before : List Token) → lines_left old ≡ [] → new ≡ old → AreSound old before → ComesTo old new before before AtEnd
comes_to_end old new before none same s = record {
  pauses = (none, ap lines_left same ∙ none, refl);
  number = (let n : new.number ≡ old.number = ap (λ (l : Left). l.number) same in omega (arith, n));
  within = s.within;
}

-- ---- all lines

-- So many lines have been taken, and whatever lines go on from here go on from the first tokens too.
pub record Gathered (old now : Left) (tokens all : List Token) (counts : List ℕ) : Type 0 where
  pub used : List Line
  pub text : now.text ≡ old.text
  pub lines : lines_left old ≡ used ++ lines_left now
  pub number : now.number ≡ old.number + length counts
  pub grows : (more : List Line) (after : List Token) (others : List ℕ) → Grows old.text all more after others → Grows old.text tokens (used ++ more) after (counts ++ others)
  pub sound : AreSound now all

pub gathered_none : (old : Left) (tokens : List Token) → AreSound old tokens → Gathered old old tokens tokens []
gathered_none old tokens sound = record { used = []; text = refl; lines = refl; number = (let e : old.number ≡ old.number + 0 = omega arith in e); grows = λ more after others g. g; sound = sound }

module _ (old middle new : Left) (tokens all after : List Token) (counts counts' : List ℕ) (g : Gathered old middle tokens all counts) (more_counts : counts' ≡ counts ++ length all ∷ []) where
  counts_length : length counts' ≡ length counts + 1
  counts_length = ap length more_counts ∙ length-append counts (length all ∷ [])

  pub gathered_more : GrowsBy middle new all after → new.text ≡ middle.text → Gathered old new tokens after counts'
  unfolding Grows
  gathered_more b same = record {
    used = g.used ++ b.line ∷ [];
    text = same ∙ g.text;
    lines = g.lines ∙ ap (λ (l : List Line). g.used ++ l) b.lines ∙ sym (append_assoc g.used (b.line ∷ []) (lines_left new));
    number = (let n : new.number ≡ middle.number + 1 = b.number in let m : middle.number ≡ old.number + length counts = g.number in let c = counts_length in omega (arith, n, m, c));
    grows = grows;
    sound = b.sound;
  }
    where
      unclosed : closes old.text (all_moved b.line.at b.own) ≡ false
      unclosed = subst (λ (text : List ℕ). closes text (all_moved b.line.at b.own) ≡ false) g.text b.unclosed

      grows : (more : List Line) (last : List Token) (others : List ℕ) → Grows old.text after more last others → Grows old.text tokens ((g.used ++ b.line ∷ []) ++ more) last (counts' ++ others)
      grows more last others h =
          let next = g.grows (b.line ∷ more) last (length all ∷ others) (b.own, others, b.is, unclosed, refl, subst (λ (ts : List Token). Grows old.text ts more last others) b.joined h) in
          subst (λ (ls : List Line). Grows old.text tokens ls last (counts' ++ others)) (sym (append_assoc g.used (b.line ∷ []) more))
          (subst (λ (ns : List ℕ). Grows old.text tokens (g.used ++ b.line ∷ more) last ns) (sym (ap (λ (ns : List ℕ). ns ++ others) more_counts ∙ append_assoc counts (length all ∷ []) others)) next)

  pub gathers : (pause : Pause) → ComesTo middle new all after pause → Gathers old new tokens after counts' pause
  unfolding Grows
  gathers pause c = record {
    used = g.used;
    kept = all;
    behind = lines_left middle;
    lines = g.lines;
    grows = subst (λ (ls : List Line). Grows old.text tokens ls all counts') (append-nil g.used) (subst (λ (ns : List ℕ). Grows old.text tokens (g.used ++ []) all ns) (sym more_counts) (g.grows [] all (length all ∷ []) (refl, refl)));
    pauses = subst (λ (text : List ℕ). Pauses text all after (lines_left middle) (lines_left new) pause) g.text c.pauses;
    number = (let n : new.number ≡ middle.number + taken pause = c.number in let m : middle.number ≡ old.number + length counts = g.number in let l : length counts' ≡ length counts + 1 = counts_length in let e : new.number + 1 ≡ old.number + length counts' + taken pause = omega (arith, n, m, l) in e);
    within = subst (λ (text : List ℕ). AreWithin (length text) after) g.text c.within;
  }

-- ---- the verdict on all tokens

abbrev IsClosed : Pause → Type 0
IsClosed Closed = ⊤
IsClosed (AtColumn column) = ⊥
IsClosed AtEnd = ⊥

pub not_closed : (pause : Pause) → (((column : ℕ) × (pause ≡ AtColumn column)) ⊎ (pause ≡ AtEnd)) → pause ≡ Closed → ⊥
not_closed pause (inl e) closed = subst IsClosed (sym closed ∙ e.1) tt
not_closed pause (inr e) closed = subst IsClosed (sym closed ∙ e) tt

-- tokens without an unfit one among them fit so far
pub all_fit : (text : List ℕ) (tokens : List Token) (k : ℕ) → IsUnfit body_line.means (tokens_of text tokens) k → length tokens ≤ k → IsUnfit body_line.means (tokens_of text tokens) (length tokens)
all_fit text tokens k u h =
    let e : length (tokens_of text tokens) ≡ length tokens = length-map tokens (token_of text) in
    subst (IsUnfit body_line.means (tokens_of text tokens)) e (place_at_end body_line.means (tokens_of text tokens) k u (omega (arith, e, h)))

-- ---- going on

pub smaller : (size : ℕ) (middle new : Left) (before after : List Token) → GrowsBy middle new before after → length middle.text ≡ size → new.at ≤ length middle.text + 1 → size + 1 - new.at < size + 1 - middle.at
smaller size middle new before after b same inside = let a : middle.at < new.at = b.ahead in omega (arith, a, same, inside)
