-- The lines that are left of a text, one after another.
use Rattle.std.specs.Prelude.{Option, Some, None, IfNone}
use Rattle.std.proofs.Common.{◌≡◌, ℕ, ◌+◌, ◌-◌, ◌≤◌, ◌⊎◌, inl, inr, List, [], ◌∷◌, ◌++◌, length, take, drop, ap, refl, sym, subst, ◌∙◌, arith}
use Rattle.std.proofs.lemmas.List.{drop-drop, drop_all, take_all, length-drop}
use Rattle.std.proofs.Math.Seq.{drop-append-add}
use Rattle.ir_core.specs.Lines.{lines_of, IsFirstLine}
use Rattle.ir_parse_top.specs.Text.{placed}
use Rattle.ir_parse_top.specs.Reading.{Takes}

-- behind the end of a text there are no lines
pub none_left : (text : List ℕ) (at : ℕ) → length text ≤ at → placed at (lines_of (drop at text)) ≡ []
unfolding placed lines_of
none_left text at h = ap (λ (bytes : List ℕ). placed at (lines_of bytes)) (drop_all at text h)

pub empty_left : (text : List ℕ) (at : ℕ) (rest : List ℕ) → rest ≡ drop at text → rest ≡ [] → placed at (lines_of (drop at text)) ≡ []
unfolding placed lines_of
empty_left text at rest is none = ap (λ (bytes : List ℕ). placed at (lines_of bytes)) (sym is ∙ none)

rest_is : (text line rest : List ℕ) (at : ℕ) → IsFirstLine (drop at text) line rest → rest ≡ drop (at + (length line + 1)) text
rest_is text line rest at first = by_end first.whole
  where
    by_end : ((drop at text ≡ line ++ 10 ∷ rest) ⊎ ((drop at text ≡ line) × (rest ≡ []))) → rest ≡ drop (at + (length line + 1)) text
    by_end (inl e) = sym (sym (drop-drop (length line + 1) at text) ∙ ap (drop (length line + 1)) e ∙ drop-append-add line (10 ∷ rest) 1)
    by_end (inr e) = e.1 ∙ sym (sym (drop-drop (length line + 1) at text) ∙ ap (drop (length line + 1)) e.0 ∙ drop_all (length line + 1) line (omega arith))

-- a list from a place to its end, as a slice of it is written
pub to_end : {X : Type 0} (xs : List X) (at : ℕ) → take (length xs - at) (drop at xs) ≡ drop at xs
to_end xs at = take_all (length xs - at) (drop at xs) (let e : length (drop at xs) ≡ length xs - at = length-drop at xs in omega (arith, e))

takes_first : (text : List ℕ) (at number : ℕ) (line rest : List ℕ) → at ≤ length text → lines_of (drop at text) ≡ line ∷ lines_of rest → IsFirstLine (drop at text) line rest → length line + length rest ≤ length (drop at text)
    → Takes (record { at = at; bytes = line }) number (record { text = text; at = at; number = number }) (record { text = text; at = at + (length line + 1); number = number + 1 })
unfolding placed
takes_first text at number line rest within lines first short = record {
  text = refl;
  lines = ap (placed at) (lines ∙ ap (λ (bytes : List ℕ). line ∷ lines_of bytes) (rest_is text line rest at first)) ∙ ap (λ (n : ℕ). record { at = at; bytes = line } ∷ placed n (lines_of (drop (at + (length line + 1)) text))) (let e : at + length line + 1 ≡ at + (length line + 1) = omega arith in e);
  number_is = refl;
  next = refl;
  here = refl;
  at = (let e : at + (length line + 1) ≡ at + length line + 1 = omega arith in e);
  within = (let e : length (drop at text) ≡ length text - at = length-drop at text in omega (arith, e, short, within));
}

pub takes : (text : List ℕ) (at number : ℕ) (bytes line rest : List ℕ) → bytes ≡ drop at text → at ≤ length text → lines_of bytes ≡ line ∷ lines_of rest → IsFirstLine bytes line rest → length line + length rest ≤ length bytes
    → Takes (record { at = at; bytes = line }) number (record { text = text; at = at; number = number }) (record { text = text; at = at + (length line + 1); number = number + 1 })
takes text at number bytes line rest is within lines first short =
    takes_first text at number line rest within (subst (λ (b : List ℕ). lines_of b ≡ line ∷ lines_of rest) is lines) (subst (λ (b : List ℕ). IsFirstLine b line rest) is first) (subst (λ (b : List ℕ). length line + length rest ≤ length b) is short)

-- what holds anyway holds where there is no value
pub if_none : {T P : Type 0} (o : Option T) → P → IfNone o P
if_none (Some x) p = tt
if_none None p = p
