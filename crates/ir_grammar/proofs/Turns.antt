-- Loops that read a part any number of times: what a turn makes of the values so far and the tokens left.
use Rattle.std.proofs.Common.{drop, not, ℕ, ◌≡◌, Bool, true, false, List, [], ◌∷◌, ◌++◌, length, Option, Some, None, Ok, Err, refl, sym, ap, ◌∙◌, append_assoc, length-append, ◌<◌, arith}
use Rattle.std.specs.Prelude.{is_some, fold, option_and_then}
use Rattle.ir_grammar.specs.Parts.{Tok, Read, Part, first, taken, with_first, read_seen, more, then_row, read_then, star, skipped, one, all_of, ◌>>=◌, heads}
use Rattle.ir_core.specs.declared.types.Width.{Width}
use Rattle.ir_core.specs.declared.types.Ty.{Ty}
use Rattle.ir_grammar.specs.Tokens.{is_punct, punct, comma, close_bracket}
use Rattle.ir_grammar.specs.Lines.{index, arm, arm_of_switch}
use Rattle.ir_grammar.specs.Words.{in_table}
use Rattle.ir_grammar.specs.Tails.{goes_on, metadata, attribute_word, attribute}
use Rattle.ir_grammar.proofs.Reading.{IsRead, Anywhere, Took, then_law, not_read, read_ok}
use Rattle.ir_grammar.proofs.PartLaws.{punct_law, attribute_law}
use Rattle.ir_grammar.proofs.TailLaws.{metadata_law}
use Rattle.ir_grammar.proofs.LineLaws.{index_law, arm_law, arm_of_switch_law, arm_of_switch_empty}
use Rattle.ir_grammar.proofs.Rows.{row_step}

-- what a loop over a part needs of its test
pub record Turns {A : Type 0} (test : List Tok → Bool) (p : Part A) : Type 0 where
  pub shrinks : (ts rest : List Tok) (a : A) → test ts ≡ true → p.reads ts ≡ Ok (a, rest) → length rest < length ts
  pub none : test [] ≡ false

module _ {A : Type 0} {test : List Tok → Bool} {p : Part A} (turns : Turns test p) where
  step : (ts : List Tok) → (star test p).reads ts ≡ elim (test ts) as (λ _. Read (List A)) [ true ↦ then_row (star test p).reads (p.reads ts) | false ↦ Ok ([], ts) ]
  step ts = row_step test p turns.shrinks turns.none ts

  taken_up : (ts : List Tok) → test ts ≡ true → (star test p).reads ts ≡ then_row (star test p).reads (p.reads ts)
  taken_up ts e = step ts ∙ ap (λ (b : Bool). elim b as (λ _. Read (List A)) [ true ↦ then_row (star test p).reads (p.reads ts) | false ↦ Ok ([], ts) ]) e

  over : (ts : List Tok) → test ts ≡ false → (star test p).reads ts ≡ Ok ([], ts)
  over ts e = step ts ∙ ap (λ (b : Bool). elim b as (λ _. Read (List A)) [ true ↦ then_row (star test p).reads (p.reads ts) | false ↦ Ok ([], ts) ]) e

  -- the tokens no longer pass
  pub turns_over : (front : List A) (ts : List Tok) → test ts ≡ false → (more front test p).reads ts ≡ Ok (front, ts)
  turns_over front ts e = ap (read_seen (λ others. front ++ others)) (step ts ∙ ap (λ (b : Bool). elim b as (λ _. Read (List A)) [ true ↦ then_row (star test p).reads (p.reads ts) | false ↦ Ok ([], ts) ]) e) ∙ ap (λ x. Ok (x, ts)) (nil front)
    where
      nil : (xs : List A) → xs ++ [] ≡ xs
      nil [] = refl
      nil (x ∷ xs) = ap (λ ys. x ∷ ys) (nil xs)

  -- one part more
  pub turns_more : (front : List A) (ts rest : List Tok) (a : A) → test ts ≡ true → p.reads ts ≡ Ok (a, rest) → (more (front ++ a ∷ []) test p).reads rest ≡ (more front test p).reads ts
  turns_more front ts rest a e r = by ((star test p).reads rest) ∙ ap (read_seen (λ others. front ++ others)) (sym (taken_up ts e ∙ ap (then_row (star test p).reads) r))
    where
      by : (x : Read (List A)) → read_seen (λ others. (front ++ a ∷ []) ++ others) x ≡ read_seen (λ others. front ++ others) (with_first a x)
      by (Ok x) = ap (λ ys. Ok (ys, x.1)) (append_assoc front (a ∷ []) x.0)
      by (Err n) = refl

  -- a part that is unfit
  pub turns_stop : (front : List A) (ts : List Tok) (n : ℕ) → test ts ≡ true → p.reads ts ≡ Err n → (more front test p).reads ts ≡ Err n
  turns_stop front ts n e r = ap (read_seen (λ others. front ++ others)) (taken_up ts e ∙ ap (then_row (star test p).reads) r)

-- ---- parts that say nothing

module _ {A : Type 0} {test : List Tok → Bool} {p : Part A} (turns : Turns test p) where
  pub skip_over : (ts : List Tok) → test ts ≡ false → (skipped test p).reads ts ≡ Ok (true, ts)
  skip_over ts e = ap (read_seen (λ _. true)) (over turns ts e)

  pub skip_more : (ts rest : List Tok) (a : A) → test ts ≡ true → p.reads ts ≡ Ok (a, rest) → (skipped test p).reads rest ≡ (skipped test p).reads ts
  skip_more ts rest a e r = by ((star test p).reads rest) ∙ ap (read_seen (λ _. true)) (sym (taken_up turns ts e ∙ ap (then_row (star test p).reads) r))
    where
      by : (x : Read (List A)) → read_seen (λ _. true) x ≡ read_seen (λ _. true) (with_first a x)
      by (Ok x) = refl
      by (Err n) = refl

  pub skip_stop : (ts : List Tok) (n : ℕ) → test ts ≡ true → p.reads ts ≡ Err n → (skipped test p).reads ts ≡ Err n
  skip_stop ts n e r = ap (read_seen (λ _. true)) (taken_up turns ts e ∙ ap (then_row (star test p).reads) r)

-- one token
pub one_turns : {A : Type 0} (pick : Tok → Option A) → Turns (heads (λ t. is_some (pick t))) (one pick)
one_turns {A} pick = record { shrinks = shorter; none = refl }
  where
    taken_one : (t : Tok) (ts rest : List Tok) (a : A) (o : Option A) → taken o (t ∷ ts) ≡ Ok (a, rest) → length rest < length (t ∷ ts)
    taken_one t ts rest a None e = not_read e
    taken_one t ts rest a (Some b) e = omega (arith, ap length (read_ok e).1)

    shorter : (ts rest : List Tok) (a : A) → heads (λ t. is_some (pick t)) ts ≡ true → (one pick).reads ts ≡ Ok (a, rest) → length rest < length ts
    shorter [] rest a t e = not_read e
    shorter (x ∷ ts) rest a t e = taken_one x ts rest a (pick x) e

-- ---- tokens that are gathered

module _ {A B : Type 0} (pick : Tok → Option A) (add : B → A → B) where
  pub gather_over : (b : B) (ts : List Tok) → heads (λ t. is_some (pick t)) ts ≡ false → read_seen (fold add b) ((all_of pick).reads ts) ≡ Ok (b, ts)
  gather_over b ts e = ap (read_seen (fold add b)) (over (one_turns pick) ts e)

  pub gather_more : (b : B) (ts rest : List Tok) (a : A) → heads (λ t. is_some (pick t)) ts ≡ true → (one pick).reads ts ≡ Ok (a, rest) → read_seen (fold add (add b a)) ((all_of pick).reads rest) ≡ read_seen (fold add b) ((all_of pick).reads ts)
  gather_more b ts rest a e r = by ((all_of pick).reads rest) ∙ ap (read_seen (fold add b)) (sym (taken_up (one_turns pick) ts e ∙ ap (then_row (all_of pick).reads) r))
    where
      by : (x : Read (List A)) → read_seen (fold add (add b a)) x ≡ read_seen (fold add b) (with_first a x)
      by (Ok x) = refl
      by (Err n) = refl

-- a part that takes a token
pub turns_of : {A : Type 0} (test : List Tok → Bool) {p : Part A} → IsRead Anywhere p → p.reads [] ≡ Err 0 → test [] ≡ false → Turns test p
turns_of {A} test {p} law empty none = record { shrinks = λ ts rest a t e. shorter ts rest a (law.sound ts rest a e); none = none }
  where
    shorter : (ts rest : List Tok) (a : A) → Took Anywhere p.means ts a rest → length rest < length ts
    shorter ts rest a t = by t.front t.is t.whole
      where
        by : (front : List Tok) → p.means front a → ts ≡ front ++ rest → length rest < length ts
        by [] h e = not_read (sym empty ∙ law.complete [] [] a h tt)
        by (x ∷ front) h e = omega (arith, ap length e, length-append front rest)

-- parts behind commas, and behind commas without metadata
pub comma_turns : {A : Type 0} {p : Part A} → IsRead Anywhere p → Turns (heads (is_punct comma)) (punct comma >>= λ _. p)
comma_turns law = turns_of (heads (is_punct comma)) (then_law (punct_law comma) (λ _ front m. law)) refl refl

pub item_turns : {A : Type 0} {p : Part A} → IsRead Anywhere p → Turns goes_on (punct comma >>= λ _. p)
item_turns law = turns_of goes_on (then_law (punct_law comma) (λ _ front m. law)) refl refl

-- a comma that was read, and then a part
pub comma_then : {A : Type 0} (q : Part A) (ts rest : List Tok) {r : Read A} → (punct comma).reads ts ≡ Ok (true, rest) → q.reads rest ≡ r → (punct comma >>= λ _. q).reads ts ≡ r
comma_then {A} q ts rest {r} e h = ap (λ x. read_then x (λ _. q)) e ∙ h

pub metadata_turns : Turns (heads (is_punct comma)) metadata
metadata_turns = turns_of (heads (is_punct comma)) metadata_law refl refl

pub attribute_turns : (linkage : Bool) → Turns (heads (λ t. is_some (in_table (attribute_word linkage) t))) (attribute linkage)
attribute_turns linkage = turns_of (heads (λ t. is_some (in_table (attribute_word linkage) t))) (attribute_law linkage) refl refl

-- ---- a first token that a test knows, or knows not

module _ {A : Type 0} (pick : Tok → Option A) where
  pub some_head : (ts : List Tok) (a : A) → option_and_then pick (first ts) ≡ Some a → heads (λ t. is_some (pick t)) ts ≡ true
  some_head [] a e = absurd cc
  some_head (t ∷ ts) a e = ap is_some e

  pub no_head : (ts : List Tok) → option_and_then pick (first ts) ≡ None → heads (λ t. is_some (pick t)) ts ≡ false
  no_head [] e = refl
  no_head (t ∷ ts) e = ap is_some e

  pub one_taken : (ts : List Tok) (a : A) → option_and_then pick (first ts) ≡ Some a → (one pick).reads ts ≡ Ok (a, drop 1 ts)
  one_taken ts a e = ap (λ o. taken o ts) e

  -- the rest behind it
  pub rest_taken : {B : Type 0} (k : A → Part B) (ts : List Tok) (a : A) (r : Read B) → option_and_then pick (first ts) ≡ Some a → (k a).reads (drop 1 ts) ≡ r → (one pick >>= k).reads ts ≡ r
  rest_taken k ts a r e h = ap (λ o. read_then (taken o ts) k) e ∙ h

-- ---- the rows of lines

pub index_turns : Turns goes_on index
unfolding index
index_turns = turns_of goes_on index_law refl refl

pub arm_turns : (ty : Ty) → Turns goes_on (punct comma >>= λ _. arm ty)
arm_turns ty = item_turns (arm_law ty)

pub case_turns : (w : Width) → Turns (heads (λ t. not (is_punct close_bracket t))) (arm_of_switch w)
case_turns w = turns_of (heads (λ t. not (is_punct close_bracket t))) (arm_of_switch_law w) (arm_of_switch_empty w) refl
