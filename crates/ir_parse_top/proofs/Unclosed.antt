-- Tokens that begin a `switch` and its brackets and don't close them: with more tokens, and why they stand for no line.
use Rattle.std.specs.Prelude.{◌&&◌, ◌||◌, not, codes}
use Rattle.std.specs.List.{list_any}
use Rattle.std.proofs.Common.{◌≡◌, ℕ, inl, inr, Bool, true, false, List, [], ◌∷◌, ◌++◌, Option, Some, None, ap, refl, sym, subst, ◌∙◌}
use Rattle.std.proofs.lemmas.Bool.{false≢true}
use Rattle.std.proofs.lemmas.List.Folds.{list_any-append}
use Rattle.ir_core.specs.declared.types.Width.{Width}
use Rattle.ir_core.specs.declared.types.Loc.{Loc}
use Rattle.ir_core.specs.declared.instruction.Inst.{Inst}
use Rattle.ir_grammar.specs.declared.trees.BodyLine.{BodyLine}
use Rattle.ir_grammar.specs.declared.heads.PlainOpcode.{PlainOpcode}
use Rattle.ir_grammar.specs.declared.heads.PlainOpcode.TheVariants as plain
use Rattle.ir_grammar.specs.Parts.{Tok, Splits, IsOne, heads}
use Rattle.ir_grammar.specs.Tokens.{is_word, is_punct, known, local_of, open_bracket, close_bracket, close_brace}
use Rattle.ir_grammar.specs.Words.{in_table, plain_opcode_word}
use Rattle.ir_grammar.specs.Lines.{switching, switch_cases, line_without, plain_line, result_line, instruction}
use Rattle.ir_grammar.specs.Top.{label_of, body_line}
use Rattle.ir_grammar.proofs.Refusals.{word_token, named_word}
use Rattle.ir_parse_top.specs.Text.{is_unclosed}

-- ---- tests over more tokens

pub any_right : {X : Type 0} (p : X → Bool) (xs ys : List X) → list_any p ys ≡ true → list_any p (xs ++ ys) ≡ true
any_right p [] ys e = e
any_right p (x ∷ xs) ys e = or_right (p x) _ (any_right p xs ys e)
  where
    or_right : (a b : Bool) → b ≡ true → (a || b) ≡ true
    or_right true b h = refl
    or_right false b h = h

pub any_left : {X : Type 0} (p : X → Bool) (xs ys : List X) → list_any p xs ≡ true → list_any p (xs ++ ys) ≡ true
any_left p xs ys e = list_any-append p xs ys ∙ ap (λ (b : Bool). b || list_any p ys) e

pub none_in_both : {X : Type 0} (p : X → Bool) (xs ys : List X) → list_any p xs ≡ false → list_any p ys ≡ false → list_any p (xs ++ ys) ≡ false
none_in_both p xs ys e h = list_any-append p xs ys ∙ ap (λ (b : Bool). b || list_any p ys) e ∙ h

pub both_true : (a b : Bool) → (a && b) ≡ true → (a ≡ true) × (b ≡ true)
both_true true b e = (refl, e)
both_true false b e = absurd (false≢true e)

not_true : (b : Bool) → not b ≡ true → b ≡ false
not_true true e = absurd (false≢true e)
not_true false e = refl

-- what an unclosed `switch` has
pub record Opened (ts : List Tok) : Type 0 where
  pub at_switch : heads (is_word (codes "switch")) ts ≡ true
  pub brackets : list_any (is_punct open_bracket) ts ≡ true
  pub unclosed : list_any (is_punct close_bracket) ts ≡ false

pub opened : (ts : List Tok) → is_unclosed ts ≡ true → Opened ts
opened ts e =
    let a = both_true (heads (is_word (codes "switch")) ts && list_any (is_punct open_bracket) ts) _ e in
    let b = both_true (heads (is_word (codes "switch")) ts) _ a.0 in
    record { at_switch = b.0; brackets = b.1; unclosed = not_true _ a.1 }

pub unclosed_again : (ts : List Tok) → Opened ts → is_unclosed ts ≡ true
unclosed_again ts o =
    ap (λ (b : Bool). b && list_any (is_punct open_bracket) ts && not (list_any (is_punct close_bracket) ts)) o.at_switch
    ∙ ap (λ (b : Bool). b && not (list_any (is_punct close_bracket) ts)) o.brackets ∙ ap not o.unclosed

heads_more : (f : Tok → Bool) (xs ys : List Tok) → heads f xs ≡ true → heads f (xs ++ ys) ≡ true
heads_more f [] ys e = absurd (false≢true e)
heads_more f (x ∷ xs) ys e = e

pub unclosed_more : (xs ys : List Tok) → is_unclosed xs ≡ true → list_any (is_punct close_bracket) ys ≡ false → is_unclosed (xs ++ ys) ≡ true
unclosed_more xs ys e h =
    let o = opened xs e in
    unclosed_again (xs ++ ys) (record { at_switch = heads_more (is_word (codes "switch")) xs ys o.at_switch; brackets = any_left (is_punct open_bracket) xs ys o.brackets; unclosed = none_in_both (is_punct close_bracket) xs ys o.unclosed h })

pub closed_by : (ts : List Tok) → list_any (is_punct close_bracket) ts ≡ true → is_unclosed ts ≡ false
closed_by ts e = by (heads (is_word (codes "switch")) ts && list_any (is_punct open_bracket) ts) (list_any (is_punct close_bracket) ts) e
  where
    by : (a b : Bool) → b ≡ true → (a && not b) ≡ false
    by a false h = absurd (false≢true h)
    by true true h = refl
    by false true h = refl

-- ---- an unclosed `switch` is no line

module _ {A : Type 0} (pick : Tok → Option A) (t : Tok) (rest : List Tok) where
  -- the first of the tokens is the one that was picked
  first_is : (front back : List Tok) (v : A) → IsOne pick front v → ◌≡◌ {A = List Tok} (t ∷ rest) (front ++ back) → (pick t ≡ Some v) × (rest ≡ back)
  first_is front back v one whole =
      let e : ◌≡◌ {A = List Tok} (t ∷ rest) (one.token ∷ back) = whole ∙ ap (λ (x : List Tok). x ++ back) one.whole in
      let same : t ≡ one.token = cc in
      (ap pick same ∙ one.is, cc)

  first_isnt : {B : Type 0} (k : A → List Tok → B → Type 0) (v : B) → pick t ≡ None → Splits (IsOne pick) k (t ∷ rest) v → ⊥
  first_isnt k v none s = let f = first_is s.front s.back s.value s.first s.whole in let clash : ◌≡◌ {A = Option A} None (Some s.value) = sym none ∙ f.0 in absurd cc

is_known : (b v : Bool) → known b ≡ Some v → b ≡ true
is_known true v e = refl
is_known false v e = absurd cc

cases_closed : (w : Width) (ts : List Tok) (cases : List (ℕ × Loc)) → (switch_cases w).means ts cases → list_any (is_punct close_bracket) ts ≡ true
unfolding switch_cases
cases_closed w ts cases m =
    let inner = m.second in
    let last = inner.second in
    let one = last.first in
    let here : list_any (is_punct close_bracket) last.front ≡ true = ap (list_any (is_punct close_bracket)) one.whole ∙ ap (λ (b : Bool). b || false) (is_known (is_punct close_bracket one.token) last.value one.is) in
    let in_last : list_any (is_punct close_bracket) inner.back ≡ true = ap (list_any (is_punct close_bracket)) last.whole ∙ any_left (is_punct close_bracket) last.front last.back here in
    let in_inner : list_any (is_punct close_bracket) m.back ≡ true = ap (list_any (is_punct close_bracket)) inner.whole ∙ any_right (is_punct close_bracket) inner.front inner.back in_last in
    ap (list_any (is_punct close_bracket)) m.whole ∙ any_right (is_punct close_bracket) m.front m.back in_inner

switch_closed : (ts : List Tok) (inst : Inst) → switching.means ts inst → list_any (is_punct close_bracket) ts ≡ true
unfolding switching
switch_closed ts inst m =
    let a = m.second in let b = a.second in let c = b.second in
    let here = cases_closed m.value c.front c.value c.first in
    let in_c : list_any (is_punct close_bracket) b.back ≡ true = ap (list_any (is_punct close_bracket)) c.whole ∙ any_left (is_punct close_bracket) c.front c.back here in
    let in_b : list_any (is_punct close_bracket) a.back ≡ true = ap (list_any (is_punct close_bracket)) b.whole ∙ any_right (is_punct close_bracket) b.front b.back in_c in
    let in_a : list_any (is_punct close_bracket) m.back ≡ true = ap (list_any (is_punct close_bracket)) a.whole ∙ any_right (is_punct close_bracket) a.front a.back in_b in
    ap (list_any (is_punct close_bracket)) m.whole ∙ any_right (is_punct close_bracket) m.front m.back in_a

module _ (at : ℕ) (rest : List Tok) where
  abbrev word : Tok
  word = word_token (codes "switch") at

  plain_closed : (inst : Inst) → plain_line.means (word ∷ rest) inst → list_any (is_punct close_bracket) rest ≡ true
  plain_closed inst m =
      let f = first_is (in_table plain_opcode_word) word rest m.front m.back m.value m.first m.whole in
      let e : ◌≡◌ {A = Option PlainOpcode} (Some plain.Switch) (Some m.value) = f.0 in
      let op : plain.Switch ≡ m.value = cc in
      let second : switching.means m.back inst = subst (λ (o : PlainOpcode). (line_without o).means m.back inst) (sym op) m.second in
      ap (list_any (is_punct close_bracket)) f.1 ∙ switch_closed m.back inst second

  line_closed : (line : BodyLine) → body_line.means (word ∷ rest) line → list_any (is_punct close_bracket) rest ≡ true
  unfolding body_line instruction result_line
  line_closed line (inl m) = absurd (first_isnt label_of word rest _ line refl m)
  line_closed line (inr (inl m)) = absurd (first_isnt (λ t. known (is_punct close_brace t)) word rest _ line refl m)
  line_closed line (inr (inr m)) = by m.is
    where
      by : instruction.means (word ∷ rest) m.value → list_any (is_punct close_bracket) rest ≡ true
      by (inl r) = absurd (first_isnt local_of word rest _ m.value refl r)
      by (inr p) = plain_closed m.value p

-- no line begins by an unclosed `switch` that ends there
pub nothing_unclosed : (ts : List Tok) (line : BodyLine) → is_unclosed ts ≡ true → body_line.means ts line → ⊥
nothing_unclosed [] line e m = false≢true (opened [] e).at_switch
nothing_unclosed (t ∷ rest) line e m =
    let o = opened (t ∷ rest) e in
    let same : t ≡ word_token (codes "switch") t.at = named_word t.kind t.text (codes "switch") t.at o.at_switch in
    let closed = line_closed t.at rest line (subst (λ (x : Tok). body_line.means (x ∷ rest) line) same m) in
    false≢true (sym o.unclosed ∙ any_right (is_punct close_bracket) (t ∷ []) rest closed)
