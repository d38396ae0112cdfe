-- Which tokens a part can't begin with.
use Rattle.std.proofs.Common.{ℕ, ◌≡◌, Bool, true, false, List, [], ◌∷◌, Option, Some, None, refl, sym, ap, subst, ◌∙◌}
use Rattle.std.specs.Prelude.{is_some, is_none, ◌&&◌, if◌then◌else◌}
use Rattle.std.proofs.lemmas.Bool.{false≢true}
use Rattle.std.specs.Str.{bytes_eq}
use Rattle.std.specs.List.{list_all}
use Rattle.std.proofs.lemmas.Slice.Eq.{bytes_eq-Decides}
use Rattle.ir_core.specs.declared.text.TokKind.{TokKind}
use Rattle.ir_core.specs.declared.text.TokKind.TheVariants.{Word, Local, At, Label, Num, Bytes, Str, Hash, Bang, Punct}
use Rattle.ir_grammar.specs.Parts.{Tok, Part, one, read_then, ◌>>=◌, heads, either, read_either}
use Rattle.ir_grammar.specs.Tokens.{is_word, is_punct, is_bang, is_hash, is_local, known}
use Rattle.ir_grammar.specs.Words.{entry, in_table}
use Rattle.ir_grammar.proofs.Reading.{Refuses}

-- ---- tokens that a test passes

abbrev pub word_token : List ℕ → ℕ → Tok
word_token text at = record { kind = Word; text = text; at = at }

abbrev pub punct_token : ℕ → ℕ → Tok
punct_token byte at = record { kind = Punct; text = byte ∷ []; at = at }

pub named_word : (kind : TokKind) (text word : List ℕ) (at : ℕ) → is_word word (record { kind = kind; text = text; at = at }) ≡ true → ◌≡◌ {A = Tok} (record { kind = kind; text = text; at = at }) (word_token word at)
named_word Word text word at e = ap (λ x. word_token x at) ((bytes_eq-Decides text word).0 e)
named_word Local text word at e = absurd cc
named_word At text word at e = absurd cc
named_word Label text word at e = absurd cc
named_word Num text word at e = absurd cc
named_word Bytes text word at e = absurd cc
named_word Str text word at e = absurd cc
named_word Hash text word at e = absurd cc
named_word Bang text word at e = absurd cc
named_word Punct text word at e = absurd cc

named_punct : (kind : TokKind) (text : List ℕ) (byte at : ℕ) → is_punct byte (record { kind = kind; text = text; at = at }) ≡ true → ◌≡◌ {A = Tok} (record { kind = kind; text = text; at = at }) (punct_token byte at)
named_punct Punct text byte at e = ap (λ x. record { kind = Punct; text = x; at = at }) ((bytes_eq-Decides text (byte ∷ [])).0 e)
named_punct Word text byte at e = absurd cc
named_punct Local text byte at e = absurd cc
named_punct At text byte at e = absurd cc
named_punct Label text byte at e = absurd cc
named_punct Num text byte at e = absurd cc
named_punct Bytes text byte at e = absurd cc
named_punct Str text byte at e = absurd cc
named_punct Hash text byte at e = absurd cc
named_punct Bang text byte at e = absurd cc

named_hash : (kind : TokKind) (text : List ℕ) (at : ℕ) → is_hash (record { kind = kind; text = text; at = at }) ≡ true → kind ≡ Hash
named_hash Hash text at e = refl
named_hash Word text at e = absurd cc
named_hash Local text at e = absurd cc
named_hash At text at e = absurd cc
named_hash Label text at e = absurd cc
named_hash Num text at e = absurd cc
named_hash Bytes text at e = absurd cc
named_hash Str text at e = absurd cc
named_hash Bang text at e = absurd cc
named_hash Punct text at e = absurd cc

named_local : (kind : TokKind) (text : List ℕ) (at : ℕ) → is_local (record { kind = kind; text = text; at = at }) ≡ true → kind ≡ Local
named_local Local text at e = refl
named_local Word text at e = absurd cc
named_local Hash text at e = absurd cc
named_local At text at e = absurd cc
named_local Label text at e = absurd cc
named_local Num text at e = absurd cc
named_local Bytes text at e = absurd cc
named_local Str text at e = absurd cc
named_local Bang text at e = absurd cc
named_local Punct text at e = absurd cc

named_bang : (kind : TokKind) (text : List ℕ) (at : ℕ) → is_bang (record { kind = kind; text = text; at = at }) ≡ true → kind ≡ Bang
named_bang Bang text at e = refl
named_bang Word text at e = absurd cc
named_bang Local text at e = absurd cc
named_bang Hash text at e = absurd cc
named_bang At text at e = absurd cc
named_bang Label text at e = absurd cc
named_bang Num text at e = absurd cc
named_bang Bytes text at e = absurd cc
named_bang Str text at e = absurd cc
named_bang Punct text at e = absurd cc

-- ---- what a test that knows no such token answers

module _ {A : Type 0} (pick : Tok → Option A) where
  pub at_word : (word : List ℕ) → ((at : ℕ) → pick (word_token word at) ≡ None) → (t : Tok) → is_word word t ≡ true → pick t ≡ None
  at_word word none t e = ap pick (named_word t.kind t.text word t.at e) ∙ none t.at

  pub at_punct : (byte : ℕ) → ((at : ℕ) → pick (punct_token byte at) ≡ None) → (t : Tok) → is_punct byte t ≡ true → pick t ≡ None
  at_punct byte none t e = ap pick (named_punct t.kind t.text byte t.at e) ∙ none t.at

  pub at_hash : ((text : List ℕ) (at : ℕ) → pick (record { kind = Hash; text = text; at = at }) ≡ None) → (t : Tok) → is_hash t ≡ true → pick t ≡ None
  at_hash none t e = ap (λ (k : TokKind). pick (record { kind = k; text = t.text; at = t.at })) (named_hash t.kind t.text t.at e) ∙ none t.text t.at

  pub at_bang : ((text : List ℕ) (at : ℕ) → pick (record { kind = Bang; text = text; at = at }) ≡ None) → (t : Tok) → is_bang t ≡ true → pick t ≡ None
  at_bang none t e = ap (λ (k : TokKind). pick (record { kind = k; text = t.text; at = t.at })) (named_bang t.kind t.text t.at e) ∙ none t.text t.at

  pub at_local : ((text : List ℕ) (at : ℕ) → pick (record { kind = Local; text = text; at = at }) ≡ None) → (t : Tok) → is_local t ≡ true → pick t ≡ None
  at_local none t e = ap (λ (k : TokKind). pick (record { kind = k; text = t.text; at = t.at })) (named_local t.kind t.text t.at e) ∙ none t.text t.at

  pub unknown : (t : Tok) → is_some (pick t) ≡ false → pick t ≡ None
  unknown t e = by (pick t) e
    where
      by : (o : Option A) → is_some o ≡ false → o ≡ None
      by None e = refl
      by (Some a) e = absurd cc

  is_nothing : (o : Option A) → is_none o ≡ true → o ≡ None
  is_nothing None e = refl
  is_nothing (Some a) e = absurd cc

  -- a word of a table of which the test knows no word
  pub at_entry : {B : Type 0} (rows : List (List ℕ × B)) → ((at : ℕ) → list_all (λ row. is_none (pick (word_token row.0 at))) rows ≡ true) → (t : Tok) → is_some (in_table (entry rows) t) ≡ true → pick t ≡ None
  at_entry {B} rows none t e = by t.kind e
    where
      in_rows : (rows : List (List ℕ × B)) → list_all (λ row. is_none (pick (word_token row.0 t.at))) rows ≡ true → is_some (entry rows t.text) ≡ true → pick (word_token t.text t.at) ≡ None
      in_rows [] n e = absurd cc
      in_rows (row ∷ rows) n e = here (bytes_eq t.text row.0) refl (is_none (pick (word_token row.0 t.at))) refl (in_rows rows)
        where
          here : (b : Bool) → bytes_eq t.text row.0 ≡ b → (c : Bool) → is_none (pick (word_token row.0 t.at)) ≡ c → (list_all (λ row. is_none (pick (word_token row.0 t.at))) rows ≡ true → is_some (entry rows t.text) ≡ true → pick (word_token t.text t.at) ≡ None) → pick (word_token t.text t.at) ≡ None
          here true h true g later = ap (λ x. pick (word_token x t.at)) ((bytes_eq-Decides t.text row.0).0 h) ∙ is_nothing (pick (word_token row.0 t.at)) g
          here false h true g later = later (subst (λ c. (c && list_all (λ row. is_none (pick (word_token row.0 t.at))) rows) ≡ true) g n) (subst (λ b. is_some (if b then Some row.1 else entry rows t.text) ≡ true) h e)
          here b h false g later = absurd (false≢true (sym (ap (λ c. c && list_all (λ row. is_none (pick (word_token row.0 t.at))) rows) g) ∙ n))

      by : (k : TokKind) → is_some (in_table (entry rows) (record { kind = k; text = t.text; at = t.at })) ≡ true → pick (record { kind = k; text = t.text; at = t.at }) ≡ None
      by Word e = in_rows rows (none t.at) e
      by Local e = absurd cc
      by At e = absurd cc
      by Label e = absurd cc
      by Num e = absurd cc
      by Bytes e = absurd cc
      by Str e = absurd cc
      by Hash e = absurd cc
      by Bang e = absurd cc
      by Punct e = absurd cc

-- a test that fails is nothing known
pub not_known : (b : Bool) → b ≡ false → known b ≡ None
not_known false e = refl
not_known true e = absurd cc

-- ---- parts that refuse

pub one_refuses : {A : Type 0} (pick : Tok → Option A) (t : Tok) → pick t ≡ None → Refuses (one pick) t
one_refuses pick t e more = rw e refl

pub then_refuses : {A B : Type 0} (p : Part A) (k : A → Part B) (t : Tok) → Refuses p t → Refuses (p >>= k) t
then_refuses p k t r more = ap (λ x. read_then x k) (r more)

pub either_refuses : {A : Type 0} (f : Tok → Bool) (p q : Part A) (t : Tok) → f t ≡ false → Refuses q t → Refuses (either (heads f) p q) t
either_refuses f p q t e r more = ap (λ b. read_either b p q (t ∷ more)) e ∙ r more
