-- The ends of lines are read as they mean.
use Rattle.std.proofs.Common.{suc, ◌^◌, ◌≡◌, Bool, true, false, not, ◌&&◌, List, [], ◌∷◌, ◌++◌, length, Ok, Err, refl, sym, ap, ◌∙◌}
use Rattle.std.specs.Prelude.{codes}
use Rattle.ir_grammar.specs.Parts.{Tok, Read, Part, ends, taken, read_then, ◌>>=◌, read_row, then_row, star, read_seen, seen, heads}
use Rattle.ir_grammar.specs.Tokens.{is_punct, is_bang, is_word, known, keyword, punct, bang, comma}
use Rattle.ir_grammar.specs.Numbers.{count}
use Rattle.ir_grammar.specs.Tails.{goes_on, metadata, tail, align_tail, finished, aligned}
use Rattle.ir_grammar.proofs.Reading.{IsRead, Anywhere, AtEnd, Fails, Steady, Refuses, ends_law, then_at, then_law, then_other, either_law, seen_law, not_read}
use Rattle.ir_grammar.proofs.Rows.{star_law, star_heads}
use Rattle.ir_grammar.proofs.Refusals.{at_bang, one_refuses, then_refuses}
use Rattle.ir_grammar.proofs.PartLaws.{keyword_law, punct_law, bang_law, punct_refuses, wide_count_law}

-- ---- the plain end

pub metadata_law : IsRead Anywhere metadata
metadata_law = then_law (punct_law comma) (λ _ front m. then_law bang_law (λ _ front m. bang_law))

pub tail_law : IsRead AtEnd tail
unfolding tail
tail_law =
    then_other (is_punct comma) (seen_law (λ _. true) (star (heads (is_punct comma)) metadata) (star_heads (is_punct comma) metadata_law (λ t e. then_refuses (punct comma) _ t (punct_refuses comma t e)) refl))
    (λ values front m. ends_law true)
    (λ values front m t e more. refl)

-- a comma that stands first is taken
pub comma_taken : {A : Type 0} (q : Part A) (t : Tok) (ts : List Tok) → is_punct comma t ≡ true → (punct comma >>= λ _. q).reads (t ∷ ts) ≡ q.reads ts
comma_taken q t ts e = ap (λ b. read_then (taken (known b) (t ∷ ts)) (λ _. q)) e

tail_turn : (t : Tok) (ts : List Tok) → is_punct comma t ≡ true → tail.reads (t ∷ ts) ≡ read_then (read_seen (λ _. true) (then_row (read_row (heads (is_punct comma)) metadata (length ts)) (read_then (bang.reads ts) (λ _. bang)))) (λ _. ends true)
unfolding read_row tail
tail_turn t ts e =
    ap (λ (b : Bool). read_then (read_seen (λ _. true) (elim b as (λ _. Read (List Bool)) [ true ↦ then_row (read_row (heads (is_punct comma)) metadata (length ts)) (metadata.reads (t ∷ ts)) | false ↦ Ok ([], t ∷ ts) ])) (λ _. ends true)) e
    ∙ ap (λ r. read_then (read_seen (λ _. true) (then_row (read_row (heads (is_punct comma)) metadata (length ts)) r)) (λ _. ends true)) (comma_taken (bang >>= λ _. bang) t ts e)

-- ---- parts that end where no more of the instruction follows

pub record Closes {A : Type 0} (p : Part A) : Type 0 where
  pub over : (ts rest : List Tok) (v : A) → p.reads ts ≡ Ok (v, rest) → goes_on ts ≡ false
  pub past : (t : Tok) → is_punct comma t ≡ true → p.reads (t ∷ []) ≡ Err 0

tail_over : (ts rest : List Tok) (v : Bool) → tail.reads ts ≡ Ok (v, rest) → goes_on ts ≡ false
tail_over [] rest v e = refl
tail_over (t ∷ ts) rest v e = by (is_punct comma t) refl
  where
    behind : (ts : List Tok) (b : Bool) → heads is_bang ts ≡ b → tail.reads (t ∷ ts) ≡ Ok (v, rest) → is_punct comma t ≡ true → not b ≡ false
    behind ts true h e c = refl
    behind [] false h e c = not_read (sym (tail_turn t [] c) ∙ e)
    behind (u ∷ us) false h e c = not_read (sym (tail_turn t (u ∷ us) c ∙ ap (λ b. read_then (read_seen (λ _. true) (then_row (read_row (heads (is_punct comma)) metadata (suc (length us))) (read_then (taken (known b) (u ∷ us)) (λ _. bang)))) (λ _. ends true)) h) ∙ e)

    by : (b : Bool) → is_punct comma t ≡ b → (b && not (heads is_bang ts)) ≡ false
    by false h = refl
    by true h = behind ts (heads is_bang ts) refl e h

pub tail_closes : Closes tail
tail_closes = record { over = tail_over; past = λ t e. tail_turn t [] e }

pub finished_closes : {A : Type 0} (a : A) → Closes (finished a)
finished_closes {A} a = record { over = λ ts rest v e. by ts (tail.reads ts) refl e; past = λ t e. ap (read_seen (λ (_ : Bool). a)) (tail_turn t [] e) }
  where
    by : (ts : List Tok) {rest : List Tok} {v : A} (r : Read Bool) → tail.reads ts ≡ r → read_seen (λ (_ : Bool). a) r ≡ Ok (v, rest) → goes_on ts ≡ false
    by ts (Ok x) h e = tail_over ts x.1 x.0 h
    by ts (Err n) h e = not_read e

-- Two tokens decide the test.
steady : {A : Type 0} (p : Part A) (b : Bool) → ((t : Tok) → is_punct comma t ≡ true → p.reads (t ∷ []) ≡ Err 0) → Steady goes_on b p.reads
steady {A} p b past [] stop more t h s = by (is_punct comma t) refl
  where
    by : (c : Bool) → is_punct comma t ≡ c → goes_on (t ∷ more) ≡ b
    by true e = let k : ◌≡◌ {A = Read A} (Err 0) (Err 1) = sym (past t e) ∙ s [] in absurd cc
    by false e = ap (λ c. c && not (heads is_bang more)) e ∙ sym (ap (λ c. c && not (heads is_bang stop)) e) ∙ h
steady p b past (x ∷ []) stop more t h s = h
steady p b past (x ∷ y ∷ front) stop more t h s = h

-- rows of parts behind commas, and then the end
pub then_over : {A B : Type 0} {p : Part A} {k : A → Part B} → IsRead (Fails goes_on) p → ((a : A) → IsRead AtEnd (k a)) → ((a : A) → Closes (k a)) → IsRead AtEnd (p >>= k)
then_over {A} {B} {p} {k} law second closes =
    then_at (Fails goes_on) AtEnd p k law (λ a front m. second a)
    (λ a front back rest v m h g. (closes a).over (back ++ rest) rest v ((second a).complete back rest v h g))
    (λ a front stop more t h s. steady (k a) false (closes a).past front stop more t h s)

-- ---- a part behind a comma, that no metadata is

module _ {A : Type 0} (q : Part A) (refuses : (t : Tok) → is_bang t ≡ true → Refuses q t) (empty : q.reads [] ≡ Err 0) where
  pub item_past : (t : Tok) → is_punct comma t ≡ true → (punct comma >>= λ _. q).reads (t ∷ []) ≡ Err 0
  item_past t e = comma_taken q t [] e ∙ empty

  pub item_opens : (ts rest : List Tok) (v : A) → (punct comma >>= λ _. q).reads ts ≡ Ok (v, rest) → goes_on ts ≡ true
  item_opens [] rest v e = not_read e
  item_opens (t ∷ ts) rest v e = by (is_punct comma t) refl
    where
      behind : (ts : List Tok) (b : Bool) → heads is_bang ts ≡ b → q.reads ts ≡ Ok (v, rest) → not b ≡ true
      behind ts false h e = refl
      behind [] true h e = not_read (sym empty ∙ e)
      behind (u ∷ us) true h e = not_read (sym (refuses u h us) ∙ e)

      by : (b : Bool) → is_punct comma t ≡ b → (b && not (heads is_bang ts)) ≡ true
      by true h = behind ts (heads is_bang ts) refl (sym (comma_taken q t ts h) ∙ e)
      by false h = not_read (sym (ap (λ b. read_then (taken (known b) (t ∷ ts)) (λ _. q)) h) ∙ e)

pub items_law : {A : Type 0} (q : Part A) → IsRead Anywhere q → ((t : Tok) → is_bang t ≡ true → Refuses q t) → q.reads [] ≡ Err 0 → IsRead (Fails goes_on) (star goes_on (punct comma >>= λ _. q))
items_law {A} q law refuses empty = star_law goes_on (punct comma >>= λ _. q) each (λ front rest v h. item_opens q refuses empty (front ++ rest) rest v (each.complete front rest v h tt)) (steady (punct comma >>= λ _. q) true (item_past q refuses empty)) refl
  where
    each : IsRead Anywhere (punct comma >>= λ _. q)
    each = then_law (punct_law comma) (λ _ front m. law)

-- ---- an alignment, and the end

pub align_tail_law : IsRead AtEnd align_tail
unfolding align_tail
align_tail_law =
    either_law goes_on (punct comma >>= λ _. align) tail (then_law (punct_law comma) (λ _ front m. align_law)) tail_law
    (λ front rest v h g. item_opens align refuses refl (front ++ rest) rest v ((then_law (punct_law comma) (λ _ front m. align_law)).complete front rest v h g))
    (λ front rest v h g. tail_closes.over (front ++ rest) rest v (tail_law.complete front rest v h g))
    (steady (punct comma >>= λ _. align) true (item_past align refuses refl)) (steady tail false tail_closes.past)
  where
    align : Part Bool
    align = keyword (codes "align") >>= λ _. count (2 ^ 64) >>= λ _. tail

    align_law : IsRead AtEnd align
    align_law = then_law (keyword_law (codes "align")) (λ _ front m. then_law wide_count_law (λ _ front m. tail_law))

    refuses : (t : Tok) → is_bang t ≡ true → Refuses align t
    refuses t e = then_refuses (keyword (codes "align")) _ t (one_refuses (λ t. known (is_word (codes "align") t)) t (at_bang (λ t. known (is_word (codes "align") t)) (λ text at. refl) t e))

pub finished_law : {A : Type 0} (a : A) → IsRead AtEnd (finished a)
finished_law a = seen_law (λ _. a) tail tail_law

pub aligned_law : {A : Type 0} (a : A) → IsRead AtEnd (aligned a)
aligned_law a = seen_law (λ _. a) align_tail align_tail_law

-- ---- the end refuses other tokens

seen_refuses : {A B : Type 0} (f : A → B) (p : Part A) (t : Tok) → Refuses p t → Refuses (seen f p) t
seen_refuses f p t r more = ap (read_seen f) (r more)

tail_refuses : (t : Tok) → is_punct comma t ≡ false → Refuses tail t
unfolding tail read_row
tail_refuses t e more = ap (λ (b : Bool). read_then (read_seen (λ _. true) (elim b as (λ _. Read (List Bool)) [ true ↦ then_row (read_row (heads (is_punct comma)) metadata (length more)) (metadata.reads (t ∷ more)) | false ↦ Ok ([], t ∷ more) ])) (λ _. ends true)) e

pub finished_refuses : {A : Type 0} (a : A) (t : Tok) → is_punct comma t ≡ false → Refuses (finished a) t
finished_refuses a t e = seen_refuses (λ _. a) tail t (tail_refuses t e)
