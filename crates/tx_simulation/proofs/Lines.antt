-- Lines that a transaction touched, once it has done an access more; and what an access tells of transactions that it spares.
use Rattle.std.proofs.Common.{ℕ, ◌≡◌, ◌⊎◌, ◌∙◌, Bool, true, false, ◌||◌, ◌&&◌, List, [], ◌∷◌, ◌++◌, Option, Some, None, refl, ap, sym, inl, inr, ⊎_elim, nat_eq, eq-eqb, eqb-true, true≢false}
use Rattle.std.proofs.lemmas.Bool.{or_cases}
use Rattle.mem_image.specs.Lines.{Line, line_of, numbers, blank, is_open, opened_unless, opened, stored_if, lines_with, opened_where, lines_after}
use Rattle.mem_image.specs.Touches.{Touch, Store, stored_with}
use Rattle.line_sets.specs.Sets.{has, added_unless, with_member}
use Rattle.rtm_core.specs.Footprint.{written_lines, conflicts, read_after}
use Rattle.hard_meaning.specs.State.{Transaction, Mode, Free, Inside}
use Rattle.hard_meaning.specs.Aborts.{is_in_the_way, meets_mutex}
use Rattle.hard_meaning.specs.Effects.{transaction_after}
use Rattle.tx_simulation.proofs.Points.{wrote, touched}

-- ---- Bools

pub or-left : (a b : Bool) → a ≡ true → (a || b) ≡ true
or-left true b e = refl
or-left false b e = cc

pub or-right : (a b : Bool) → b ≡ true → (a || b) ≡ true
or-right true b e = refl
or-right false b e = e

pub neither : (a b : Bool) → (a || b) ≡ false → (a ≡ false) × (b ≡ false)
neither true b e = cc
neither false b e = (refl, e)

pub never-both : (b : Bool) → b ≡ false → b ≡ true → ⊥
never-both b e f = true≢false (sym f ∙ e)

pub same-either : (a b : ℕ) → nat_eq a b ≡ nat_eq b a
same-either a b = by_test (nat_eq a b) refl (nat_eq b a) refl
  where
    by_test : (x : Bool) → nat_eq a b ≡ x → (y : Bool) → nat_eq b a ≡ y → nat_eq a b ≡ nat_eq b a
    by_test true e true f = e ∙ sym f
    by_test false e false f = e ∙ sym f
    by_test true e false f = absurd (never-both (nat_eq b a) f (eq-eqb b a (sym (eqb-true a b e))))
    by_test false e true f = absurd (never-both (nat_eq a b) e (eq-eqb a b (sym (eqb-true b a f))))

-- ---- sets

has-append : (xs : List ℕ) (n k : ℕ) → has (xs ++ n ∷ []) k ≡ (has xs k || nat_eq k n)
has-append [] n k = by_test (nat_eq k n)
  where
    by_test : (b : Bool) → (b || false) ≡ b
    by_test true = refl
    by_test false = refl
has-append (x ∷ xs) n k = ap (λ (b : Bool). nat_eq k x || b) (has-append xs n k) ∙ regroup (nat_eq k x) (has xs k) (nat_eq k n)
  where
    regroup : (a b c : Bool) → (a || (b || c)) ≡ ((a || b) || c)
    regroup true b c = refl
    regroup false b c = refl

pub member-has : (xs : List ℕ) (n : ℕ) → has (with_member xs n) n ≡ true
member-has xs n = by_test (has xs n) refl
  where
    by_test : (b : Bool) → has xs n ≡ b → has (added_unless b xs n) n ≡ true
    by_test true e = e
    by_test false e = has-append xs n n ∙ or-right (has xs n) (nat_eq n n) (eq-eqb n n refl)

pub member-keeps : (xs : List ℕ) (n k : ℕ) → has xs k ≡ true → has (with_member xs n) k ≡ true
member-keeps xs n k e = by_test (has xs n)
  where
    by_test : (b : Bool) → has (added_unless b xs n) k ≡ true
    by_test true = e
    by_test false = has-append xs n k ∙ or-left (has xs k) (nat_eq k n) e

pub member-only : (xs : List ℕ) (n k : ℕ) → has (with_member xs n) k ≡ true → (k ≡ n) ⊎ (has xs k ≡ true)
member-only xs n k e = by_test (has xs n) e
  where
    by_test : (b : Bool) → has (added_unless b xs n) k ≡ true → (k ≡ n) ⊎ (has xs k ≡ true)
    by_test true f = inr f
    by_test false f = ⊎_elim (λ g. inr g) (λ g. inl (eqb-true k n g)) (or_cases (has xs k) (nat_eq k n) (sym (has-append xs n k) ∙ f))

-- ---- numbers of lines

open-has : (lines : List Line) (n : ℕ) → is_open lines n ≡ has (numbers lines) n
open-has [] n = refl
open-has (line ∷ lines) n = ap (λ (b : Bool). b || is_open lines n) (same-either line.number n) ∙ ap (λ (b : Bool). nat_eq n line.number || b) (open-has lines n)

numbers-append : (lines : List Line) (n : ℕ) → numbers (lines ++ blank n ∷ []) ≡ numbers lines ++ n ∷ []
numbers-append [] n = refl
numbers-append (line ∷ lines) n = ap (λ (ns : List ℕ). line.number ∷ ns) (numbers-append lines n)

numbers-opened : (lines : List Line) (n : ℕ) → numbers (opened lines n) ≡ with_member (numbers lines) n
numbers-opened lines n = by_test (is_open lines n) ∙ ap (λ (b : Bool). added_unless b (numbers lines) n) (open-has lines n)
  where
    by_test : (b : Bool) → numbers (opened_unless b lines n) ≡ added_unless b (numbers lines) n
    by_test true = refl
    by_test false = numbers-append lines n

kept-number : (b : Bool) (line : Line) (a n word : ℕ) → (stored_if b line a n word).number ≡ line.number
kept-number true line a n word = refl
kept-number false line a n word = refl

numbers-stored : (lines : List Line) (a n word : ℕ) → numbers (lines_with lines a n word) ≡ numbers lines
numbers-stored [] a n word = refl
numbers-stored (line ∷ lines) a n word =
    ap (λ (k : ℕ). k ∷ numbers (lines_with lines a n word)) (kept-number (nat_eq line.number (line_of a)) line a n word)
    ∙ ap (λ (ns : List ℕ). line.number ∷ ns) (numbers-stored lines a n word)

numbers-with : (store : Option Store) (lines : List Line) → numbers (stored_with lines_with store lines) ≡ numbers lines
numbers-with None lines = refl
numbers-with (Some store) lines = numbers-stored lines store.address store.size store.word

abbrev written_where : Bool → List ℕ → ℕ → List ℕ
written_where true ns n = with_member ns n
written_where false ns n = ns

numbers-where : (writes : Bool) (lines : List Line) (n : ℕ) → numbers (opened_where writes lines n) ≡ written_where writes (numbers lines) n
numbers-where true lines n = numbers-opened lines n
numbers-where false lines n = refl

numbers-after : (touch : Touch) (store : Option Store) (lines : List Line)
    → numbers (lines_after touch store lines) ≡ written_where touch.writes (numbers lines) (line_of touch.address)
numbers-after touch store lines =
    numbers-with store (opened_where touch.writes lines (line_of touch.address)) ∙ numbers-where touch.writes lines (line_of touch.address)

-- ---- an access more

where-keeps : (b : Bool) (ns : List ℕ) (n k : ℕ) → has ns k ≡ true → has (written_where b ns n) k ≡ true
where-keeps true ns n k e = member-keeps ns n k e
where-keeps false ns n k e = e

where-only : (b : Bool) (ns : List ℕ) (n k : ℕ) → has (written_where b ns n) k ≡ true → ((b ≡ true) × (k ≡ n)) ⊎ (has ns k ≡ true)
where-only true ns n k e = ⊎_elim (λ f. inl (refl, f)) (λ f. inr f) (member-only ns n k e)
where-only false ns n k e = inr e

read-keeps : (b : Bool) (ns : List ℕ) (n k : ℕ) → has ns k ≡ true → has (read_after b ns n) k ≡ true
read-keeps true ns n k e = member-keeps ns n k e
read-keeps false ns n k e = e

read-only : (b : Bool) (ns : List ℕ) (n k : ℕ) → has (read_after b ns n) k ≡ true → ((b ≡ true) × (k ≡ n)) ⊎ (has ns k ≡ true)
read-only true ns n k e = ⊎_elim (λ f. inl (refl, f)) (λ f. inr f) (member-only ns n k e)
read-only false ns n k e = inr e

module _ (retires : Bool) (store : Option Store) (tx : Transaction) where
  -- lines that were written stay so
  pub wrote-keeps : (touch : Option Touch) (line : ℕ) → wrote (Inside tx) line ≡ true → wrote (Inside (transaction_after retires touch store tx)) line ≡ true
  wrote-keeps None line e = e
  wrote-keeps (Some touch) line e = ap (λ (ns : List ℕ). has ns line) (numbers-after touch store tx.footprint.write_set)
      ∙ where-keeps touch.writes (written_lines tx.footprint) (line_of touch.address) line e

  pub touched-keeps : (touch : Option Touch) (line : ℕ) → touched (Inside tx) line ≡ true
      → touched (Inside (transaction_after retires touch store tx)) line ≡ true
  touched-keeps None line e = e
  touched-keeps (Some touch) line e = ⊎_elim
      (λ f. or-left _ _ (read-keeps touch.reads tx.footprint.read_set (line_of touch.address) line f))
      (λ f. or-right (has (read_after touch.reads tx.footprint.read_set (line_of touch.address)) line) _ (wrote-keeps (Some touch) line f))
      (or_cases (has tx.footprint.read_set line) (has (written_lines tx.footprint) line) e)

  -- what is written is a line that was, or the access's own
  pub wrote-only : (touch : Touch) (line : ℕ) → wrote (Inside (transaction_after retires (Some touch) store tx)) line ≡ true
      → ((touch.writes ≡ true) × (line ≡ line_of touch.address)) ⊎ (wrote (Inside tx) line ≡ true)
  wrote-only touch line e = where-only touch.writes (written_lines tx.footprint) (line_of touch.address) line
      (sym (ap (λ (ns : List ℕ). has ns line) (numbers-after touch store tx.footprint.write_set)) ∙ e)

  pub touched-only : (touch : Touch) (line : ℕ) → touched (Inside (transaction_after retires (Some touch) store tx)) line ≡ true
      → (((touch.reads || touch.writes) ≡ true) × (line ≡ line_of touch.address)) ⊎ (touched (Inside tx) line ≡ true)
  touched-only touch line e = ⊎_elim
      (λ f. ⊎_elim (λ g. inl (or-left touch.reads touch.writes g.0, g.1)) (λ g. inr (or-left (has tx.footprint.read_set line) _ g))
      (read-only touch.reads tx.footprint.read_set (line_of touch.address) line f))
      (λ f. ⊎_elim (λ g. inl (or-right touch.reads touch.writes g.0, g.1)) (λ g. inr (or-right (has tx.footprint.read_set line) _ g)) (wrote-only touch line f))
      (or_cases (has (read_after touch.reads tx.footprint.read_set (line_of touch.address)) line) _ e)

  -- the access's own line
  pub wrote-own : (touch : Touch) → touch.writes ≡ true → wrote (Inside (transaction_after retires (Some touch) store tx)) (line_of touch.address) ≡ true
  wrote-own touch e = ap (λ (ns : List ℕ). has ns (line_of touch.address)) (numbers-after touch store tx.footprint.write_set) ∙ by_writes touch.writes e
    where
      by_writes : (b : Bool) → b ≡ true → has (written_where b (written_lines tx.footprint) (line_of touch.address)) (line_of touch.address) ≡ true
      by_writes true e = member-has (written_lines tx.footprint) (line_of touch.address)
      by_writes false e = cc

  pub touched-own : (touch : Touch) → (touch.reads || touch.writes) ≡ true
      → touched (Inside (transaction_after retires (Some touch) store tx)) (line_of touch.address) ≡ true
  touched-own touch e = ⊎_elim (λ f. or-left _ _ (by_reads touch.reads f))
      (λ f. or-right (has (read_after touch.reads tx.footprint.read_set (line_of touch.address)) (line_of touch.address)) _ (wrote-own touch f))
      (or_cases touch.reads touch.writes e)
    where
      by_reads : (b : Bool) → b ≡ true → has (read_after b tx.footprint.read_set (line_of touch.address)) (line_of touch.address) ≡ true
      by_reads true e = member-has tx.footprint.read_set (line_of touch.address)
      by_reads false e = cc

-- ---- what an access spares

-- it reads or writes what a spared thread didn't write
pub spared-wrote : (touch : Touch) (mutex : Option ℕ) (mode : Mode) → is_in_the_way (record { touch = Some touch; mutex = mutex }) mode ≡ false
    → (touch.reads || touch.writes) ≡ true → wrote mode (line_of touch.address) ≡ false
spared-wrote touch mutex (Free plain) clear some = refl
spared-wrote touch mutex (Inside tx) clear some =
    let parts = neither (conflicts touch tx.footprint) (meets_mutex mutex tx.watched) clear in
    by_kind touch.reads touch.writes (has (written_lines tx.footprint) (line_of touch.address)) (has tx.footprint.read_set (line_of touch.address)) parts.0 some
  where
    by_kind : (reads writes w r : Bool) → ((reads && w) || (writes && (r || w))) ≡ false → (reads || writes) ≡ true → w ≡ false
    by_kind true writes w r e some = (neither (true && w) (writes && (r || w)) e).0
    by_kind false true w r e some = (neither r w e).1
    by_kind false false w r e some = cc

-- it writes what a spared thread didn't touch
pub spared-touched : (touch : Touch) (mutex : Option ℕ) (mode : Mode) → is_in_the_way (record { touch = Some touch; mutex = mutex }) mode ≡ false
    → touch.writes ≡ true → touched mode (line_of touch.address) ≡ false
spared-touched touch mutex (Free plain) clear some = refl
spared-touched touch mutex (Inside tx) clear some =
    let parts = neither (conflicts touch tx.footprint) (meets_mutex mutex tx.watched) clear in
    by_kind touch.reads touch.writes (has (written_lines tx.footprint) (line_of touch.address)) (has tx.footprint.read_set (line_of touch.address)) parts.0 some
  where
    by_kind : (reads writes w r : Bool) → ((reads && w) || (writes && (r || w))) ≡ false → writes ≡ true → (r || w) ≡ false
    by_kind reads true w r e some = (neither (reads && w) (r || w) e).1
    by_kind reads false w r e some = cc

-- ---- two transactions

-- no line that one wrote is touched by the other
abbrev pub AreApart : Mode → Mode → Type 0
AreApart a b = (line : ℕ) → wrote a line ≡ true → touched b line ≡ true → ⊥

pub apart-after : (retires : Bool) (touch : Option Touch) (mutex : Option ℕ) (store : Option Store) (tx : Transaction) (mode : Mode)
    → is_in_the_way (record { touch = touch; mutex = mutex }) mode ≡ false → AreApart (Inside tx) mode
    → AreApart (Inside (transaction_after retires touch store tx)) mode
apart-after retires None mutex store tx mode clear apart line p q = apart line p q
apart-after retires (Some touch) mutex store tx mode clear apart line p q = ⊎_elim
    (λ f. never-both (touched mode (line_of touch.address)) (spared-touched touch mutex mode clear f.0) (ap (touched mode) (sym f.1) ∙ q))
    (λ f. apart line f q) (wrote-only retires store tx touch line p)

pub apart-before : (retires : Bool) (touch : Option Touch) (mutex : Option ℕ) (store : Option Store) (tx : Transaction) (mode : Mode)
    → is_in_the_way (record { touch = touch; mutex = mutex }) mode ≡ false → AreApart mode (Inside tx)
    → AreApart mode (Inside (transaction_after retires touch store tx))
apart-before retires None mutex store tx mode clear apart line p q = apart line p q
apart-before retires (Some touch) mutex store tx mode clear apart line p q = ⊎_elim
    (λ f. never-both (wrote mode (line_of touch.address)) (spared-wrote touch mutex mode clear f.0) (ap (wrote mode) (sym f.1) ∙ p))
    (λ f. apart line p f) (touched-only retires store tx touch line q)
