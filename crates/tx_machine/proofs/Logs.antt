-- Laws of upsets as they came: what stands among them, and what has become of them.
use Rattle.std.proofs.Common.{ℕ, zero, suc, ◌<◌, ◌≤◌, ◌≡◌, ◌∙◌, ◌+◌, ◌-◌, Bool, true, false, ◌||◌, List, [], ◌∷◌, ◌++◌, length, map, take, Option, Some, None, slice_get, slice_set, refl, ap, sym, subst, arith}
use Rattle.std.specs.Prelude.{nat_lt, nat_eq}
use Rattle.std.specs.Option.{option_map, option_map_or}
use Rattle.std.specs.List.{list_any}
use Rattle.std.proofs.lemmas.Bool.Decides.{nat_tests}
use Rattle.std.proofs.lemmas.List.{length-map, map-append}
use Rattle.std.proofs.lemmas.Option.{slice_get-map}
use Rattle.line_sets.specs.Sets.{has}
use Rattle.upset_model.specs.declared.records.Record.{Record}
use Rattle.upset_model.specs.declared.records.Record.TheVariants.{Missed, Window, Hit, Undone, Stacked}
use Rattle.hard_meaning.specs.State.{Upset, Nowhere, OnAnother, InWindow, Struck, Worker}
use Rattle.hard_meaning.specs.Records.{stands, some_stands, hit_if, carries, records_from}
use Rattle.tx_machine.proofs.Told.{take-front}
use Rattle.tx_machine.specs.Log.{kept, came, record_if, records_if, is_firm, more_if, firm_in, is_struck, struck_at, hit_as, hit_at, hit_all}

-- ---- what is kept

pub came-kept : (u : Upset) → came (kept u) ≡ u
came-kept Nowhere = refl
came-kept OnAnother = refl
came-kept InWindow = refl
came-kept Struck = refl

-- the records of what is kept are those where no number is carried
pub kept-records : (k : ℕ) (us : List Upset) → map kept us ≡ records_if (λ n. false) k us
kept-records k [] = refl
kept-records k (Nowhere ∷ us) = ap (λ rest. Missed ∷ rest) (kept-records (suc k) us)
kept-records k (OnAnother ∷ us) = ap (λ rest. Stacked ∷ rest) (kept-records (suc k) us)
kept-records k (InWindow ∷ us) = ap (λ rest. Window ∷ rest) (kept-records (suc k) us)
kept-records k (Struck ∷ us) = ap (λ rest. Undone ∷ rest) (kept-records (suc k) us)

-- ---- those that stand whatever is aborted

swap : (a b : Bool) (n : ℕ) → more_if a (more_if b n) ≡ more_if b (more_if a n)
swap true true n = refl
swap true false n = refl
swap false b n = refl

pub added-firm : (us : List Upset) (u : Upset) → firm_in (us ++ u ∷ []) ≡ more_if (is_firm u) (firm_in us)
added-firm [] u = refl
added-firm (x ∷ us) u = ap (more_if (is_firm x)) (added-firm us u) ∙ swap (is_firm x) (is_firm u) (firm_in us)

pub least : (b : Bool) (n m : ℕ) → more_if b n ≡ m → more_if b 0 ≤ m
least true n m e = omega (arith, e)
least false n m e = omega arith

pub same-less : (b : Bool) (n m : ℕ) → more_if b n ≡ more_if b m → n ≡ m
same-less true n m e = omega (arith, e)
same-less false n m e = e

pub few-firm : (us : List Upset) → firm_in us ≤ length us
few-firm [] = omega arith
few-firm (u ∷ us) = by (is_firm u) (few-firm us)
  where
    by : (b : Bool) → firm_in us ≤ length us → more_if b (firm_in us) ≤ suc (length us)
    by true h = omega (arith, h)
    by false h = omega (arith, h)

some-more : (n : ℕ) → nat_lt 0 (suc n) ≡ true
some-more n = grind (arith, nat_tests)

pub some-firm : (us : List Upset) → nat_lt 0 (firm_in us) ≡ list_any is_firm us
some-firm [] = refl
some-firm (u ∷ us) = by (is_firm u) (some-firm us)
  where
    by : (b : Bool) → nat_lt 0 (firm_in us) ≡ list_any is_firm us → nat_lt 0 (more_if b (firm_in us)) ≡ (b || list_any is_firm us)
    by true e = some-more (firm_in us)
    by false e = e

-- ---- those that struck, by their numbers

abbrev pub struck_as : Upset → ℕ → ℕ → Bool
struck_as Nowhere k n = false
struck_as OnAnother k n = false
struck_as InWindow k n = false
struck_as Struck k n = nat_eq k n

-- the same where the first has a number
abbrev pub struck_from : ℕ → List Upset → ℕ → Bool
struck_from k [] n = false
struck_from k (u ∷ us) n = struck_as u k n || struck_from (suc k) us n

other : (k n : ℕ) → n < k → nat_eq k n ≡ false
other k n less = grind (arith, nat_tests)

same : (k : ℕ) → nat_eq k k ≡ true
same k = grind (arith, nat_tests)

as-other : (u : Upset) (k n : ℕ) → nat_eq k n ≡ false → struck_as u k n ≡ false
as-other Nowhere k n e = refl
as-other OnAnother k n e = refl
as-other InWindow k n e = refl
as-other Struck k n e = e

as-same : (u : Upset) (k : ℕ) → struck_as u k k ≡ is_struck u
as-same Nowhere k = refl
as-same OnAnother k = refl
as-same InWindow k = refl
as-same Struck k = same k

before : (k : ℕ) (us : List Upset) (n : ℕ) → n < k → struck_from k us n ≡ false
before k [] n less = refl
before k (u ∷ us) n less = ap (λ (b : Bool). b || struck_from (suc k) us n) (as-other u k n (other k n less)) ∙ before (suc k) us n (omega (arith, less))

or-false : (b : Bool) → (b || false) ≡ b
or-false true = refl
or-false false = refl

struck-there : (k : ℕ) (us : List Upset) (m : ℕ) → struck_from k us (k + m) ≡ struck_at us m
struck-there k [] zero = refl
struck-there k [] (suc m) = refl
struck-there k (u ∷ us) zero =
    let n : k + 0 ≡ k = omega arith in
    ap (struck_from k (u ∷ us)) n ∙ ap (λ (b : Bool). struck_as u k k || b) (before (suc k) us k (omega arith)) ∙ or-false (struck_as u k k) ∙ as-same u k
struck-there k (u ∷ us) (suc m) =
    let n : k + suc m ≡ suc k + m = omega arith in
    ap (λ (b : Bool). b || struck_from (suc k) us (k + suc m)) (as-other u k (k + suc m) (different k m))
    ∙ ap (struck_from (suc k) us) n ∙ struck-there (suc k) us m
  where
    different : (k m : ℕ) → nat_eq k (k + suc m) ≡ false
    different k m = grind (arith, nat_tests)

pub struck-is : (us : List Upset) (n : ℕ) → struck_from 0 us n ≡ struck_at us n
struck-is us n = let e : n ≡ 0 + n = omega arith in ap (struck_from 0 us) e ∙ struck-there 0 us n

-- ---- whether some stand

either : {A : Type 0} (p q : A → Bool) (xs : List A) → list_any (λ x. p x || q x) xs ≡ (list_any p xs || list_any q xs)
either p q [] = refl
either p q (x ∷ xs) = ap (λ (b : Bool). (p x || q x) || b) (either p q xs) ∙ by (p x) (q x) (list_any p xs) (list_any q xs)
  where
    by : (a b c d : Bool) → ((a || b) || (c || d)) ≡ ((a || c) || (b || d))
    by true b c d = refl
    by false true true d = refl
    by false true false d = refl
    by false false c d = refl

pub alike : {A : Type 0} (p q : A → Bool) → ((x : A) → p x ≡ q x) → (xs : List A) → list_any p xs ≡ list_any q xs
alike p q e [] = refl
alike p q e (x ∷ xs) = ap (λ (b : Bool). b || list_any p xs) (e x) ∙ ap (λ (b : Bool). q x || b) (alike p q e xs)

none : {A : Type 0} (xs : List A) → list_any (λ x. false) xs ≡ false
none [] = refl
none (x ∷ xs) = none xs

turned : (a b c : Bool) → (a || (b || c)) ≡ (b || (a || c))
turned true true c = refl
turned true false c = refl
turned false b c = refl

stands-hit : (b : Bool) → stands (hit_if b) ≡ b
stands-hit true = refl
stands-hit false = refl

some-from : (ns : List ℕ) (k : ℕ) (us : List Upset)
    → some_stands (records_if (λ m. has ns m) k us) ≡ (list_any is_firm us || list_any (struck_from k us) ns)
some-from ns k [] = sym (none ns)
some-from ns k (Nowhere ∷ us) = some-from ns (suc k) us
some-from ns k (OnAnother ∷ us) = refl
some-from ns k (InWindow ∷ us) = refl
some-from ns k (Struck ∷ us) =
    ap (λ (b : Bool). b || some_stands (records_if (λ m. has ns m) (suc k) us)) (stands-hit (has ns k))
    ∙ ap (λ (b : Bool). has ns k || b) (some-from ns (suc k) us)
    ∙ turned (has ns k) (list_any is_firm us) (list_any (struck_from (suc k) us) ns)
    ∙ ap (λ (b : Bool). list_any is_firm us || b) (sym (either (nat_eq k) (struck_from (suc k) us) ns))

-- some stand that no abort undoes, or some number that is carried is of one that struck
pub some-of : (ns : List ℕ) (us : List Upset)
    → some_stands (records_if (λ m. has ns m) 0 us) ≡ (list_any is_firm us || list_any (struck_at us) ns)
some-of ns us = some-from ns 0 us ∙ ap (λ (b : Bool). list_any is_firm us || b) (alike (struck_from 0 us) (struck_at us) (struck-is us) ns)

-- ---- hits

record-alike : (p q : ℕ → Bool) (k : ℕ) → p k ≡ q k → (u : Upset) → record_if p k u ≡ record_if q k u
record-alike p q k e Nowhere = refl
record-alike p q k e OnAnother = refl
record-alike p q k e InWindow = refl
record-alike p q k e Struck = ap hit_if e

pub records-alike : (p q : ℕ → Bool) → ((n : ℕ) → p n ≡ q n) → (k : ℕ) (us : List Upset) → records_if p k us ≡ records_if q k us
records-alike p q e k [] = refl
records-alike p q e k (u ∷ us) =
    ap (λ (r : Record). r ∷ records_if p (suc k) us) (record-alike p q k (e k) u) ∙ ap (λ (rest : List Record). record_if q k u ∷ rest) (records-alike p q e (suc k) us)

-- those after a place don't change
after : (p : ℕ → Bool) (n k : ℕ) (us : List Upset) → n < k → records_if (λ m. nat_eq m n || p m) k us ≡ records_if p k us
after p n k [] less = refl
after p n k (u ∷ us) less =
    ap (λ (r : Record). r ∷ records_if (λ m. nat_eq m n || p m) (suc k) us)
    (record-alike (λ m. nat_eq m n || p m) p k (ap (λ (b : Bool). b || p k) (other k n less)) u)
    ∙ ap (λ (rest : List Record). record_if p k u ∷ rest) (after p n (suc k) us (omega (arith, less)))

hit-hit : (b : Bool) → hit_as (hit_if b) ≡ Hit
hit-hit true = refl
hit-hit false = refl

hit-here : (p : ℕ → Bool) (k : ℕ) (u : Upset) → hit_as (record_if p k u) ≡ record_if (λ m. nat_eq m k || p m) k u
hit-here p k Nowhere = refl
hit-here p k OnAnother = refl
hit-here p k InWindow = refl
hit-here p k Struck = hit-hit (p k) ∙ ap (λ (b : Bool). hit_if (b || p k)) (sym (same k))

later : (r : Record) (rs : List Record) (m : ℕ) → hit_at (suc m) (r ∷ rs) ≡ r ∷ hit_at m rs
later r rs m = by (slice_get rs m)
  where
    by : (o : Option Record) → option_map_or (λ x. slice_set (r ∷ rs) (suc m) (hit_as x)) o (r ∷ rs) ≡ r ∷ option_map_or (λ x. slice_set rs m (hit_as x)) o rs
    by None = refl
    by (Some x) = refl

hit-there : (p : ℕ → Bool) (k m : ℕ) (us : List Upset) → hit_at m (records_if p k us) ≡ records_if (λ i. nat_eq i (k + m) || p i) k us
hit-there p k zero [] = refl
hit-there p k (suc m) [] = refl
hit-there p k zero (u ∷ us) =
    let n : k ≡ k + 0 = omega arith in
    ap (λ (r : Record). r ∷ records_if p (suc k) us) (hit-here p k u)
    ∙ ap (λ (rest : List Record). record_if (λ i. nat_eq i k || p i) k u ∷ rest) (sym (after p k (suc k) us (omega arith)))
    ∙ ap (λ (n : ℕ). records_if (λ i. nat_eq i n || p i) k (u ∷ us)) n
hit-there p k (suc m) (u ∷ us) =
    let n : suc k + m ≡ k + suc m = omega arith in
    later (record_if p k u) (records_if p (suc k) us) m
    ∙ ap (λ (rest : List Record). record_if p k u ∷ rest) (hit-there p (suc k) m us)
    ∙ ap (λ (n : ℕ). record_if p k u ∷ records_if (λ i. nat_eq i n || p i) (suc k) us) n
    ∙ ap (λ (r : Record). r ∷ records_if (λ i. nat_eq i (k + suc m) || p i) (suc k) us)
    (record-alike p (λ i. nat_eq i (k + suc m) || p i) k (ap (λ (b : Bool). b || p k) (sym (different k m))) u)
  where
    different : (k m : ℕ) → nat_eq k (k + suc m) ≡ false
    different k m = grind (arith, nat_tests)

hit-one : (p : ℕ → Bool) (n : ℕ) (us : List Upset) → hit_at n (records_if p 0 us) ≡ records_if (λ i. nat_eq i n || p i) 0 us
hit-one p n us = let e : 0 + n ≡ n = omega arith in hit-there p 0 n us ∙ ap (λ (n : ℕ). records_if (λ i. nat_eq i n || p i) 0 us) e

hit-more : (ns : List ℕ) (p : ℕ → Bool) (us : List Upset) → hit_all ns (records_if p 0 us) ≡ records_if (λ i. has ns i || p i) 0 us
hit-more [] p us = refl
hit-more (n ∷ ns) p us =
    ap (hit_all ns) (hit-one p n us) ∙ hit-more ns (λ i. nat_eq i n || p i) us
    ∙ records-alike (λ i. has ns i || (nat_eq i n || p i)) (λ i. has (n ∷ ns) i || p i) (λ i. by (has ns i) (nat_eq i n) (p i)) 0 us
  where
    by : (a b c : Bool) → (a || (b || c)) ≡ ((b || a) || c)
    by true true c = refl
    by true false c = refl
    by false true c = refl
    by false false c = refl

-- once those whose numbers are carried are hits, the records are those by these numbers
pub hit-kept : (ns : List ℕ) (us : List Upset) → hit_all ns (map kept us) ≡ records_if (λ m. has ns m) 0 us
hit-kept ns us = ap (hit_all ns) (kept-records 0 us) ∙ hit-more ns (λ n. false) us
    ∙ records-alike (λ i. has ns i || false) (λ m. has ns m) (λ i. or-false (has ns i)) 0 us

pub hit-both : (xs ys : List ℕ) (rs : List Record) → hit_all (xs ++ ys) rs ≡ hit_all ys (hit_all xs rs)
hit-both [] ys rs = refl
hit-both (x ∷ xs) ys rs = hit-both xs ys (hit_at x rs)

-- ---- the records of the definitions

record-from : (ws : List Worker) (k : ℕ) (us : List Upset) → records_from ws k us ≡ records_if (λ n. list_any (carries n) ws) k us
record-from ws k [] = refl
record-from ws k (Nowhere ∷ us) = ap (λ (rest : List Record). Missed ∷ rest) (record-from ws (suc k) us)
record-from ws k (OnAnother ∷ us) = ap (λ (rest : List Record). Stacked ∷ rest) (record-from ws (suc k) us)
record-from ws k (InWindow ∷ us) = ap (λ (rest : List Record). Window ∷ rest) (record-from ws (suc k) us)
record-from ws k (Struck ∷ us) = ap (λ (rest : List Record). hit_if (list_any (carries k) ws) ∷ rest) (record-from ws (suc k) us)

-- where threads carry these numbers
pub records-by : (ws : List Worker) (ns : List ℕ) → ((n : ℕ) → list_any (carries n) ws ≡ has ns n) → (us : List Upset)
    → records_from ws 0 us ≡ records_if (λ n. has ns n) 0 us
records-by ws ns e us = record-from ws 0 us ∙ records-alike (λ n. list_any (carries n) ws) (λ n. has ns n) e 0 us

-- ---- the log

pub added-came : (rs : List Record) (r : Record) → map came (rs ++ r ∷ []) ≡ map came rs ++ came r ∷ []
added-came rs r = map-append came rs (r ∷ [])

-- what is kept of more of them is kept of the first ones
pub front-kept : (xs ys : List Record) → map kept (map came (xs ++ ys)) ≡ xs ++ ys → map kept (map came xs) ≡ xs
front-kept [] ys e = refl
front-kept (x ∷ xs) ys e =
    let head : kept (came x) ≡ x = cc in
    let rest : map kept (map came (xs ++ ys)) ≡ xs ++ ys = cc in
    ap (λ (r : Record). r ∷ map kept (map came xs)) head ∙ ap (λ (rest : List Record). x ∷ rest) (front-kept xs ys rest)

pub more-kept : (xs : List Record) (u : Upset) → map kept (map came xs) ≡ xs → map kept (map came (xs ++ kept u ∷ [])) ≡ xs ++ kept u ∷ []
more-kept xs u e =
    ap (λ (us : List Upset). map kept us) (added-came xs (kept u)) ∙ map-append kept (map came xs) (came (kept u) ∷ [])
    ∙ ap (λ (rs : List Record). rs ++ kept (came (kept u)) ∷ []) e ∙ ap (λ (v : Upset). xs ++ kept v ∷ []) (came-kept u)

pub more-firm : (xs : List Record) (r : Record) → firm_in (map came (xs ++ r ∷ [])) ≡ more_if (is_firm (came r)) (firm_in (map came xs))
more-firm xs r = ap firm_in (added-came xs r) ∙ added-firm (map came xs) (came r)

pub few-kept : (rs : List Record) → firm_in (map came rs) ≤ length rs
few-kept rs = subst (λ (n : ℕ). firm_in (map came rs) ≤ n) (length-map rs came) (few-firm (map came rs))

-- one that is added and taken back leaves no trace
pub taken-back : (xs : List Record) (r : Record) → map came xs ≡ take (length (map came (xs ++ r ∷ [])) - 1) (map came (xs ++ r ∷ []))
taken-back xs r = sym (take-front (map came xs) (came r)) ∙ ap (λ (us : List Upset). take (length us - 1) us) (sym (added-came xs r))

pub struck-kept : (rs : List Record) (k : ℕ) (o : Option Record) → slice_get rs k ≡ o → option_map_or (λ r. is_struck (came r)) o false ≡ struck_at (map came rs) k
struck-kept rs k o e = by o ∙ sym (ap (λ (o : Option Upset). option_map_or is_struck o false) (slice_get-map came rs k ∙ ap (option_map came) e))
  where
    by : (o : Option Record) → option_map_or (λ r. is_struck (came r)) o false ≡ option_map_or is_struck (option_map came o) false
    by None = refl
    by (Some r) = refl
