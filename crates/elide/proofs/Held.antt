-- Addresses that are held are at most as many as are watched; and what becomes of them at a lock and at an unlock.
use Rattle.std.proofs.Common.{◌≡◌, ◌∙◌, ℕ, ◌+◌, ◌<◌, ◌≤◌, nat_lt, Bool, true, false, not, ◌||◌, List, [], ◌∷◌, length, cond, refl, sym, ap, arith, nat_eq}
use Rattle.std.specs.Set.{remove_key}
use Rattle.std.proofs.lemmas.Bool.{eqb-true, eq-eqb}
use Rattle.std.proofs.lemmas.Bool.Decides.{nat_tests}
use Rattle.std.proofs.lemmas.List.{length-append}
use Rattle.std.proofs.lemmas.List.Folds.{list_any-append}
use Rattle.std.proofs.lemmas.Map.Made.{length-remove_key}
use Rattle.line_sets.specs.Sets.{has, added_unless, with_member, takes}
use Rattle.elide.specs.Watches.{watch_limit, without, AreDistinct, AreWatched}

-- ---- as many

no-true : {P : Type 0} (b : Bool) → b ≡ true → b ≡ false → P
no-true b e f = let no : true ≡ false = sym e ∙ f in absurd cc

has-others : (x : ℕ) (ys : List ℕ) (a : ℕ) → has ys a ≡ true → nat_eq a x ≡ false → has (remove_key (nat_eq x) ys) a ≡ true
has-others x [] a e other = absurd cc
has-others x (y ∷ ys) a e other = by_tests (has-others x ys a) (nat_eq x y) refl (nat_eq a y) refl e
  where
    by_tests : (has ys a ≡ true → nat_eq a x ≡ false → has (remove_key (nat_eq x) ys) a ≡ true) → (b : Bool) → nat_eq x y ≡ b → (c : Bool) → nat_eq a y ≡ c
        → (c || has ys a) ≡ true → has (cond b ys (y ∷ remove_key (nat_eq x) ys)) a ≡ true
    by_tests later true f true g e = no-true (nat_eq a x) (eq-eqb a x (eqb-true a y g ∙ sym (eqb-true x y f))) other
    by_tests later true f false g e = e
    by_tests later false f true g e = ap (λ (b : Bool). b || has (remove_key (nat_eq x) ys) a) g
    by_tests later false f false g e = ap (λ (b : Bool). b || has (remove_key (nat_eq x) ys) a) g ∙ later e other

-- distinct members of a list are at most as many as it has
pub no-more : (xs ys : List ℕ) → AreDistinct xs → ((a : ℕ) → has xs a ≡ true → has ys a ≡ true) → length xs ≤ length ys
no-more [] ys distinct among = omega arith
no-more (x ∷ xs) ys distinct among =
    let own : has ys x ≡ true = among x (ap (λ (b : Bool). b || has xs x) (eq-eqb x x refl)) in
    let one : length (remove_key (nat_eq x) ys) + 1 ≡ length ys = length-remove_key (nat_eq x) ys own in
    let rest = no-more xs (remove_key (nat_eq x) ys) distinct.1 (λ a e. has-others x ys a (among a (or-later (nat_eq a x) (has xs a) e)) (other a e (nat_eq a x) refl)) in
    omega (arith, one, rest)
  where
    or-later : (b c : Bool) → c ≡ true → (b || c) ≡ true
    or-later true c e = refl
    or-later false c e = e

    other : (a : ℕ) → has xs a ≡ true → (b : Bool) → nat_eq a x ≡ b → b ≡ false
    other a e true f = no-true (has xs a) e (ap (has xs) (eqb-true a x f) ∙ distinct.0)
    other a e false f = refl

-- ---- at a lock

has-member : (watched : List ℕ) (address : ℕ) → has (with_member watched address) address ≡ true
has-member watched address = by_test (has watched address) refl
  where
    by_test : (b : Bool) → has watched address ≡ b → has (added_unless b watched address) address ≡ true
    by_test true e = e
    by_test false e = list_any-append (nat_eq address) watched (address ∷ []) ∙ ap (λ (b : Bool). b || (nat_eq address address || false)) e
        ∙ ap (λ (b : Bool). b || false) (eq-eqb address address refl)

has-kept : (watched : List ℕ) (address a : ℕ) → has watched a ≡ true → has (with_member watched address) a ≡ true
has-kept watched address a e = by_test (has watched address)
  where
    by_test : (b : Bool) → has (added_unless b watched address) a ≡ true
    by_test true = e
    by_test false = list_any-append (nat_eq a) watched (address ∷ []) ∙ ap (λ (b : Bool). b || (nat_eq a address || false)) e

few-members : (watched : List ℕ) (address : ℕ) → length watched ≤ watch_limit → takes watch_limit watched address ≡ true → length (with_member watched address) ≤ watch_limit
few-members watched address few room = by_test (has watched address) refl room
  where
    by_test : (b : Bool) → has watched address ≡ b → (b || nat_lt (length watched) watch_limit) ≡ true → length (added_unless b watched address) ≤ watch_limit
    by_test true e room = few
    by_test false e room =
        let less : length watched < watch_limit = grind (arith, nat_tests, room) in
        let count = length-append watched (address ∷ []) in omega (arith, count, less)

pub watched-locked : (watched held : List ℕ) (address : ℕ) → AreWatched watched held → has held address ≡ false → takes watch_limit watched address ≡ true
    → AreWatched (with_member watched address) (address ∷ held)
watched-locked watched held address all free room = record {
  few = few-members watched address all.few room;
  distinct = (free, all.distinct);
  among = λ a e. by_first a (nat_eq a address) refl e;
}
  where
    by_first : (a : ℕ) → (b : Bool) → nat_eq a address ≡ b → (b || has held a) ≡ true → has (with_member watched address) a ≡ true
    by_first a true f e = ap (has (with_member watched address)) (eqb-true a address f) ∙ has-member watched address
    by_first a false f e = has-kept watched address a (all.among a e)

-- so there is room to hold one more
pub room-locked : (watched held : List ℕ) (address : ℕ) → AreWatched watched held → has held address ≡ false → takes watch_limit watched address ≡ true
    → length held < watch_limit
room-locked watched held address all free room =
    let once = watched-locked watched held address all free room in
    let few = once.few in
    let many = no-more (address ∷ held) (with_member watched address) once.distinct once.among in
    omega (arith, few, many)

-- ---- at an unlock

has-without : (held : List ℕ) (address a : ℕ) → has (without held address) a ≡ true → has held a ≡ true
has-without [] address a e = e
has-without (x ∷ held) address a e = by_tests (has-without held address a) (nat_eq address x) e
  where
    by_tests : (has (without held address) a ≡ true → has held a ≡ true) → (b : Bool) → has (cond (not b) (x ∷ without held address) (without held address)) a ≡ true
        → (nat_eq a x || has held a) ≡ true
    by_tests later true e = or-right (nat_eq a x) (has held a) (later e)
      where
        or-right : (b c : Bool) → c ≡ true → (b || c) ≡ true
        or-right true c e = refl
        or-right false c e = e
    by_tests later false e = or-both (nat_eq a x) (has (without held address) a) e later
      where
        or-both : (b c : Bool) → (b || c) ≡ true → (c ≡ true → has held a ≡ true) → (b || has held a) ≡ true
        or-both true c e f = refl
        or-both false c e f = f e

distinct-without : (held : List ℕ) (address : ℕ) → AreDistinct held → AreDistinct (without held address)
distinct-without [] address distinct = tt
distinct-without (x ∷ held) address distinct = by_test (nat_eq address x) (distinct-without held address distinct.1)
  where
    absent : (b : Bool) → has (without held address) x ≡ b → b ≡ false
    absent true e = no-true (has held x) (has-without held address x e) distinct.0
    absent false e = refl

    by_test : (b : Bool) → AreDistinct (without held address) → AreDistinct (cond (not b) (x ∷ without held address) (without held address))
    by_test true rest = rest
    by_test false rest = (absent (has (without held address) x) refl, rest)

pub watched-unlocked : (watched held : List ℕ) (address : ℕ) → AreWatched watched held → AreWatched watched (without held address)
watched-unlocked watched held address all = record {
  few = all.few;
  distinct = distinct-without held address all.distinct;
  among = λ a e. all.among a (has-without held address a e);
}
