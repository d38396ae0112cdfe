-- Owners of mutexes once one thread has locked some more, and what becomes of them as it unlocks one.
use Rattle.std.proofs.Common.{ℕ, ◌≡◌, ◌≢◌, ◌∙◌, ◌<◌, Bool, true, false, ◌||◌, List, [], ◌∷◌, Some, None, refl, ap, sym, arith, ⊎_elim, nat_eq, eq-eqb, ne_eqb, eqb-true, lt-ltb, le-ltb}
use Rattle.std.specs.Ordering.{nat_cmp}
use Rattle.std.specs.declared.cmp.Ordering.TheVariants.{Less, Equal, Greater}
use Rattle.std.specs.BTreeMap.{insert_entry, is_at}
use Rattle.std.specs.Map.{remove_entry}
use Rattle.std.proofs.lemmas.Bool.{cases_lt, cases_eq, eqb-false}
use Rattle.inst_meaning.specs.World.{owner_of}
use Rattle.line_sets.specs.Sets.{has}
use Rattle.hard_meaning.specs.Locks.{without}

-- ---- how two addresses lie

pub data Lies (a b : ℕ) : Type 0 where
  Below : a < b → nat_cmp a b ≡ Less → Lies a b
  Same : a ≡ b → nat_cmp a b ≡ Equal → Lies a b
  Above : b < a → nat_cmp a b ≡ Greater → Lies a b

pub lies : (a b : ℕ) → Lies a b
lies a b = ⊎_elim
    (λ less. Below less (rw (lt-ltb a b less) refl))
    (λ more. ⊎_elim
    (λ same. Same same (rw (le-ltb a b more, eq-eqb a b same) refl))
    (λ other. Above (omega (arith, more, other)) (rw (le-ltb a b more, ne_eqb a b other) refl))
    (cases_eq a b))
    (cases_lt a b)

abbrev Owners : Type 0
Owners = List (ℕ × ℕ)

abbrev with_owner : Owners → ℕ → ℕ → Owners
with_owner owners a t = insert_entry nat_cmp owners a t

-- ---- one more owner

-- an address that is looked up has an owner besides
found-same : (owners : Owners) (a t : ℕ) → owner_of (with_owner owners a t) a ≡ Some t
found-same [] a t = by_order (lies a a)
  where
    by_order : Lies a a → owner_of (with_owner [] a t) a ≡ Some t
    by_order (Below less e) = absurd (omega (arith, less))
    by_order (Same same e) = rw e refl
    by_order (Above more e) = absurd (omega (arith, more))
found-same ((b, u) ∷ owners) a t = by_order (lies a b) (found-same owners a t)
  where
    self : nat_cmp a a ≡ Equal
    self = by_self (lies a a)
      where
        by_self : Lies a a → nat_cmp a a ≡ Equal
        by_self (Below less e) = absurd (omega (arith, less))
        by_self (Same same e) = e
        by_self (Above more e) = absurd (omega (arith, more))

    by_order : Lies a b → owner_of (with_owner owners a t) a ≡ Some t → owner_of (with_owner ((b, u) ∷ owners) a t) a ≡ Some t
    by_order (Below less e) rest = rw (e, self) refl
    by_order (Same same e) rest = rw (e, e) refl
    by_order (Above more e) rest = rw (e, e) rest

pub found-other : (owners : Owners) (a b t : ℕ) → a ≢ b → owner_of (with_owner owners a t) b ≡ owner_of owners b
found-other [] a b t ne = by_order (lies b a)
  where
    by_order : Lies b a → owner_of (with_owner [] a t) b ≡ None
    by_order (Below less e) = rw e refl
    by_order (Same same e) = absurd (ne (sym same))
    by_order (Above more e) = rw e refl
found-other ((c, u) ∷ owners) a b t ne = by_order (lies a c) (lies b a) (lies b c) (found-other owners a b t ne)
  where
    by_order : Lies a c → Lies b a → Lies b c → owner_of (with_owner owners a t) b ≡ owner_of owners b
        → owner_of (with_owner ((c, u) ∷ owners) a t) b ≡ owner_of ((c, u) ∷ owners) b
    by_order x (Same same e) z rest = absurd (ne (sym same))
    by_order (Below less e) (Below k f) z rest = rw (e, f) refl
    by_order (Below less e) (Above k f) z rest = rw (e, f) refl
    by_order (Same same e) y (Below j g) rest = rw (e, g) refl
    by_order (Same same e) y (Same j g) rest = absurd (ne (same ∙ sym j))
    by_order (Same same e) y (Above j g) rest = rw (e, g) refl
    by_order (Above more e) y (Below j g) rest = rw (e, g) rest
    by_order (Above more e) y (Same j g) rest = rw (e, g) refl
    by_order (Above more e) y (Above j g) rest = rw (e, g) rest

-- an owner that was added goes again
removed-again : (owners : Owners) (a t : ℕ) → owner_of owners a ≡ None → remove_entry (is_at (nat_cmp a)) (with_owner owners a t) ≡ owners
removed-again [] a t none = by_order (lies a a)
  where
    by_order : Lies a a → remove_entry (is_at (nat_cmp a)) (with_owner [] a t) ≡ []
    by_order (Below less e) = absurd (omega (arith, less))
    by_order (Same same e) = rw e refl
    by_order (Above more e) = absurd (omega (arith, more))
removed-again ((b, u) ∷ owners) a t none = by_order (lies a b) (lies a a) none (removed-again owners a t)
  where
    by_order : Lies a b → Lies a a → owner_of ((b, u) ∷ owners) a ≡ None
        → (owner_of owners a ≡ None → remove_entry (is_at (nat_cmp a)) (with_owner owners a t) ≡ owners)
        → remove_entry (is_at (nat_cmp a)) (with_owner ((b, u) ∷ owners) a t) ≡ (b, u) ∷ owners
    by_order x (Below less e) k rest = absurd (omega (arith, less))
    by_order x (Above more e) k rest = absurd (omega (arith, more))
    by_order (Below less e) (Same same f) k rest = rw (e, f) refl
    by_order (Same same e) (Same same' f) k rest = let g : Some u ≡ None = rw e at k in cc
    by_order (Above more e) (Same same f) k rest = rw (e, e) (ap (λ (others : Owners). (b, u) ∷ others) (rest (rw e at k)))

-- the order in which two owners are added doesn't matter
either-order : (owners : Owners) (a b t : ℕ) → a ≢ b → owner_of owners a ≡ None → owner_of owners b ≡ None
    → with_owner (with_owner owners a t) b t ≡ with_owner (with_owner owners b t) a t
either-order [] a b t ne none other = by_order (lies a b) (lies b a)
  where
    by_order : Lies a b → Lies b a → with_owner (with_owner [] a t) b t ≡ with_owner (with_owner [] b t) a t
    by_order (Same same e) y = absurd (ne same)
    by_order x (Same same e) = absurd (ne (sym same))
    by_order (Below less e) (Below more f) = absurd (omega (arith, less, more))
    by_order (Below less e) (Above more f) = rw (e, f) refl
    by_order (Above less e) (Below more f) = rw (e, f) refl
    by_order (Above less e) (Above more f) = absurd (omega (arith, less, more))
either-order ((c, u) ∷ owners) a b t ne none other = by_order (lies a c) (lies b c) (lies a b) (lies b a) none other (either-order owners a b t ne)
  where
    by_order : Lies a c → Lies b c → Lies a b → Lies b a → owner_of ((c, u) ∷ owners) a ≡ None → owner_of ((c, u) ∷ owners) b ≡ None
        → (owner_of owners a ≡ None → owner_of owners b ≡ None → with_owner (with_owner owners a t) b t ≡ with_owner (with_owner owners b t) a t)
        → with_owner (with_owner ((c, u) ∷ owners) a t) b t ≡ with_owner (with_owner ((c, u) ∷ owners) b t) a t
    by_order x y (Same same e) w k j rest = absurd (ne same)
    by_order x y (Below r g) (Same same e) k j rest = absurd (ne (sym same))
    by_order x y (Above r g) (Same same e) k j rest = absurd (ne (sym same))
    by_order x y (Below less e) (Below more f) k j rest = absurd (omega (arith, less, more))
    by_order x y (Above less e) (Above more f) k j rest = absurd (omega (arith, less, more))
    by_order (Same same e) y (Below r g) (Above s i) k j rest = let z : Some u ≡ None = rw e at k in cc
    by_order (Same same e) y (Above r g) (Below s i) k j rest = let z : Some u ≡ None = rw e at k in cc
    by_order (Below p e) (Same same f) (Below r g) (Above s i) k j rest = let z : Some u ≡ None = rw f at j in cc
    by_order (Below p e) (Same same f) (Above r g) (Below s i) k j rest = let z : Some u ≡ None = rw f at j in cc
    by_order (Above p e) (Same same f) (Below r g) (Above s i) k j rest = let z : Some u ≡ None = rw f at j in cc
    by_order (Above p e) (Same same f) (Above r g) (Below s i) k j rest = let z : Some u ≡ None = rw f at j in cc
    by_order (Below p e) (Below q f) (Below r g) (Above s i) k j rest = rw (f, e, i, f, g) refl
    by_order (Below p e) (Below q f) (Above r g) (Below s i) k j rest = rw (f, e, i, g) refl
    by_order (Below p e) (Above q f) (Below r g) (Above s i) k j rest = rw (f, e, i, f) refl
    by_order (Below p e) (Above q f) (Above r g) (Below s i) k j rest = absurd (omega (arith, p, q, r))
    by_order (Above p e) (Below q f) (Below r g) (Above s i) k j rest = absurd (omega (arith, p, q, r))
    by_order (Above p e) (Below q f) (Above r g) (Below s i) k j rest = rw (f, e, f, g) refl
    by_order (Above p e) (Above q f) (Below r g) (Above s i) k j rest =
        rw (e, f, e) (ap (λ (others : Owners). (c, u) ∷ others) (rest (rw e at k) (rw f at j)))
    by_order (Above p e) (Above q f) (Above r g) (Below s i) k j rest =
        rw (e, f, e) (ap (λ (others : Owners). (c, u) ∷ others) (rest (rw e at k) (rw f at j)))

-- ---- the mutexes that a thread holds besides

-- those that it locked and hasn't unlocked, the last first
abbrev pub owners_with : ℕ → List ℕ → Owners → Owners
owners_with t [] owners = owners
owners_with t (a ∷ held) owners = with_owner (owners_with t held owners) a t

abbrev pub AreDistinct : List ℕ → Type 0
AreDistinct [] = Unit {0}
AreDistinct (a ∷ held) = (has held a ≡ false) × AreDistinct held

-- none of them has an owner
abbrev pub AreFree : Owners → List ℕ → Type 0
AreFree owners addresses = (a : ℕ) → has addresses a ≡ true → owner_of owners a ≡ None

pub free-rest : (owners : Owners) (a : ℕ) (held : List ℕ) → AreFree owners (a ∷ held) → AreFree owners held
free-rest owners a held free b e = free b (among (nat_eq b a) (has held b) e)
  where
    among : (x y : Bool) → y ≡ true → (x || y) ≡ true
    among true y e = refl
    among false y e = e

pub free-first : (owners : Owners) (a : ℕ) (held : List ℕ) → AreFree owners (a ∷ held) → owner_of owners a ≡ None
free-first owners a held free = free a (ap (λ (b : Bool). b || has held a) (eq-eqb a a refl))

-- what isn't held has the owner that it had
pub not-held : (t : ℕ) (held : List ℕ) (owners : Owners) (a : ℕ) → has held a ≡ false → owner_of (owners_with t held owners) a ≡ owner_of owners a
not-held t [] owners a none = refl
not-held t (b ∷ held) owners a none =
    let parts = neither (nat_eq a b) (has held a) none in
    found-other (owners_with t held owners) b a t (λ e. eqb-false a b parts.0 (sym e)) ∙ not-held t held owners a parts.1
  where
    neither : (x y : Bool) → (x || y) ≡ false → (x ≡ false) × (y ≡ false)
    neither true y e = cc
    neither false y e = (refl, e)

-- what is held is the thread's
pub is-held : (t : ℕ) (held : List ℕ) (owners : Owners) (a : ℕ) → has held a ≡ true → owner_of (owners_with t held owners) a ≡ Some t
is-held t [] owners a e = cc
is-held t (b ∷ held) owners a e = by_first (nat_eq a b) refl e (is-held t held owners a)
  where
    by_first : (same : Bool) → nat_eq a b ≡ same → (same || has held a) ≡ true
        → (has held a ≡ true → owner_of (owners_with t held owners) a ≡ Some t) → owner_of (owners_with t (b ∷ held) owners) a ≡ Some t
    by_first true f e rest = ap (λ (k : ℕ). owner_of (with_owner (owners_with t held owners) k t) a) (sym (eqb-true a b f)) ∙ found-same (owners_with t held owners) a t
    by_first false f e rest = found-other (owners_with t held owners) b a t (λ k. eqb-false a b f (sym k)) ∙ rest e

-- ---- one is unlocked

pub without-absent : (held : List ℕ) (a : ℕ) → has held a ≡ false → without held a ≡ held
without-absent [] a none = refl
without-absent (b ∷ held) a none = by_first (nat_eq a b) refl none (without-absent held a)
  where
    by_first : (same : Bool) → nat_eq a b ≡ same → (same || has held a) ≡ false → (has held a ≡ false → without held a ≡ held)
        → without (b ∷ held) a ≡ b ∷ held
    by_first true e n rest = cc
    by_first false e n rest = rw e (ap (λ (others : List ℕ). b ∷ others) (rest n))

pub has-without : (held : List ℕ) (a b : ℕ) → has held b ≡ false → has (without held a) b ≡ false
has-without [] a b none = refl
has-without (c ∷ held) a b none = by_first (nat_eq a c) refl (nat_eq b c) refl none (has-without held a b)
  where
    by_first : (x : Bool) → nat_eq a c ≡ x → (y : Bool) → nat_eq b c ≡ y → (y || has held b) ≡ false
        → (has held b ≡ false → has (without held a) b ≡ false) → has (without (c ∷ held) a) b ≡ false
    by_first x e true f n rest = cc
    by_first true e false f n rest = rw e (rest n)
    by_first false e false f n rest = rw (e, f) (rest n)

gone-without : (held : List ℕ) (a : ℕ) → has (without held a) a ≡ false
gone-without [] a = refl
gone-without (c ∷ held) a = by_first (nat_eq a c) refl (gone-without held a)
  where
    by_first : (x : Bool) → nat_eq a c ≡ x → has (without held a) a ≡ false → has (without (c ∷ held) a) a ≡ false
    by_first true e rest = rw e rest
    by_first false e rest = rw (e, e) rest

pub distinct-without : (held : List ℕ) (a : ℕ) → AreDistinct held → AreDistinct (without held a)
distinct-without [] a all = tt
distinct-without (c ∷ held) a all = by_first (nat_eq a c) refl (distinct-without held a all.1)
  where
    by_first : (x : Bool) → nat_eq a c ≡ x → AreDistinct (without held a) → AreDistinct (without (c ∷ held) a)
    by_first true e rest = rw e rest
    by_first false e rest = rw e (has-without held a c all.0, rest)

-- an owner among others can be the one that was added last
last-added : (t : ℕ) (held : List ℕ) (owners : Owners) (a : ℕ) → AreDistinct held → AreFree owners held → has held a ≡ true
    → owners_with t held owners ≡ with_owner (owners_with t (without held a) owners) a t
last-added t [] owners a all free e = cc
last-added t (b ∷ held) owners a all free e = by_first (nat_eq a b) refl e (last-added t held owners a all.1 (free-rest owners b held free))
  where
    by_first : (same : Bool) → nat_eq a b ≡ same → (same || has held a) ≡ true
        → (has held a ≡ true → owners_with t held owners ≡ with_owner (owners_with t (without held a) owners) a t)
        → owners_with t (b ∷ held) owners ≡ with_owner (owners_with t (without (b ∷ held) a) owners) a t
    by_first true f e rest =
        let is : a ≡ b = eqb-true a b f in
        rw f (ap (λ (k : ℕ). with_owner (owners_with t held owners) k t) (sym is)
        ∙ ap (λ (others : List ℕ). with_owner (owners_with t others owners) a t) (sym (without-absent held a (ap (has held) is ∙ all.0))))
    by_first false f e rest =
        let other : a ≢ b = eqb-false a b f in
        rw f (ap (λ (o : Owners). with_owner o b t) (rest e)
        ∙ either-order (owners_with t (without held a) owners) a b t other
        (not-held t (without held a) owners a (gone-without held a) ∙ free-rest owners b held free a e)
        (not-held t (without held a) owners b (has-without held a b all.0) ∙ free-first owners b held free))

-- so one that is unlocked is no longer among them
pub unlocked-one : (t : ℕ) (held : List ℕ) (owners : Owners) (a : ℕ) → AreDistinct held → AreFree owners held → has held a ≡ true
    → remove_entry (is_at (nat_cmp a)) (owners_with t held owners) ≡ owners_with t (without held a) owners
unlocked-one t held owners a all free e =
    ap (remove_entry (is_at (nat_cmp a))) (last-added t held owners a all free e)
    ∙ removed-again (owners_with t (without held a) owners) a t
    (not-held t (without held a) owners a (gone-without held a) ∙ free a e)
