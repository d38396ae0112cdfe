-- Chains of members: a walk along a bucket's chain meets each member of the bucket, and what chains are with a member more or without
-- the last.
use Rattle.std.proofs.Common.{◌≡◌, ℕ, zero, suc, ◌+◌, ◌-◌, ◌%◌, ◌<◌, ◌≤◌, ◌≢◌, List, [], ◌∷◌, ◌++◌, length, slice_index, refl, sym, ap, ◌∙◌, arith, sub-one, add-one, set, replicate, get_or-set_other, get_or-set_same, length-append, true, false, inl, inr}
use Rattle.std.specs.Prelude.{Bool, ◌⊎◌, nat_eq, if◌then◌else◌, Some, None, is_some}
use Rattle.std.specs.List.{position_or_len}
use Rattle.std.proofs.Math.ListN.{get_or-append, length-set}
use Rattle.std.proofs.Math.Nat.{mod-lt}
use Rattle.std.proofs.Math.Seq.{get_or-append_seam}
use Rattle.std.proofs.lemmas.List.{get_or-replicate, length-replicate}
use Rattle.std.proofs.lemmas.List.Sums.{position_or_len_is}
use Rattle.std.proofs.lemmas.List.Folds.{list_any_at}
use Rattle.std.proofs.lemmas.Bool.{cases_lt, eqb-true, eq-eqb}
use Rattle.std.proofs.lemmas.Bool.Decides.{nat_tests}
use Rattle.line_sets.specs.Sets.{has, place_in, NoRepeats}
use Rattle.line_sets.specs.code.Chains.{buckets, latest, AreChains, IsSet}

pub some-buckets : (most : ℕ) → 0 < buckets most
some-buckets most = omega arith

either : {A B : Type 0} {P : Type 0} → A ⊎ B → (A → P) → (B → P) → P
either (inl a) f g = f a
either (inr b) f g = g b

-- ---- the latest of a bucket

module _ (n b : ℕ) (members : List ℕ) where
  pub latest-le : (k : ℕ) → latest n b members k ≤ k
  latest-le zero = omega arith
  latest-le (suc k) = by_test (latest-le k) (nat_eq (slice_index members k % n) b)
    where
      by_test : latest n b members k ≤ k → (t : Bool) → (if t then suc k else latest n b members k) ≤ suc k
      by_test low true = omega arith
      by_test low false = omega arith

  -- it is in the bucket
  pub latest-in : (k : ℕ) → 0 < latest n b members k → slice_index members (latest n b members k - 1) % n ≡ b
  latest-in zero some = absurd (omega (arith, some))
  latest-in (suc k) some = by_test (latest-in k) (nat_eq (slice_index members k % n) b) refl
    where
      by_test : (0 < latest n b members k → slice_index members (latest n b members k - 1) % n ≡ b) → (t : Bool) → nat_eq (slice_index members k % n) b ≡ t
          → slice_index members (latest n b members (suc k) - 1) % n ≡ b
      by_test before true e = rw (e, sub-one) (eqb-true (slice_index members k % n) b e)
      by_test before false e = rw e (before (rw e at some))

  -- and none after it is
  pub latest-none : (k j : ℕ) → latest n b members k ≤ j → j < k → slice_index members j % n ≢ b
  latest-none zero j from below is = absurd (omega (arith, below))
  latest-none (suc k) j from below is = by_test (latest-none k j) (nat_eq (slice_index members k % n) b) refl (cases_lt j k)
    where
      by_test : (latest n b members k ≤ j → j < k → slice_index members j % n ≢ b) → (t : Bool) → nat_eq (slice_index members k % n) b ≡ t → (j < k) ⊎ (k ≤ j) → ⊥
      by_test before true e order = let late = rw e at from in omega (arith, late, below)
      by_test before false e (inl less) = before (rw e at from) less is
      by_test before false e (inr more) =
          let same : k ≡ j = omega arith in
          let own : nat_eq (slice_index members k % n) b ≡ true = eq-eqb (slice_index members k % n) b (ap (λ (i : ℕ). slice_index members i % n) same ∙ is) in
          let no : true ≡ false = sym own ∙ e in absurd cc

latest-append : (n b : ℕ) (members more : List ℕ) (k : ℕ) → k ≤ length members → latest n b (members ++ more) k ≡ latest n b members k
latest-append n b members more zero within = refl
latest-append n b members more (suc k) within =
    let here : slice_index (members ++ more) k ≡ slice_index members k = get_or-append members more 0 k (omega arith) in
    let before : latest n b (members ++ more) k ≡ latest n b members k = latest-append n b members more k (omega arith) in
    ap (λ (x : ℕ). if nat_eq (x % n) b then suc k else latest n b (members ++ more) k) here
    ∙ ap (λ (l : ℕ). if nat_eq (slice_index members k % n) b then suc k else l) before

latest-more : (n b : ℕ) (members : List ℕ) (x : ℕ)
    → latest n b (members ++ x ∷ []) (length members + 1) ≡ (if nat_eq (x % n) b then length members + 1 else latest n b members (length members))
latest-more n b members x =
    rw add-one (ap (λ (y : ℕ). if nat_eq (y % n) b then suc (length members) else latest n b (members ++ x ∷ []) (length members)) (get_or-append_seam members x [] 0)
    ∙ ap (λ (l : ℕ). if nat_eq (x % n) b then suc (length members) else l) (latest-append n b members (x ∷ []) (length members) (omega arith)))

-- ---- where a member is

-- one that stands once
pub place-at : (members : List ℕ) (x k : ℕ) → NoRepeats members → k < length members → slice_index members k ≡ x → place_in members x ≡ Some k
place-at members x k once within is = grind (arith, nat_tests, first)
  where
    before : (j : ℕ) → j < k → nat_eq x (slice_index members j) ≡ false
    before j less = by_test (nat_eq x (slice_index members j)) refl
      where
        by_test : (t : Bool) → nat_eq x (slice_index members j) ≡ t → nat_eq x (slice_index members j) ≡ false
        by_test false e = e
        by_test true e =
            let same : j ≡ k = once j k (omega arith) within (sym (eqb-true x (slice_index members j) e) ∙ sym is) in
            absurd (omega arith)

    first : position_or_len (nat_eq x) members ≡ k
    first = position_or_len_is (nat_eq x) members k 0 (omega arith) before (λ _. grind (arith, nat_tests, is))

-- and one that is none
pub place-none : (members : List ℕ) (x : ℕ) → ((j : ℕ) → j < length members → slice_index members j ≢ x) → place_in members x ≡ None
place-none members x other = grind (arith, nat_tests, first)
  where
    before : (j : ℕ) → j < length members → nat_eq x (slice_index members j) ≡ false
    before j less = let no = other j less in grind (arith, nat_tests)

    first : position_or_len (nat_eq x) members ≡ length members
    first = position_or_len_is (nat_eq x) members (length members) 0 (omega arith) before (λ h. absurd (omega arith))

pub has-place : (members : List ℕ) (x : ℕ) → is_some (place_in members x) ≡ has members x
has-place [] x = refl
has-place (y ∷ ys) x = grind (arith, nat_tests, has-place ys x)

not-has : (members : List ℕ) (x : ℕ) → has members x ≡ false → (j : ℕ) → j < length members → slice_index members j ≢ x
not-has members x none j less is =
    let found : has members x ≡ true = list_any_at (nat_eq x) members j 0 less (eq-eqb x (slice_index members j) (sym is)) in
    let no : true ≡ false = sym found ∙ none in absurd cc

-- ---- a walk along a chain

-- from a place on down: none after it is the number
pub record IsWalk (n : ℕ) (members : List ℕ) (x at : ℕ) : Type 0 where
  pub within : at ≤ length members
  pub bucket : 0 < at → slice_index members (at - 1) % n ≡ x % n
  pub after : (j : ℕ) → at ≤ j → j < length members → slice_index members j ≢ x

pub walk-starts : (n : ℕ) (members heads links : List ℕ) (x : ℕ) → 0 < n → AreChains n members heads links → IsWalk n members x (slice_index heads (x % n))
walk-starts n members heads links x some chains =
    let e : slice_index heads (x % n) ≡ latest n (x % n) members (length members) = chains.each_head (x % n) (mod-lt x some) in
    record {
      within = omega (arith, e, latest-le n (x % n) members (length members));
      bucket = λ more. rw e (latest-in n (x % n) members (length members) (omega (arith, e)));
      after = λ j from below is. latest-none n (x % n) members (length members) j (omega (arith, e)) below (ap (λ (y : ℕ). y % n) is);
    }

link-at : (n : ℕ) (members heads links : List ℕ) (x at : ℕ) → AreChains n members heads links → IsWalk n members x at → 0 < at
    → slice_index links (at - 1) ≡ latest n (x % n) members (at - 1)
link-at n members heads links x at chains walk some = let within = walk.within in
    chains.each_link (at - 1) (omega (arith, within, some)) ∙ ap (λ (b : ℕ). latest n b members (at - 1)) (walk.bucket some)

pub walk-next : (n : ℕ) (members heads links : List ℕ) (x at : ℕ) → AreChains n members heads links → IsWalk n members x at → 0 < at
    → slice_index members (at - 1) ≢ x → IsWalk n members x (slice_index links (at - 1))
walk-next n members heads links x at chains walk some other =
    let within = walk.within in
    let e : slice_index links (at - 1) ≡ latest n (x % n) members (at - 1) = link-at n members heads links x at chains walk some in
    let low : latest n (x % n) members (at - 1) ≤ at - 1 = latest-le n (x % n) members (at - 1) in
    record {
      within = omega (arith, e, low, within);
      bucket = λ more. rw e (latest-in n (x % n) members (at - 1) (omega (arith, e)));
      after = λ j from below is. either (cases_lt j (at - 1))
          (λ (less : j < at - 1). latest-none n (x % n) members (at - 1) j (omega (arith, e)) less (ap (λ (y : ℕ). y % n) is))
          (λ (more : at - 1 ≤ j). either (cases_lt j at)
          (λ (less : j < at). let same : at - 1 ≡ j = omega arith in other (ap (slice_index members) same ∙ is))
          (λ (later : at ≤ j). walk.after j later below is));
    }

pub walk-falls : (n : ℕ) (members heads links : List ℕ) (x at : ℕ) → AreChains n members heads links → IsWalk n members x at → 0 < at → slice_index links (at - 1) < at
walk-falls n members heads links x at chains walk some =
    let e = link-at n members heads links x at chains walk some in
    omega (arith, e, latest-le n (x % n) members (at - 1))

-- ---- sets

pub empty-set : (most room link_room : ℕ) → most ≤ room → most ≤ link_room → IsSet most room link_room [] (replicate (buckets most) 0) []
empty-set most room link_room low high = record {
  enough = low;
  enough_links = high;
  count = omega arith;
  chains = record {
    all_heads = length-replicate {A = ℕ} (buckets most) 0;
    all_links = refl;
    each_head = λ b below. get_or-replicate (buckets most) b 0 0 below;
    each_link = λ k less. absurd (omega arith);
    distinct = λ i j less other same. absurd (omega arith);
  };
}

head-set : (n e : ℕ) (heads : List ℕ) (x new old : ℕ) → x % n < length heads → slice_index heads e ≡ old
    → slice_index (set heads (x % n) new) e ≡ (if nat_eq (x % n) e then new else old)
head-set n e heads x new old within was = by_test (nat_eq (x % n) e) refl
  where
    by_test : (t : Bool) → nat_eq (x % n) e ≡ t → slice_index (set heads (x % n) new) e ≡ (if t then new else old)
    by_test true is = ap (slice_index (set heads (x % n) new)) (sym (eqb-true (x % n) e is)) ∙ get_or-set_same heads (x % n) new 0 within
    by_test false is = let other : e ≢ x % n = grind (arith, nat_tests, is) in get_or-set_other heads (x % n) e new 0 other ∙ was

module _ (n : ℕ) (some : 0 < n) (members heads links : List ℕ) (x : ℕ) where
  more : List ℕ
  more = members ++ x ∷ []

  count-more : length (members ++ x ∷ []) ≡ length members + 1
  count-more = length-append members (x ∷ [])

  early : (k : ℕ) → k < length members → slice_index (members ++ x ∷ []) k ≡ slice_index members k
  early k less = get_or-append members (x ∷ []) 0 k less

  last : (k : ℕ) → k ≡ length members → slice_index (members ++ x ∷ []) k ≡ x
  last k is = ap (slice_index (members ++ x ∷ [])) is ∙ get_or-append_seam members x [] 0

  -- the last member comes last in its bucket
  pub chains-with : AreChains n members heads links → has members x ≡ false
      → AreChains n (members ++ x ∷ []) (set heads (x % n) (length members + 1)) (links ++ slice_index heads (x % n) ∷ [])
  chains-with chains none = record {
    all_heads = length-set heads (x % n) (length members + 1) ∙ chains.all_heads;
    all_links = let e = length-append links (slice_index heads (x % n) ∷ []) in let f = chains.all_links in omega (arith, e, f, count-more);
    each_head = λ b below. head-set n b heads x (length members + 1) (latest n b members (length members))
        (let e = chains.all_heads in let f : x % n < n = mod-lt x some in omega (arith, e, f)) (chains.each_head b below)
        ∙ sym (latest-more n b members x) ∙ ap (latest n b (members ++ x ∷ [])) (sym count-more);
    each_link = λ k below. either (cases_lt k (length members)) (λ (less : k < length members). link-early k less)
        (λ (from : length members ≤ k). link-last k (omega (arith, count-more, below, from)));
    distinct = λ i j in_i in_j same. either (cases_lt i (length members))
        (λ (low : i < length members). either (cases_lt j (length members))
        (λ (low' : j < length members). chains.distinct i j low low' (sym (early i low) ∙ same ∙ early j low'))
        (λ (high : length members ≤ j). absurd (not-has members x none i low (sym (early i low) ∙ same ∙ last j (omega (arith, count-more, in_j, high))))))
        (λ (high : length members ≤ i). either (cases_lt j (length members))
        (λ (low : j < length members). absurd (not-has members x none j low (sym (early j low) ∙ sym same ∙ last i (omega (arith, count-more, in_i, high)))))
        (λ (high' : length members ≤ j). omega (arith, count-more, in_i, in_j)));
  }
    where
      link-early : (k : ℕ) → k < length members
          → slice_index (links ++ slice_index heads (x % n) ∷ []) k ≡ latest n (slice_index (members ++ x ∷ []) k % n) (members ++ x ∷ []) k
      link-early k less =
          get_or-append links (slice_index heads (x % n) ∷ []) 0 k (let e = chains.all_links in omega (arith, e, less))
          ∙ chains.each_link k less ∙ ap (λ (y : ℕ). latest n (y % n) members k) (sym (early k less))
          ∙ sym (latest-append n (slice_index (members ++ x ∷ []) k % n) members (x ∷ []) k (omega arith))

      link-last : (k : ℕ) → k ≡ length members
          → slice_index (links ++ slice_index heads (x % n) ∷ []) k ≡ latest n (slice_index (members ++ x ∷ []) k % n) (members ++ x ∷ []) k
      link-last k is =
          ap (slice_index (links ++ slice_index heads (x % n) ∷ [])) (is ∙ sym chains.all_links) ∙ get_or-append_seam links (slice_index heads (x % n)) [] 0
          ∙ chains.each_head (x % n) (mod-lt x some) ∙ ap (latest n (x % n) members) (sym is)
          ∙ ap (λ (y : ℕ). latest n (y % n) members k) (sym (last k is))
          ∙ sym (latest-append n (slice_index (members ++ x ∷ []) k % n) members (x ∷ []) k (omega arith))

  -- and is taken out first
  pub chains-without : (link : ℕ) → AreChains n (members ++ x ∷ []) heads (links ++ link ∷ []) → AreChains n members (set heads (x % n) link) links
  chains-without link chains = record {
    all_heads = length-set heads (x % n) link ∙ chains.all_heads;
    all_links = count-links;
    each_head = λ b below. head-set n b heads x link (latest n b (members ++ x ∷ []) (length (members ++ x ∷ [])))
        (let e = chains.all_heads in let f : x % n < n = mod-lt x some in omega (arith, e, f)) (chains.each_head b below)
        ∙ ap (λ (l : ℕ). if nat_eq (x % n) b then link else l) (ap (latest n b (members ++ x ∷ [])) count-more ∙ latest-more n b members x)
        ∙ again b (nat_eq (x % n) b) refl;
    each_link = λ k below. sym (get_or-append links (link ∷ []) 0 k (omega (arith, count-links, below))) ∙ chains.each_link k (omega (arith, count-more, below))
        ∙ ap (λ (y : ℕ). latest n (y % n) (members ++ x ∷ []) k) (early k below) ∙ latest-append n (slice_index members k % n) members (x ∷ []) k (omega arith);
    distinct = λ i j in_i in_j same. chains.distinct i j (omega (arith, count-more, in_i)) (omega (arith, count-more, in_j)) (early i in_i ∙ same ∙ sym (early j in_j));
  }
    where
      count-links : length links ≡ length members
      count-links = let e = length-append links (link ∷ []) in let f = chains.all_links in omega (arith, e, f, count-more)

      is-link : link ≡ latest n (x % n) members (length members)
      is-link = sym (get_or-append_seam links link [] 0) ∙ ap (slice_index (links ++ link ∷ [])) count-links ∙ chains.each_link (length members) (omega (arith, count-more))
          ∙ ap (λ (y : ℕ). latest n (y % n) (members ++ x ∷ []) (length members)) (last (length members) refl)
          ∙ latest-append n (x % n) members (x ∷ []) (length members) (omega arith)

      again : (b : ℕ) (t : Bool) → nat_eq (x % n) b ≡ t
          → (if t then link else (if t then length members + 1 else latest n b members (length members))) ≡ latest n b members (length members)
      again b true e = is-link ∙ ap (λ (c : ℕ). latest n c members (length members)) (eqb-true (x % n) b e)
      again b false e = refl

-- a set with a member more
pub set-with : (most room link_room room' link_room' : ℕ) (members heads links : List ℕ) (x : ℕ) → IsSet most room link_room members heads links → has members x ≡ false
    → length members < most → room ≤ room' → link_room ≤ link_room'
    → IsSet most room' link_room' (members ++ x ∷ []) (set heads (x % buckets most) (length members + 1)) (links ++ slice_index heads (x % buckets most) ∷ [])
set-with most room link_room room' link_room' members heads links x set none less grows grows' =
    let low = set.enough in
    let low' = set.enough_links in
    record {
      enough = omega (arith, low, grows);
      enough_links = omega (arith, low', grows');
      count = let e = length-append members (x ∷ []) in omega (arith, e, less);
      chains = chains-with (buckets most) (some-buckets most) members heads links x set.chains none;
    }

-- and one without the last
pub set-without : (most room link_room link : ℕ) (members heads links : List ℕ) (x : ℕ) → IsSet most room link_room (members ++ x ∷ []) heads (links ++ link ∷ [])
    → IsSet most room link_room members (set heads (x % buckets most) link) links
set-without most room link_room link members heads links x set = record {
  enough = set.enough;
  enough_links = set.enough_links;
  count = let e = length-append members (x ∷ []) in let f = set.count in omega (arith, e, f);
  chains = chains-without (buckets most) (some-buckets most) members heads links x link set.chains;
}
