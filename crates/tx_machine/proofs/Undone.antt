-- The threads that an access of another aborts: what the code makes of them one by one is what the definitions make of all at once.
use Rattle.std.proofs.Common.{ℕ, zero, suc, ◌≡◌, ◌≢◌, ◌∙◌, ◌+◌, ◌<◌, ◌≤◌, Bool, true, false, not, ◌&&◌, ◌||◌, List, [], ◌∷◌, ◌++◌, map, append-nil, append_assoc, length, Option, Some, None, slice_get, slice_set, slice_index_or, refl, ap, sym, subst, arith, nat_eq}
use Rattle.std.specs.Option.{option_map_or}
use Rattle.std.proofs.lemmas.Bool.{eqb-true, eq-eqb}
use Rattle.std.proofs.lemmas.List.{length-append}
use Rattle.ir_layout.specs.Memory.{thread_limit}
use Rattle.mem_image.specs.Touches.{Touch}
use Rattle.process.specs.declared.state.CallStack.{CallStack}
use Rattle.hard_frames.specs.declared.state.Frame.{Frame}
use Rattle.elide.specs.Watches.{WatchParts, nothing_watched}
use Rattle.tx_runtime.specs.declared.words.Mode as runtime
use Rattle.tx_runtime.specs.declared.words.Mode.TheVariants.{Out, In, Plain}
use Rattle.rtm_core.specs.declared.Aborted.{Aborted}
use Rattle.rtm_core.specs.Footprint.{conflicts}
use Rattle.rtm_core.specs.Transactions.{Transaction, kept_of, meets, strikes, none_if, spared_from, joined_if, struck_from}
use Rattle.rtm_core.specs.Calls.{conflict_aborts, AreThreads}
use Rattle.hard_meaning.specs.State.{Worker}
use Rattle.hard_meaning.specs.Aborts.{Conflict, Claim, aborted_if, spared}
use Rattle.tx_machine.specs.Own.{OwnParts, once_undone}
use Rattle.tx_machine.specs.Joined.{joined_one, joined}
use Rattle.tx_machine.specs.Undone.{HeldParts, undone_own, undone_at, undone_all, own_all, watches_all}
use Rattle.tx_machine.proofs.Joined.{set-same}

-- each list goes by itself
pub undone-apart : (list : List (Aborted (CallStack Frame))) (s : HeldParts) → undone_all list s ≡ record { own = own_all list s.own; watches = watches_all list s.watches }
undone-apart [] s = refl
undone-apart (a ∷ rest) s = ap (undone_at a) (undone-apart rest s)

-- ---- the last one first

pub own-last : (front : List (Aborted (CallStack Frame))) (a : Aborted (CallStack Frame)) (ws : List OwnParts)
    → own_all (front ++ a ∷ []) ws ≡ own_all front (undone_own ws a.tid.0 a.keep)
own-last [] a ws = refl
own-last (b ∷ front) a ws = ap (λ (list : List OwnParts). undone_own list b.tid.0 b.keep) (own-last front a ws)

-- a thread that is there, or isn't
pub undone-there : (ws : List OwnParts) (u : ℕ) (kept : CallStack Frame) (w : OwnParts) → u < length ws → w ≡ slice_index_or ws u w
    → undone_own ws u kept ≡ slice_set ws u (once_undone Conflict kept w)
undone-there ws u kept w within is = ap (λ (o : Option OwnParts). option_map_or (λ v. slice_set ws u (once_undone Conflict kept v)) o ws) (there ws u w within is)
  where
    there : (ws : List OwnParts) (u : ℕ) (w : OwnParts) → u < length ws → w ≡ slice_index_or ws u w → slice_get ws u ≡ Some w
    there [] u w within is = absurd (omega (arith, within))
    there (v ∷ ws) zero w within is = ap Some (sym is)
    there (v ∷ ws) (suc u) w within is = there ws u w (omega (arith, within)) is

pub undone-nowhere : (ws : List OwnParts) (u : ℕ) (kept : CallStack Frame) → (u < length ws → ⊥) → undone_own ws u kept ≡ ws
undone-nowhere ws u kept none = ap (λ (o : Option OwnParts). option_map_or (λ v. slice_set ws u (once_undone Conflict kept v)) o ws) (past ws u none)
  where
    past : (ws : List OwnParts) (u : ℕ) → (u < length ws → ⊥) → slice_get ws u ≡ None
    past [] zero none = refl
    past [] (suc u) none = refl
    past (v ∷ ws) zero none = absurd (none (omega arith))
    past (v ∷ ws) (suc u) none = past ws u (λ within. none (omega (arith, within)))

pub watches-last : (front : List (Aborted (CallStack Frame))) (a : Aborted (CallStack Frame)) (ks : List WatchParts)
    → watches_all (front ++ a ∷ []) ks ≡ watches_all front (slice_set ks a.tid.0 nothing_watched)
watches-last [] a ks = refl
watches-last (b ∷ front) a ks = ap (λ (list : List WatchParts). slice_set list b.tid.0 nothing_watched) (watches-last front a ks)

pub threads-last : (front : List (Aborted (CallStack Frame))) (a : Aborted (CallStack Frame)) → AreThreads (front ++ a ∷ [])
    → AreThreads front × (a.tid.0 < thread_limit)
threads-last [] a all = (tt, all.0)
threads-last (b ∷ front) a all = let rest = threads-last front a all.1 in ((all.0, rest.0), rest.1)

-- ---- all at once

abbrev pub undone_if : Bool → Option (CallStack Frame) → OwnParts → OwnParts
undone_if true (Some kept) w = once_undone Conflict kept w
undone_if true None w = w
undone_if false kept w = w

abbrev pub cleared_if : Bool → Option (CallStack Frame) → WatchParts → WatchParts
cleared_if true (Some kept) k = nothing_watched
cleared_if true None k = k
cleared_if false kept k = k

eqb-differ : (a b : ℕ) → a ≢ b → nat_eq a b ≡ false
eqb-differ a b differ = by_test (nat_eq a b) refl
  where
    by_test : (c : Bool) → nat_eq a b ≡ c → c ≡ false
    by_test true e = absurd (differ (eqb-true a b e))
    by_test false e = refl

module _ (t : ℕ) (touch : Touch) where
  abbrev pub struck_own : ℕ → List (Option (Transaction (CallStack Frame))) → List OwnParts → List OwnParts
  struck_own u [] ws = ws
  struck_own u (x ∷ xs) [] = []
  struck_own u (x ∷ xs) (w ∷ ws) = undone_if (strikes t touch u x) (kept_of x) w ∷ struck_own (suc u) xs ws

  abbrev pub struck_watches : ℕ → List (Option (Transaction (CallStack Frame))) → List WatchParts → List WatchParts
  struck_watches u [] ks = ks
  struck_watches u (x ∷ xs) [] = []
  struck_watches u (x ∷ xs) (k ∷ ks) = cleared_if (strikes t touch u x) (kept_of x) k ∷ struck_watches (suc u) xs ks

  abbrev aborts_from : ℕ → List (Option (Transaction (CallStack Frame))) → List (Aborted (CallStack Frame))
  aborts_from u xs = conflict_aborts (struck_from t touch u xs)

  -- ---- threads by themselves

  get-past : {A : Type 0} (xs : List A) (u : ℕ) → length xs ≤ u → slice_get xs u ≡ None
  get-past [] zero e = refl
  get-past [] (suc u) e = refl
  get-past (x ∷ xs) zero e = absurd (omega (arith, e))
  get-past (x ∷ xs) (suc u) e = get-past xs u (omega (arith, e))

  set-past : {A : Type 0} (xs : List A) (u : ℕ) (x : A) → length xs ≤ u → slice_set xs u x ≡ xs
  set-past [] zero x e = refl
  set-past [] (suc u) x e = refl
  set-past (y ∷ xs) zero x e = absurd (omega (arith, e))
  set-past (y ∷ xs) (suc u) x e = ap (λ rest. y ∷ rest) (set-past xs u x (omega (arith, e)))

  get-between : {A : Type 0} (front : List A) (x : A) (back : List A) → slice_get (front ++ x ∷ back) (length front) ≡ Some x
  get-between [] x back = refl
  get-between (y ∷ front) x back = get-between front x back

  set-between : {A : Type 0} (front : List A) (x : A) (back : List A) (y : A) → slice_set (front ++ x ∷ back) (length front) y ≡ front ++ y ∷ back
  set-between [] x back y = refl
  set-between (z ∷ front) x back y = ap (λ rest. z ∷ rest) (set-between front x back y)

  past-own : (u : ℕ) (xs : List (Option (Transaction (CallStack Frame)))) (ws : List OwnParts) → length ws ≤ u → own_all (aborts_from u xs) ws ≡ ws
  past-own u [] ws e = refl
  past-own u (x ∷ xs) ws e = by_strike (strikes t touch u x) (kept_of x) (past-own (suc u) xs ws (omega (arith, e)))
    where
      by_strike : (b : Bool) (kept : Option (CallStack Frame)) → own_all (aborts_from (suc u) xs) ws ≡ ws
          → own_all (conflict_aborts (joined_if b u kept (struck_from t touch (suc u) xs))) ws ≡ ws
      by_strike true (Some kept) rest = ap (λ (list : List OwnParts). undone_own list u kept) rest
          ∙ ap (λ (o : Option OwnParts). option_map_or (λ w. slice_set ws u (once_undone Conflict kept w)) o ws) (get-past ws u e)
      by_strike true None rest = rest
      by_strike false kept rest = rest

  pub all-own : (front : List OwnParts) (xs : List (Option (Transaction (CallStack Frame)))) (ws : List OwnParts)
      → own_all (aborts_from (length front) xs) (front ++ ws) ≡ front ++ struck_own (length front) xs ws
  all-own front [] ws = refl
  all-own front (x ∷ xs) [] = ap (own_all (aborts_from (length front) (x ∷ xs))) (append-nil front)
      ∙ past-own (length front) (x ∷ xs) front (omega arith) ∙ sym (append-nil front)
  all-own front (x ∷ xs) (w ∷ ws) =
      let longer : length (front ++ w ∷ []) ≡ suc (length front) = length-append front (w ∷ []) ∙ omega arith in
      by_strike (strikes t touch (length front) x) (kept_of x)
      (ap (own_all (aborts_from (suc (length front)) xs)) (sym (append_assoc front (w ∷ []) ws))
      ∙ subst (λ (n : ℕ). own_all (aborts_from n xs) ((front ++ w ∷ []) ++ ws) ≡ (front ++ w ∷ []) ++ struck_own n xs ws) longer (all-own (front ++ w ∷ []) xs ws)
      ∙ append_assoc front (w ∷ []) (struck_own (suc (length front)) xs ws))
    where
      by_strike : (b : Bool) (kept : Option (CallStack Frame))
          → own_all (aborts_from (suc (length front)) xs) (front ++ w ∷ ws) ≡ front ++ w ∷ struck_own (suc (length front)) xs ws
          → own_all (conflict_aborts (joined_if b (length front) kept (struck_from t touch (suc (length front)) xs))) (front ++ w ∷ ws)
          ≡ front ++ undone_if b kept w ∷ struck_own (suc (length front)) xs ws
      by_strike true (Some kept) rest = ap (λ (list : List OwnParts). undone_own list (length front) kept) rest
          ∙ ap (λ (o : Option OwnParts). option_map_or (λ v. slice_set (front ++ w ∷ struck_own (suc (length front)) xs ws) (length front) (once_undone Conflict kept v)) o
          (front ++ w ∷ struck_own (suc (length front)) xs ws)) (get-between front w (struck_own (suc (length front)) xs ws))
          ∙ set-between front w (struck_own (suc (length front)) xs ws) (once_undone Conflict kept w)
      by_strike true None rest = rest
      by_strike false kept rest = rest

  -- ---- what they watch

  past-watches : (u : ℕ) (xs : List (Option (Transaction (CallStack Frame)))) (ks : List WatchParts) → length ks ≤ u → watches_all (aborts_from u xs) ks ≡ ks
  past-watches u [] ks e = refl
  past-watches u (x ∷ xs) ks e = by_strike (strikes t touch u x) (kept_of x) (past-watches (suc u) xs ks (omega (arith, e)))
    where
      by_strike : (b : Bool) (kept : Option (CallStack Frame)) → watches_all (aborts_from (suc u) xs) ks ≡ ks
          → watches_all (conflict_aborts (joined_if b u kept (struck_from t touch (suc u) xs))) ks ≡ ks
      by_strike true (Some kept) rest = ap (λ (list : List WatchParts). slice_set list u nothing_watched) rest ∙ set-past ks u nothing_watched e
      by_strike true None rest = rest
      by_strike false kept rest = rest

  pub all-watches : (front : List WatchParts) (xs : List (Option (Transaction (CallStack Frame)))) (ks : List WatchParts)
      → watches_all (aborts_from (length front) xs) (front ++ ks) ≡ front ++ struck_watches (length front) xs ks
  all-watches front [] ks = refl
  all-watches front (x ∷ xs) [] = ap (watches_all (aborts_from (length front) (x ∷ xs))) (append-nil front)
      ∙ past-watches (length front) (x ∷ xs) front (omega arith) ∙ sym (append-nil front)
  all-watches front (x ∷ xs) (k ∷ ks) =
      let longer : length (front ++ k ∷ []) ≡ suc (length front) = length-append front (k ∷ []) ∙ omega arith in
      by_strike (strikes t touch (length front) x) (kept_of x)
      (ap (watches_all (aborts_from (suc (length front)) xs)) (sym (append_assoc front (k ∷ []) ks))
      ∙ subst (λ (n : ℕ). watches_all (aborts_from n xs) ((front ++ k ∷ []) ++ ks) ≡ (front ++ k ∷ []) ++ struck_watches n xs ks) longer (all-watches (front ++ k ∷ []) xs ks)
      ∙ append_assoc front (k ∷ []) (struck_watches (suc (length front)) xs ks))
    where
      by_strike : (b : Bool) (kept : Option (CallStack Frame))
          → watches_all (aborts_from (suc (length front)) xs) (front ++ k ∷ ks) ≡ front ++ k ∷ struck_watches (suc (length front)) xs ks
          → watches_all (conflict_aborts (joined_if b (length front) kept (struck_from t touch (suc (length front)) xs))) (front ++ k ∷ ks)
          ≡ front ++ cleared_if b kept k ∷ struck_watches (suc (length front)) xs ks
      by_strike true (Some kept) rest = ap (λ (list : List WatchParts). slice_set list (length front) nothing_watched) rest
          ∙ set-between front k (struck_watches (suc (length front)) xs ks) nothing_watched
      by_strike true None rest = rest
      by_strike false kept rest = rest

-- ---- as the definitions have it

-- what the access of one thread leaves of another, and itself it leaves
abbrev pub spared_if : Bool → Claim → Worker → Worker
spared_if true claim w = w
spared_if false claim w = spared claim w

abbrev pub spared_but : ℕ → Claim → ℕ → List Worker → List Worker
spared_but t claim u [] = []
spared_but t claim u (w ∷ ws) = spared_if (nat_eq u t) claim w ∷ spared_but t claim (suc u) ws

abbrev pub claim_of : Touch → Claim
claim_of touch = record { touch = Some touch; mutex = None }

module _ (t : ℕ) (touch : Touch) where
  -- one thread, in each mode of the runtime
  struck-in : (mode : runtime.Mode) (self : Bool) (w : OwnParts) (x : Option (Transaction (CallStack Frame))) (k : WatchParts)
      → joined_one (undone_if (not self && meets touch x) (kept_of x) (record w { words = record w.words { mode = mode } })) (none_if (not self && meets touch x) x)
      (cleared_if (not self && meets touch x) (kept_of x) k) ≡ spared_if self (claim_of touch) (joined_one (record w { words = record w.words { mode = mode } }) x k)
  struck-in mode true w x k = refl
  struck-in Out false w None k = refl
  struck-in Plain false w None k = refl
  struck-in In false w None k = refl
  struck-in Out false w (Some tx) k = by_test (conflicts touch tx.footprint)
    where
      by_test : (b : Bool)
          → joined_one (undone_if b (Some tx.kept) (record w { words = record w.words { mode = Out } })) (none_if b (Some tx)) (cleared_if b (Some tx.kept) k)
          ≡ joined_one (record w { words = record w.words { mode = Out } }) (Some tx) k
      by_test true = refl
      by_test false = refl
  struck-in Plain false w (Some tx) k = by_test (conflicts touch tx.footprint)
    where
      by_test : (b : Bool)
          → joined_one (undone_if b (Some tx.kept) (record w { words = record w.words { mode = Plain } })) (none_if b (Some tx)) (cleared_if b (Some tx.kept) k)
          ≡ joined_one (record w { words = record w.words { mode = Plain } }) (Some tx) k
      by_test true = refl
      by_test false = refl
  struck-in In false w (Some tx) k = by_test (conflicts touch tx.footprint)
    where
      by_test : (b : Bool)
          → joined_one (undone_if b (Some tx.kept) (record w { words = record w.words { mode = In } })) (none_if b (Some tx)) (cleared_if b (Some tx.kept) k)
          ≡ aborted_if (b || false) (joined_one (record w { words = record w.words { mode = In } }) (Some tx) k)
      by_test true = refl
      by_test false = refl

  struck-one : (u : ℕ) (w : OwnParts) (x : Option (Transaction (CallStack Frame))) (k : WatchParts)
      → joined_one (undone_if (strikes t touch u x) (kept_of x) w) (none_if (strikes t touch u x) x) (cleared_if (strikes t touch u x) (kept_of x) k)
      ≡ spared_if (nat_eq u t) (claim_of touch) (joined_one w x k)
  struck-one u w x k = struck-in w.words.mode (nat_eq u t) w x k

  -- all threads
  pub struck-joined : (u : ℕ) (ws : List OwnParts) (xs : List (Option (Transaction (CallStack Frame)))) (ks : List WatchParts)
      → joined (struck_own t touch u xs ws) (spared_from t touch u xs) (struck_watches t touch u xs ks) ≡ spared_but t (claim_of touch) u (joined ws xs ks)
  struck-joined u [] [] ks = refl
  struck-joined u [] (x ∷ xs) ks = refl
  struck-joined u (w ∷ ws) [] ks = refl
  struck-joined u (w ∷ ws) (x ∷ xs) [] = refl
  struck-joined u (w ∷ ws) (x ∷ xs) (k ∷ ks) = ap (λ (first : Worker). first ∷ joined (struck_own t touch (suc u) xs ws) (spared_from t touch (suc u) xs) (struck_watches t touch (suc u) xs ks)) (struck-one u w x k)
      ∙ ap (λ (rest : List Worker). spared_if (nat_eq u t) (claim_of touch) (joined_one w x k) ∷ rest) (struck-joined (suc u) ws xs ks)

-- ---- whoever goes on

spared-past : (t : ℕ) (claim : Claim) (u : ℕ) (ws : List Worker) → t < u → spared_but t claim u ws ≡ map (spared claim) ws
spared-past t claim u [] e = refl
spared-past t claim u (w ∷ ws) e =
    let other : nat_eq u t ≡ false = eqb-differ u t (λ same. omega (arith, e, same)) in
    ap (λ (b : Bool). spared_if b claim w ∷ spared_but t claim (suc u) ws) other
    ∙ ap (λ (rest : List Worker). spared claim w ∷ rest) (spared-past t claim (suc u) ws (omega (arith, e)))

set-spared : (i : ℕ) (claim : Claim) (u : ℕ) (ws : List Worker) (w : Worker)
    → slice_set (spared_but (u + i) claim u ws) i w ≡ slice_set (map (spared claim) ws) i w
set-spared zero claim u [] w = refl
set-spared (suc i) claim u [] w = refl
set-spared zero claim u (v ∷ ws) w = ap (λ (rest : List Worker). w ∷ rest) (spared-past (u + zero) claim (suc u) ws (omega arith))
set-spared (suc i) claim u (v ∷ ws) w =
    let other : nat_eq u (u + suc i) ≡ false = eqb-differ u (u + suc i) (λ same. omega (arith, same)) in
    let more : u + suc i ≡ suc u + i = omega arith in
    ap (λ (b : Bool). spared_if b claim v ∷ slice_set (spared_but (u + suc i) claim (suc u) ws) i w) other
    ∙ ap (λ (n : ℕ). spared claim v ∷ slice_set (spared_but n claim (suc u) ws) i w) more
    ∙ ap (λ (rest : List Worker). spared claim v ∷ rest) (set-spared i claim (suc u) ws w)

get-spared : (i : ℕ) (claim : Claim) (u : ℕ) (ws : List Worker) (w : Worker) → slice_get ws i ≡ Some w → slice_get (spared_but (u + i) claim u ws) i ≡ Some w
get-spared zero claim u [] w e = cc
get-spared (suc i) claim u [] w e = cc
get-spared zero claim u (v ∷ ws) w e =
    let none : u + zero ≡ u = omega arith in
    ap (λ (n : ℕ). Some (spared_if (nat_eq u n) claim v)) none ∙ ap (λ (b : Bool). Some (spared_if b claim v)) (eq-eqb u u refl) ∙ e
get-spared (suc i) claim u (v ∷ ws) w e =
    let more : u + suc i ≡ suc u + i = omega arith in
    ap (λ (n : ℕ). slice_get (spared_but n claim (suc u) ws) i) more ∙ get-spared i claim (suc u) ws w e

-- it stays as it is
pub stays-spared : (t : ℕ) (claim : Claim) (ws : List Worker) (w : Worker) → slice_get ws t ≡ Some w → spared_but t claim 0 ws ≡ slice_set (map (spared claim) ws) t w
stays-spared t claim ws w e =
    let zero_more : 0 + t ≡ t = omega arith in
    sym (set-same (spared_but t claim 0 ws) t w (ap (λ (n : ℕ). slice_get (spared_but n claim 0 ws) t) (sym zero_more) ∙ get-spared t claim 0 ws w e))
    ∙ ap (λ (n : ℕ). slice_set (spared_but n claim 0 ws) t w) (sym zero_more) ∙ set-spared t claim 0 ws w

-- or becomes another
pub becomes-spared : (t : ℕ) (claim : Claim) (ws : List Worker) (w : Worker) → slice_set (spared_but t claim 0 ws) t w ≡ slice_set (map (spared claim) ws) t w
becomes-spared t claim ws w =
    let zero_more : 0 + t ≡ t = omega arith in
    ap (λ (n : ℕ). slice_set (spared_but n claim 0 ws) t w) (sym zero_more) ∙ set-spared t claim 0 ws w
