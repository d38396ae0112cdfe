-- An access that is done, with the threads that it aborts, is that of the definitions.
use Rattle.std.proofs.Common.{ℕ, zero, suc, ◌≡◌, ◌∙◌, ◌≤◌, ◌+◌, Bool, true, false, not, ◌&&◌, List, [], ◌∷◌, map, length, Option, Some, None, slice_get, slice_set, nat_eq, refl, ap, sym, subst, arith}
use Rattle.std.specs.Option.{is_some}
use Rattle.std.proofs.lemmas.Bool.{eq-eqb}
use Rattle.ir_layout.specs.Memory.{thread_limit}
use Rattle.mem_image.specs.Touches.{Touch, Store, memory_with}
use Rattle.process.specs.declared.state.CallStack.{CallStack}
use Rattle.hard_frames.specs.declared.state.Frame.{Frame}
use Rattle.elide.specs.Watches.{WatchParts}
use Rattle.rtm_core.specs.Footprint.{touched_by}
use Rattle.rtm_core.specs.Transactions.Entry.{Entered}
use Rattle.rtm_core.specs.Transactions.{Transaction, kept_of, meets, strikes, none_if, spared_from, done_in, spared as spared_rtm}
use Rattle.tx_runtime.specs.declared.words.Mode as runtime
use Rattle.tx_runtime.specs.declared.words.Mode.TheVariants.{Out, In, Plain}
use Rattle.hard_meaning.specs.State.{Worker, State, Upset}
use Rattle.hard_meaning.specs.Aborts.{Conflict, spared}
use Rattle.hard_meaning.specs.Effects.{mode_after, memory_after, turns_after, did}
use Rattle.tx_machine.specs.Own.{OwnParts}
use Rattle.tx_machine.specs.Joined.{joined_one, joined, is_in}
use Rattle.tx_machine.specs.Core.{CoreParts, touched_as}
use Rattle.tx_machine.specs.Meant.{state_of, AreTied, IsTied, StandsAt}
use Rattle.tx_machine.proofs.Joined.{set-joined, set-same}
use Rattle.tx_machine.proofs.Undone.{undone_if, cleared_if, struck_own, struck_watches, all-own, all-watches, claim_of, struck-joined, becomes-spared}
use Rattle.tx_machine.proofs.Meant.{length-set, get-set, set-tied, thread-is}
use Rattle.tx_machine.proofs.MeantAborts.{in_mode, undone-mode}

-- ---- the thread itself is spared

get-own : (i : ℕ) (touch : Touch) (u : ℕ) (xs : List (Option (Transaction (CallStack Frame)))) (ws : List OwnParts) (w : OwnParts) → slice_get ws i ≡ Some w
    → slice_get (struck_own (u + i) touch u xs ws) i ≡ Some w
get-own i touch u [] ws w e = e
get-own zero touch u (x ∷ xs) [] w e = cc
get-own (suc i) touch u (x ∷ xs) [] w e = cc
get-own zero touch u (x ∷ xs) (v ∷ ws) w e =
    let none : u + zero ≡ u = omega arith in
    ap (λ (n : ℕ). Some (undone_if (not (nat_eq u n) && meets touch x) (kept_of x) v)) none
    ∙ ap (λ (b : Bool). Some (undone_if (not b && meets touch x) (kept_of x) v)) (eq-eqb u u refl) ∙ e
get-own (suc i) touch u (x ∷ xs) (v ∷ ws) w e =
    let more : u + suc i ≡ suc u + i = omega arith in
    ap (λ (n : ℕ). slice_get (struck_own n touch (suc u) xs ws) i) more ∙ get-own i touch (suc u) xs ws w e

get-watch : (i : ℕ) (touch : Touch) (u : ℕ) (xs : List (Option (Transaction (CallStack Frame)))) (ks : List WatchParts) (k : WatchParts) → slice_get ks i ≡ Some k
    → slice_get (struck_watches (u + i) touch u xs ks) i ≡ Some k
get-watch i touch u [] ks k e = e
get-watch zero touch u (x ∷ xs) [] k e = cc
get-watch (suc i) touch u (x ∷ xs) [] k e = cc
get-watch zero touch u (x ∷ xs) (v ∷ ks) k e =
    let none : u + zero ≡ u = omega arith in
    ap (λ (n : ℕ). Some (cleared_if (not (nat_eq u n) && meets touch x) (kept_of x) v)) none
    ∙ ap (λ (b : Bool). Some (cleared_if (not b && meets touch x) (kept_of x) v)) (eq-eqb u u refl) ∙ e
get-watch (suc i) touch u (x ∷ xs) (v ∷ ks) k e =
    let more : u + suc i ≡ suc u + i = omega arith in
    ap (λ (n : ℕ). slice_get (struck_watches n touch (suc u) xs ks) i) more ∙ get-watch i touch (suc u) xs ks k e

get-open : (i : ℕ) (touch : Touch) (u : ℕ) (xs : List (Option (Transaction (CallStack Frame)))) (x : Option (Transaction (CallStack Frame))) → slice_get xs i ≡ Some x
    → slice_get (spared_from (u + i) touch u xs) i ≡ Some x
get-open zero touch u [] x e = cc
get-open (suc i) touch u [] x e = cc
get-open zero touch u (y ∷ xs) x e =
    let none : u + zero ≡ u = omega arith in
    ap (λ (n : ℕ). Some (none_if (not (nat_eq u n) && meets touch y) y)) none
    ∙ ap (λ (b : Bool). Some (none_if (not b && meets touch y) y)) (eq-eqb u u refl) ∙ e
get-open (suc i) touch u (y ∷ xs) x e =
    let more : u + suc i ≡ suc u + i = omega arith in
    ap (λ (n : ℕ). slice_get (spared_from n touch (suc u) xs) i) more ∙ get-open i touch (suc u) xs x e

-- ---- lengths, and what is tied

module _ (t : ℕ) (touch : Touch) where
  length-own : (u : ℕ) (xs : List (Option (Transaction (CallStack Frame)))) (ws : List OwnParts) → length (struck_own t touch u xs ws) ≡ length ws
  length-own u [] ws = refl
  length-own u (x ∷ xs) [] = refl
  length-own u (x ∷ xs) (w ∷ ws) = ap suc (length-own (suc u) xs ws)

  length-watches : (u : ℕ) (xs : List (Option (Transaction (CallStack Frame)))) (ks : List WatchParts) → length (struck_watches t touch u xs ks) ≡ length ks
  length-watches u [] ks = refl
  length-watches u (x ∷ xs) [] = refl
  length-watches u (x ∷ xs) (k ∷ ks) = ap suc (length-watches (suc u) xs ks)

  length-open : (u : ℕ) (xs : List (Option (Transaction (CallStack Frame)))) → length (spared_from t touch u xs) ≡ length xs
  length-open u [] = refl
  length-open u (x ∷ xs) = ap suc (length-open (suc u) xs)

  one-tied : (b : Bool) (x : Option (Transaction (CallStack Frame))) (w : OwnParts) → is_some x ≡ is_in w.words.mode
      → is_some (none_if b x) ≡ is_in (undone_if b (kept_of x) w).words.mode
  one-tied true None w e = e
  one-tied true (Some tx) w e = undone-mode Conflict w.words.mode w tx.kept e
  one-tied false x w e = e

  none-tied : (b : Bool) (x : Option (Transaction (CallStack Frame))) → is_some x ≡ false → is_some (none_if b x) ≡ false
  none-tied true x e = refl
  none-tied false x e = e

  struck-tied : (u : ℕ) (ws : List OwnParts) (xs : List (Option (Transaction (CallStack Frame)))) → AreTied ws xs → AreTied (struck_own t touch u xs ws) (spared_from t touch u xs)
  struck-tied u [] [] tied = tied
  struck-tied u [] (x ∷ xs) tied = (none-tied (strikes t touch u x) x tied.0, nobody (suc u) xs tied.1)
    where
      nobody : (u : ℕ) (xs : List (Option (Transaction (CallStack Frame)))) → AreTied [] xs → AreTied [] (spared_from t touch u xs)
      nobody u [] tied = tied
      nobody u (x ∷ xs) tied = (none-tied (strikes t touch u x) x tied.0, nobody (suc u) xs tied.1)
  struck-tied u (w ∷ ws) [] tied = absurd tied
  struck-tied u (w ∷ ws) (x ∷ xs) tied = (one-tied (strikes t touch u x) x w tied.0, struck-tied (suc u) ws xs tied.1)

-- ---- the thread that did it

abbrev pub touched_one : Touch → Option Store → Option (Transaction (CallStack Frame)) → Option (Transaction (CallStack Frame))
touched_one touch store None = None
touched_one touch store (Some tx) = Some (record tx { footprint = touched_by touch store tx.footprint })

touched-mode : (mode : runtime.Mode) (touch : Touch) (store : Option Store) (w : OwnParts) (x : Option (Transaction (CallStack Frame))) (k : WatchParts)
    → joined_one (in_mode mode w) (touched_one touch store x) k
    ≡ record (joined_one (in_mode mode w) x k) { mode = mode_after false (Some touch) store (joined_one (in_mode mode w) x k).mode }
touched-mode Out touch store w x k = refl
touched-mode Plain touch store w x k = refl
touched-mode In touch store w None k = refl
touched-mode In touch store w (Some tx) k = refl

turns-same : (mode : runtime.Mode) (w : OwnParts) (x : Option (Transaction (CallStack Frame))) (k : WatchParts) (t : ℕ) (turns : List ℕ)
    → turns ≡ turns_after (joined_one (in_mode mode w) x k).mode false t turns
turns-same Out w x k t turns = refl
turns-same Plain w x k t turns = refl
turns-same In w None k t turns = refl
turns-same In w (Some tx) k t turns = refl

module _ (p : CoreParts) (t : ℕ) (w : OwnParts) (k : WatchParts) (ups : List Upset) (touch : Touch) (store : Option Store) where
  abbrev own_then : List OwnParts
  own_then = struck_own t touch 0 p.rtm.threads p.own

  abbrev watches_then : List WatchParts
  watches_then = struck_watches t touch 0 p.rtm.threads p.watches

  abbrev open_then : List (Option (Transaction (CallStack Frame)))
  open_then = spared_from t touch 0 p.rtm.threads

  -- others as they are then, and the thread itself with its access
  abbrev parts_then : Option (Transaction (CallStack Frame)) → CoreParts
  parts_then x = record p { rtm = done_in (spared_rtm p.rtm t touch) t touch store x; watches = watches_then; own = own_then }

  module _ (x : Option (Transaction (CallStack Frame))) (at : StandsAt p t w x k) where
    own-there : slice_get own_then t ≡ Some w
    own-there = let more : 0 + t ≡ t = omega arith in
        ap (λ (n : ℕ). slice_get (struck_own n touch 0 p.rtm.threads p.own) t) (sym more) ∙ get-own t touch 0 p.rtm.threads p.own w at.made

    watch-there : slice_get watches_then t ≡ Some k
    watch-there = let more : 0 + t ≡ t = omega arith in
        ap (λ (n : ℕ). slice_get (struck_watches n touch 0 p.rtm.threads p.watches) t) (sym more) ∙ get-watch t touch 0 p.rtm.threads p.watches k at.watching

    open-there : slice_get open_then t ≡ Some x
    open-there = let more : 0 + t ≡ t = omega arith in
        ap (λ (n : ℕ). slice_get (spared_from n touch 0 p.rtm.threads) t) (sym more) ∙ get-open t touch 0 p.rtm.threads x at.open_there

    workers-then : joined own_then (slice_set open_then t (touched_one touch store x)) watches_then
        ≡ slice_set (map (spared (claim_of touch)) (state_of p ups).workers) t (joined_one w (touched_one touch store x) k)
    workers-then =
        let y : Option (Transaction (CallStack Frame)) = touched_one touch store x in
        ap (λ (ws : List OwnParts). joined ws (slice_set open_then t y) watches_then) (sym (set-same own_then t w own-there))
        ∙ ap (λ (ks : List WatchParts). joined (slice_set own_then t w) (slice_set open_then t y) ks) (sym (set-same watches_then t k watch-there))
        ∙ set-joined own_then open_then watches_then t w y k
        ∙ ap (λ (ws : List Worker). slice_set ws t (joined_one w y k)) (struck-joined t touch 0 p.own p.rtm.threads p.watches)
        ∙ becomes-spared t (claim_of touch) (state_of p ups).workers (joined_one w y k)

  abbrev did_then : Option (Transaction (CallStack Frame)) → State
  did_then x = did (state_of p ups) t (joined_one w x k) false None (record { thread = w.thread; world = p.world; born = None; touch = Some touch; store = store })

  abbrev with_parts : Option (Transaction (CallStack Frame)) → List Worker → State
  with_parts x ws = record (state_of p ups) { memory = memory_after (joined_one w x k).mode store p.rtm.memory; workers = ws }

  did-is : (x : Option (Transaction (CallStack Frame))) → StandsAt p t w x k
      → with_parts x (slice_set (map (spared (claim_of touch)) (state_of p ups).workers) t (joined_one w (touched_one touch store x) k)) ≡ did_then x
  did-is x at =
      ap (λ (v : Worker). with_parts x (slice_set (map (spared (claim_of touch)) (state_of p ups).workers) t v)) (touched-mode w.words.mode touch store w x k)
      ∙ ap (λ (ts : List ℕ). record (with_parts x (slice_set (map (spared (claim_of touch)) (state_of p ups).workers) t
      (record (joined_one w x k) { mode = mode_after false (Some touch) store (joined_one w x k).mode }))) { turns = ts }) (turns-same w.words.mode w x k t p.turns)

  memory-none : (mode : runtime.Mode) → memory_with store p.rtm.memory ≡ memory_after (joined_one (in_mode mode w) None k).mode store p.rtm.memory
  memory-none Out = refl
  memory-none In = refl
  memory-none Plain = refl

  memory-some : (mode : runtime.Mode) (tx : Transaction (CallStack Frame)) → true ≡ is_in mode
      → p.rtm.memory ≡ memory_after (joined_one (in_mode mode w) (Some tx) k).mode store p.rtm.memory
  memory-some Out tx e = cc
  memory-some In tx e = refl
  memory-some Plain tx e = cc

  parts-meant : (x : Option (Transaction (CallStack Frame))) → StandsAt p t w x k → state_of (parts_then x) ups ≡ did_then x
  parts-meant None at =
      ap (λ (xs : List (Option (Transaction (CallStack Frame)))). record (state_of (parts_then None) ups) { workers = joined own_then xs watches_then }) (sym (set-same open_then t None (open-there None at)))
      ∙ ap (λ (ws : List Worker). record (state_of (parts_then None) ups) { workers = ws }) (workers-then None at)
      ∙ ap (λ m. record (with_parts None (slice_set (map (spared (claim_of touch)) (state_of p ups).workers) t (joined_one w None k))) { memory = m }) (memory-none w.words.mode)
      ∙ did-is None at
  parts-meant (Some tx) at =
      ap (λ (ws : List Worker). record (state_of (parts_then (Some tx)) ups) { workers = ws }) (workers-then (Some tx) at)
      ∙ ap (λ m. record (with_parts (Some tx) (slice_set (map (spared (claim_of touch)) (state_of p ups).workers) t (joined_one w (touched_one touch store (Some tx)) k))) { memory = m })
      (memory-some w.words.mode tx at.tied)
      ∙ did-is (Some tx) at

  parts-tied : (x : Option (Transaction (CallStack Frame))) → StandsAt p t w x k → IsTied p → IsTied (parts_then x)
  parts-tied None at tied = record {
    threads = length-open t touch 0 p.rtm.threads ∙ tied.threads;
    watches = length-watches t touch 0 p.rtm.threads p.watches ∙ tied.watches;
    own = subst (λ (n : ℕ). n ≤ thread_limit) (sym (length-own t touch 0 p.rtm.threads p.own)) tied.own;
    tied = struck-tied t touch 0 p.own p.rtm.threads tied.tied;
  }
  parts-tied (Some tx) at tied = record {
    threads = length-set open_then t (touched_one touch store (Some tx)) ∙ length-open t touch 0 p.rtm.threads ∙ tied.threads;
    watches = length-watches t touch 0 p.rtm.threads p.watches ∙ tied.watches;
    own = subst (λ (n : ℕ). n ≤ thread_limit) (sym (length-own t touch 0 p.rtm.threads p.own)) tied.own;
    tied = subst (λ (ws : List OwnParts). AreTied ws (slice_set open_then t (touched_one touch store (Some tx)))) (set-same own_then t w (own-there (Some tx) at))
        (set-tied own_then open_then t w w (touched_one touch store (Some tx)) (own-there (Some tx) at) (struck-tied t touch 0 p.own p.rtm.threads tied.tied) at.tied);
  }

  parts-stands : (x : Option (Transaction (CallStack Frame))) → StandsAt p t w x k → StandsAt (parts_then x) t w (touched_one touch store x) k
  parts-stands None at = record { made = own-there None at; open_there = open-there None at; watching = watch-there None at; tied = at.tied }
  parts-stands (Some tx) at = record {
    made = own-there (Some tx) at;
    open_there = get-set open_then t (touched_one touch store (Some tx)) (Some tx) (open-there (Some tx) at);
    watching = watch-there (Some tx) at;
    tied = at.tied;
  }

module _ (p : CoreParts) (t : ℕ) (w : OwnParts) (x : Option (Transaction (CallStack Frame))) (k : WatchParts) (at : StandsAt p t w x k) (ups : List Upset)
    (touch : Touch) (store : Option Store) where
  parts-are : touched_as Entered touch store t p ≡ parts_then p t w k ups touch store x
  parts-are =
      ap (λ (o : Option (Transaction (CallStack Frame))). record (touched_as Entered touch store t p) { rtm = done_in (spared_rtm p.rtm t touch) t touch store o }) (thread-is p t w x k at ups)
      ∙ ap (λ (ws : List OwnParts). record (touched_as Entered touch store t p) { rtm = done_in (spared_rtm p.rtm t touch) t touch store x; own = ws }) (all-own t touch [] p.rtm.threads p.own)
      ∙ ap (λ (ks : List WatchParts). record (parts_then p t w k ups touch store x) { watches = ks }) (all-watches t touch [] p.rtm.threads p.watches)

  pub touched-meant : state_of (touched_as Entered touch store t p) ups
      ≡ did (state_of p ups) t (joined_one w x k) false None (record { thread = w.thread; world = p.world; born = None; touch = Some touch; store = store })
  touched-meant = ap (λ (q : CoreParts). state_of q ups) parts-are ∙ parts-meant p t w k ups touch store x at

  pub touched-tied : IsTied p → IsTied (touched_as Entered touch store t p)
  touched-tied tied = subst IsTied (sym parts-are) (parts-tied p t w k ups touch store x at tied)

  -- the thread as it is then
  pub touched-stands : StandsAt (touched_as Entered touch store t p) t w (touched_one touch store x) k
  touched-stands = subst (λ (q : CoreParts). StandsAt q t w (touched_one touch store x) k) (sym parts-are) (parts-stands p t w k ups touch store x at)

  pub touched-worker : joined_one w (touched_one touch store x) k ≡ record (joined_one w x k) { mode = mode_after false (Some touch) store (joined_one w x k).mode }
  touched-worker = touched-mode w.words.mode touch store w x k
