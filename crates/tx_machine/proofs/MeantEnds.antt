-- The end of a transaction, and a cut, are those of the definitions.
use Rattle.std.proofs.Common.{ℕ, zero, suc, ◌≡◌, ◌∙◌, Bool, true, false, not, List, [], ◌∷◌, ◌++◌, Option, Some, None, slice_get, slice_set, slice_index_or, refl, ap, sym, subst}
use Rattle.std.specs.Prelude.{replicate}
use Rattle.std.specs.Option.{is_some, option_map_or}
use Rattle.mem_image.specs.Bytes.{Memory}
use Rattle.process.specs.declared.state.CallStack.{CallStack}
use Rattle.process.specs.declared.state.Thread.{Thread}
use Rattle.process.specs.declared.state.Thread.TheVariants.{Running}
use Rattle.hard_frames.specs.declared.state.Frame.{Frame}
use Rattle.elide.specs.Watches.{WatchParts, nothing_watched, is_some_held}
use Rattle.rtm_core.specs.Footprint.{seen_through}
use Rattle.rtm_core.specs.Transactions.{Transaction, seen_in, seen_by}
use Rattle.tx_runtime.specs.declared.words.Mode as runtime
use Rattle.tx_runtime.specs.declared.words.Mode.TheVariants.{Out, In, Plain}
use Rattle.tx_runtime.specs.Words.{cuts}
use Rattle.hard_meaning.specs.State.{Worker, State, Upset}
use Rattle.hard_meaning.specs.Aborts.{Locked, aborted}
use Rattle.hard_meaning.specs.Effects.{with_worker}
use Rattle.hard_meaning.specs.Runtime.{outside, closed, is_empty, can_end, where_ends, ended, cut, cut_if}
use Rattle.hard_meaning.specs.Turns.{onward}
use Rattle.tx_machine.specs.Own.{OwnParts, passed_thread, once_ended, once_committed}
use Rattle.tx_machine.specs.Joined.{joined_one, is_in}
use Rattle.tx_machine.specs.Core.{CoreParts, with_own, is_open, pending_in, closed_if, is_holding, closed_by, core_closed, can_if, can_close, passed_if, core_ended, cuts_in, cut_as, core_cut}
use Rattle.tx_machine.specs.Meant.{state_of, IsTied, StandsAt}
use Rattle.tx_machine.proofs.Meant.{get-set, set-set, thread-is, open-is, own-is, own-meant, own-tied, own-stands}
use Rattle.tx_machine.proofs.MeantAborts.{in_mode, once_changed, all-meant, all-tied, aborted-meant, aborted-tied}
use Rattle.tx_machine.proofs.MeantPasses.{with_thread, thread-meant, thread-tied, passed-meant, passed-tied}

pub index-there : {A : Type 0} (xs : List A) (t : ℕ) (x d : A) → slice_get xs t ≡ Some x → slice_index_or xs t d ≡ x
index-there [] zero x d e = cc
index-there [] (suc t) x d e = cc
index-there (y ∷ xs) zero x d e = cc
index-there (y ∷ xs) (suc t) x d e = index-there xs t x d e

empty-is : (held : List ℕ) → is_empty held ≡ not (is_some_held held)
empty-is [] = refl
empty-is (address ∷ held) = refl

-- a worker becomes one thing and then another
pub twice : (s : State) (t : ℕ) (v w : Worker) → with_worker (with_worker s t v) t w ≡ with_worker s t w
twice s t v w = ap (λ (ws : List Worker). record s { workers = ws }) (set-set s.workers t v w)

-- ---- one thread

outside-none : (mode : runtime.Mode) (w : OwnParts) (k : WatchParts)
    → joined_one (once_ended (in_mode mode w)) None k ≡ outside (joined_one (in_mode mode w) None k)
outside-none Out w k = refl
outside-none In w k = refl
outside-none Plain w k = refl

-- a transaction's own thread once it has committed
abbrev settled_one : OwnParts → Worker → Worker
settled_one w v = record (outside v) { hits = w.struck ++ w.hits }

committed-some : (mode : runtime.Mode) (w : OwnParts) (tx : Transaction (CallStack Frame)) (k : WatchParts)
    → joined_one (once_committed (in_mode mode w)) None nothing_watched ≡ settled_one w (joined_one (in_mode mode w) (Some tx) k)
committed-some Out w tx k = refl
committed-some In w tx k = refl
committed-some Plain w tx k = refl

closed-none : (mode : runtime.Mode) (s : State) (t : ℕ) (w : OwnParts) (k : WatchParts) (v : Worker)
    → with_worker s t (outside v) ≡ closed s t (joined_one (in_mode mode w) None k).mode v
closed-none Out s t w k v = refl
closed-none In s t w k v = refl
closed-none Plain s t w k v = refl

closed-some : (mode : runtime.Mode) (s : State) (t : ℕ) (w : OwnParts) (tx : Transaction (CallStack Frame)) (k : WatchParts) (v : Worker) → true ≡ is_in mode → v.hits ≡ w.hits
    → record (with_worker s t (settled_one w v)) { memory = seen_through tx.footprint s.memory; turns = s.turns ++ replicate w.pending t }
    ≡ closed s t (joined_one (in_mode mode w) (Some tx) k).mode v
closed-some Out s t w tx k v e h = cc
closed-some Plain s t w tx k v e h = cc
closed-some In s t w tx k v e h =
    let closed_with : List ℕ → State = λ hits. record s {
      memory = seen_through tx.footprint s.memory;
      workers = slice_set s.workers t (record (outside v) { hits = w.struck ++ hits });
      turns = s.turns ++ replicate w.pending t;
    } in
    ap closed_with (sym h)

can-none : (mode : runtime.Mode) (w : OwnParts) (k : WatchParts) → true ≡ can_end (joined_one (in_mode mode w) None k).mode
can-none Out w k = refl
can-none In w k = refl
can-none Plain w k = refl

can-some : (mode : runtime.Mode) (w : OwnParts) (tx : Transaction (CallStack Frame)) (k : WatchParts) → true ≡ is_in mode
    → not (is_some_held k.held) ≡ can_end (joined_one (in_mode mode w) (Some tx) k).mode
can-some Out w tx k e = cc
can-some In w tx k e = sym (empty-is k.held)
can-some Plain w tx k e = cc

-- ---- in all parts

module _ (p : CoreParts) (t : ℕ) (w : OwnParts) (k : WatchParts) (ups : List Upset) where
  -- without a transaction
  module _ (at : StandsAt p t w None k) where
    none-meant : state_of (with_own t once_ended p) ups ≡ with_worker (state_of p ups) t (outside (joined_one w None k))
    none-meant = own-meant p t w None k at ups once_ended ∙ ap (λ (v : Worker). with_worker (state_of p ups) t v) (outside-none w.words.mode w k)

    none-stands : StandsAt (with_own t once_ended p) t (once_ended w) None k
    none-stands = own-stands p t w None k at ups once_ended at.tied

    none-tied : IsTied p → IsTied (with_own t once_ended p)
    none-tied tied = own-tied p t w None k at ups once_ended at.tied tied

    none-moved : (g : Thread Frame → Thread Frame) → state_of (with_own t (with_thread g) (with_own t once_ended p)) ups
        ≡ with_worker (state_of p ups) t (outside (record (joined_one w None k) { thread = g w.thread }))
    none-moved g = thread-meant (with_own t once_ended p) t (once_ended w) None k none-stands ups g
        ∙ ap (λ (v : Worker). with_worker (state_of (with_own t once_ended p) ups) t (record v { thread = g w.thread })) (outside-none w.words.mode w k)
        ∙ ap (λ (s : State). with_worker s t (outside (record (joined_one w None k) { thread = g w.thread }))) none-meant
        ∙ twice (state_of p ups) t (outside (joined_one w None k)) (outside (record (joined_one w None k) { thread = g w.thread }))

  -- with one that commits
  module _ (tx : Transaction (CallStack Frame)) (at : StandsAt p t w (Some tx) k) where
    abbrev with_rest : State → State
    with_rest s = record s { memory = seen_through tx.footprint p.rtm.memory; turns = p.turns ++ replicate w.pending t }

    seen-is : seen_by p.rtm t ≡ seen_through tx.footprint p.rtm.memory
    seen-is = ap (λ (o : Option (Transaction (CallStack Frame))). seen_in o p.rtm.memory) (thread-is p t w (Some tx) k at ups)

    pending-is : pending_in p t ≡ w.pending
    pending-is = ap (λ (o : Option OwnParts). option_map_or (λ (v : OwnParts). v.pending) o 0) at.made

    abbrev changed : CoreParts
    changed = once_changed p t w (Some tx) k at ups once_committed None nothing_watched

    some-meant : state_of (closed_if false t p) ups ≡ with_rest (with_worker (state_of p ups) t (settled_one w (joined_one w (Some tx) k)))
    some-meant = ap (λ (m : Memory). record (state_of changed ups) { memory = m; turns = p.turns ++ replicate (pending_in p t) t }) seen-is
        ∙ ap (λ (n : ℕ). record (state_of changed ups) { memory = seen_through tx.footprint p.rtm.memory; turns = p.turns ++ replicate n t }) pending-is
        ∙ ap with_rest (all-meant p t w (Some tx) k at ups once_committed None nothing_watched)
        ∙ ap (λ (v : Worker). with_rest (with_worker (state_of p ups) t v)) (committed-some w.words.mode w tx k)

    some-stands : StandsAt (closed_if false t p) t (once_committed w) None nothing_watched
    some-stands = record {
      made = ap (λ (ws : List OwnParts). slice_get ws t) (own-is p t w (Some tx) k at ups once_committed) ∙ get-set p.own t (once_committed w) w at.made;
      open_there = get-set p.rtm.threads t None (Some tx) at.open_there;
      watching = get-set p.watches t nothing_watched k at.watching;
      tied = refl;
    }

    some-tied : IsTied p → IsTied (closed_if false t p)
    some-tied tied =
        let all = all-tied p t w (Some tx) k at ups once_committed None nothing_watched refl tied in
        record { threads = all.threads; watches = all.watches; own = all.own; tied = all.tied }

    some-moved : (g : Thread Frame → Thread Frame) → state_of (with_own t (with_thread g) (closed_if false t p)) ups
        ≡ with_rest (with_worker (state_of p ups) t (settled_one w (record (joined_one w (Some tx) k) { thread = g w.thread })))
    some-moved g =
        let moved : Worker = settled_one w (record (joined_one w (Some tx) k) { thread = g w.thread }) in
        thread-meant (closed_if false t p) t (once_committed w) None nothing_watched some-stands ups g
        ∙ ap (λ (v : Worker). with_worker (state_of (closed_if false t p) ups) t (record v { thread = g w.thread })) (committed-some w.words.mode w tx k)
        ∙ ap (λ (s : State). with_worker s t moved) some-meant
        ∙ ap with_rest (twice (state_of p ups) t (settled_one w (joined_one w (Some tx) k)) moved)

-- ---- both

-- it goes on as another where it can
abbrev pub moved_if : Bool → (Thread Frame → Thread Frame) → ℕ → CoreParts → CoreParts
moved_if true g t p = with_own t (with_thread g) p
moved_if false g t p = p

abbrev closed_as : Bool → Bool → ℕ → CoreParts → CoreParts
closed_as true holds t p = closed_if holds t p
closed_as false holds t p = with_own t once_ended p

closed-as : (o : Bool) (t : ℕ) (p : CoreParts) → closed_by o t p ≡ closed_as o (is_holding p t) t p
closed-as true t p = refl
closed-as false t p = refl

module _ (p : CoreParts) (t : ℕ) (w : OwnParts) (k : WatchParts) (ups : List Upset) (g : Thread Frame → Thread Frame) where
  abbrev moved_of : Option (Transaction (CallStack Frame)) → Worker
  moved_of x = record (joined_one w x k) { thread = g w.thread }

  abbrev ended_of : Option (Transaction (CallStack Frame)) → Bool → Worker → State
  ended_of x can v = where_ends can (state_of p ups) t (joined_one w x k) (closed (state_of p ups) t (joined_one w x k).mode v)

  moved-by : (x : Option (Transaction (CallStack Frame))) (holds : Bool) → StandsAt p t w x k
      → state_of (moved_if (can_if (is_some x) holds) g t (closed_as (is_some x) holds t p)) ups ≡ ended_of x (can_if (is_some x) holds) (moved_of x)
  moved-by None holds at = none-moved p t w k ups at g ∙ closed-none w.words.mode (state_of p ups) t w k (moved_of None)
  moved-by (Some tx) false at = some-moved p t w k ups tx at g ∙ closed-some w.words.mode (state_of p ups) t w tx k (moved_of (Some tx)) at.tied refl
  moved-by (Some tx) true at = aborted-meant p t w (Some tx) k at ups Locked

  closed-by : (x : Option (Transaction (CallStack Frame))) (holds : Bool) → StandsAt p t w x k
      → state_of (closed_as (is_some x) holds t p) ups ≡ ended_of x (can_if (is_some x) holds) (joined_one w x k)
  closed-by None holds at = none-meant p t w k ups at ∙ closed-none w.words.mode (state_of p ups) t w k (joined_one w None k)
  closed-by (Some tx) false at = some-meant p t w k ups tx at ∙ closed-some w.words.mode (state_of p ups) t w tx k (joined_one w (Some tx) k) at.tied refl
  closed-by (Some tx) true at = aborted-meant p t w (Some tx) k at ups Locked

  moved-tied : (x : Option (Transaction (CallStack Frame))) (holds : Bool) → StandsAt p t w x k → IsTied p
      → IsTied (moved_if (can_if (is_some x) holds) g t (closed_as (is_some x) holds t p))
  moved-tied None holds at tied = thread-tied (with_own t once_ended p) t (once_ended w) None k (none-stands p t w k ups at) ups g (none-tied p t w k ups at tied)
  moved-tied (Some tx) false at tied = thread-tied (closed_if false t p) t (once_committed w) None nothing_watched (some-stands p t w k ups tx at) ups g (some-tied p t w k ups tx at tied)
  moved-tied (Some tx) true at tied = aborted-tied p t w (Some tx) k at ups Locked tied

  closed-tied-by : (x : Option (Transaction (CallStack Frame))) (holds : Bool) → StandsAt p t w x k → IsTied p → IsTied (closed_as (is_some x) holds t p)
  closed-tied-by None holds at tied = none-tied p t w k ups at tied
  closed-tied-by (Some tx) false at tied = some-tied p t w k ups tx at tied
  closed-tied-by (Some tx) true at tied = aborted-tied p t w (Some tx) k at ups Locked tied

  can-by : (x : Option (Transaction (CallStack Frame))) → StandsAt p t w x k → can_if (is_some x) (is_some_held k.held) ≡ can_end (joined_one w x k).mode
  can-by None at = can-none w.words.mode w k
  can-by (Some tx) at = can-some w.words.mode w tx k at.tied

passed-if : (b : Bool) (t : ℕ) (p : CoreParts) → passed_if b t p ≡ moved_if b passed_thread t p
passed-if true t p = refl
passed-if false t p = refl

module _ (p : CoreParts) (t : ℕ) (w : OwnParts) (x : Option (Transaction (CallStack Frame))) (k : WatchParts) (at : StandsAt p t w x k) (ups : List Upset) where
  holding-is : is_holding p t ≡ is_some_held k.held
  holding-is = ap (λ (j : WatchParts). is_some_held j.held) (index-there p.watches t k nothing_watched at.watching)

  closed-is : core_closed t p ≡ closed_as (is_some x) (is_some_held k.held) t p
  closed-is = closed-as (is_open p t) t p ∙ ap (λ (o : Bool). closed_as o (is_holding p t) t p) (open-is p t w x k at ups)
      ∙ ap (λ (h : Bool). closed_as (is_some x) h t p) holding-is

  can-is : can_close p t ≡ can_if (is_some x) (is_some_held k.held)
  can-is = ap (λ (o : Bool). can_if o (is_holding p t)) (open-is p t w x k at ups) ∙ ap (λ (h : Bool). can_if (is_some x) h) holding-is

  pub can-meant : can_close p t ≡ can_end (joined_one w x k).mode
  can-meant = can-is ∙ can-by p t w k ups (λ th. th) x at

  -- it ends its transaction, and stays at its place
  pub closed-meant : state_of (core_closed t p) ups ≡ ended (state_of p ups) t (joined_one w x k) (joined_one w x k)
  closed-meant = ap (λ (q : CoreParts). state_of q ups) closed-is ∙ closed-by p t w k ups (λ th. th) x (is_some_held k.held) at
      ∙ ap (λ (b : Bool). ended_of p t w k ups (λ th. th) x b (joined_one w x k)) (can-by p t w k ups (λ th. th) x at)

  pub closed-tied : IsTied p → IsTied (core_closed t p)
  closed-tied tied = subst IsTied (sym closed-is) (closed-tied-by p t w k ups (λ th. th) x (is_some_held k.held) at tied)

  -- or goes on as another
  module _ (g : Thread Frame → Thread Frame) where
    moved-is : moved_if (can_close p t) g t (core_closed t p) ≡ moved_if (can_if (is_some x) (is_some_held k.held)) g t (closed_as (is_some x) (is_some_held k.held) t p)
    moved-is = ap (λ (b : Bool). moved_if b g t (core_closed t p)) can-is
        ∙ ap (λ (q : CoreParts). moved_if (can_if (is_some x) (is_some_held k.held)) g t q) closed-is

    pub moved-meant : state_of (moved_if (can_close p t) g t (core_closed t p)) ups
        ≡ ended (state_of p ups) t (joined_one w x k) (record (joined_one w x k) { thread = g w.thread })
    moved-meant = ap (λ (q : CoreParts). state_of q ups) moved-is ∙ moved-by p t w k ups g x (is_some_held k.held) at
        ∙ ap (λ (b : Bool). ended_of p t w k ups g x b (moved_of p t w k ups g x)) (can-by p t w k ups g x at)

    pub moved-if-tied : IsTied p → IsTied (moved_if (can_close p t) g t (core_closed t p))
    moved-if-tied tied = subst IsTied (sym moved-is) (moved-tied p t w k ups g x (is_some_held k.held) at tied)

    -- where it can
    pub moved-closed : can_close p t ≡ true → state_of (with_own t (with_thread g) (core_closed t p)) ups
        ≡ closed (state_of p ups) t (joined_one w x k).mode (record (joined_one w x k) { thread = g w.thread })
    moved-closed e =
        let s : State = state_of p ups in
        let one : Worker = joined_one w x k in
        ap (λ (b : Bool). state_of (moved_if b g t (core_closed t p)) ups) (sym e) ∙ moved-meant
        ∙ ap (λ (b : Bool). where_ends b s t one (closed s t one.mode (record one { thread = g w.thread }))) (sym can-meant ∙ e)

    pub moved-closed-tied : can_close p t ≡ true → IsTied p → IsTied (with_own t (with_thread g) (core_closed t p))
    moved-closed-tied e tied = subst (λ (b : Bool). IsTied (moved_if b g t (core_closed t p))) e (moved-if-tied tied)

  -- where it can't, it is aborted
  pub held-closed : can_close p t ≡ false → state_of (core_closed t p) ups ≡ with_worker (state_of p ups) t (aborted Locked (joined_one w x k))
  held-closed e =
      let s : State = state_of p ups in
      let one : Worker = joined_one w x k in
      closed-meant ∙ ap (λ (b : Bool). where_ends b s t one (closed s t one.mode one)) (sym can-meant ∙ e)

  ended-is : core_ended t p ≡ moved_if (can_close p t) passed_thread t (core_closed t p)
  ended-is = passed-if (can_close p t) t (core_closed t p)

  pub ended-tied : IsTied p → IsTied (core_ended t p)
  ended-tied tied = subst IsTied (sym ended-is) (moved-if-tied passed_thread tied)

  cuts-is : cuts_in p t ≡ cuts w.words
  cuts-is = ap (λ (o : Option OwnParts). option_map_or (λ (v : OwnParts). cuts v.words) o false) at.made

  cut-tied-by : (b : Bool) → IsTied p → IsTied (cut_as b t p)
  cut-tied-by true tied = ended-tied tied
  cut-tied-by false tied = passed-tied p t w x k at ups tied

  pub cut-tied : IsTied p → IsTied (core_cut t p)
  cut-tied tied = cut-tied-by (cuts_in p t) tied

  -- where it runs
  module _ (stack : CallStack Frame) (runs : w.thread ≡ Running stack) where
    pub ended-meant : state_of (core_ended t p) ups ≡ ended (state_of p ups) t (joined_one w x k) (onward (joined_one w x k) stack)
    ended-meant = ap (λ (q : CoreParts). state_of q ups) ended-is ∙ moved-meant passed_thread
        ∙ ap (λ (th : Thread Frame). ended (state_of p ups) t (joined_one w x k) (record (joined_one w x k) { thread = passed_thread th })) runs

    cut-by : (b : Bool) → state_of (cut_as b t p) ups ≡ cut_if b (state_of p ups) t (joined_one w x k) (onward (joined_one w x k) stack)
    cut-by true = ended-meant
    cut-by false = passed-meant p t w x k at ups stack runs

    pub cut-meant : state_of (core_cut t p) ups ≡ cut (state_of p ups) t (joined_one w x k) (onward (joined_one w x k) stack)
    cut-meant = cut-by (cuts_in p t) ∙ ap (λ (b : Bool). cut_if b (state_of p ups) t (joined_one w x k) (onward (joined_one w x k) stack)) cuts-is
