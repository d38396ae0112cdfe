-- Upsets, and aborts that are asked for, are those of the definitions.
use Rattle.std.proofs.Common.{ℕ, zero, suc, ◌≡◌, ◌∙◌, ◌≤◌, ◌<◌, Bool, true, false, ◌||◌, List, [], ◌∷◌, ◌++◌, length, reverse, Option, Some, None, slice_get, slice_set, refl, ap, sym, subst, arith}
use Rattle.std.specs.Prelude.{nat_eq}
use Rattle.std.specs.List.{list_any}
use Rattle.std.specs.Option.{is_some, option_map, option_map_or, option_and_then}
use Rattle.std.proofs.lemmas.List.{reverse-append}
use Rattle.std.proofs.lemmas.Option.{slice_get_past}
use Rattle.std.proofs.lemmas.List.Folds.{list_any-append}
use Rattle.line_sets.specs.Sets.{has}
use Rattle.process.specs.declared.state.CallStack.{CallStack}
use Rattle.process.specs.declared.state.Thread.{Thread}
use Rattle.process.specs.declared.state.Thread.TheVariants.{Running, Exiting, Ended}
use Rattle.sched_file.specs.declared.entries.UpsetSpec.{UpsetSpec}
use Rattle.hard_ir.specs.declared.instruction.HBlock.{HBlock}
use Rattle.hard_ir.specs.declared.instruction.HReg.{HReg}
use Rattle.hard_ir.specs.Hardened.{HardParts}
use Rattle.hard_frames.specs.declared.state.Frame.{Frame}
use Rattle.hard_frames.specs.Code.{blocks_at}
use Rattle.elide.specs.Watches.{WatchParts}
use Rattle.rtm_core.specs.Transactions.{Transaction}
use Rattle.tx_runtime.specs.declared.words.Mode as runtime
use Rattle.tx_runtime.specs.declared.words.Mode.TheVariants.{Out, In, Plain}
use Rattle.upset_model.specs.Table.{in_window_of}
use Rattle.hard_meaning.specs.State.{Worker, State, Upset, Nowhere, OnAnother, InWindow, Struck, is_inside}
use Rattle.hard_meaning.specs.Aborts.{Other}
use Rattle.hard_meaning.specs.Effects.{with_worker}
use Rattle.hard_meaning.specs.Records.{carries, some_stands, records}
use Rattle.hard_meaning.specs.Runs.{abort_in}
use Rattle.hard_meaning.specs.Strikes.{Target, target_of, struck, window_at, is_in_window, marked_as, kind_of, struck_as, struck_at, upset_in, upset_by}
use Rattle.tx_machine.specs.declared.strikes.StruckAt.{StruckAt}
use Rattle.tx_machine.specs.Own.{OwnParts}
use Rattle.tx_machine.specs.Joined.{mode_with, joined_one, joined, is_in}
use Rattle.tx_machine.specs.Core.{CoreParts, core_aborted}
use Rattle.tx_machine.specs.Struck.{place_of}
use Rattle.tx_machine.specs.Meant.{state_of, AreTied, IsTied, StandsAt}
use Rattle.tx_machine.specs.Upsets.{carried, all_carried, thread_place, thread_struck, own_struck, number_if, some_standing, inside_at, window_of, core_kind, core_place, core_struck, core_upset_at, core_upset, kind_at, upset_kind}
use Rattle.tx_machine.proofs.Logs.{records-by, some-of}
use Rattle.tx_machine.proofs.Meant.{there-within, found, worker-is, own-meant, own-tied}
use Rattle.tx_machine.proofs.MeantAborts.{in_mode, aborted-meant, aborted-tied}
use Rattle.tx_machine.proofs.Targets.{target-place, target-struck}

-- ---- numbers that are carried

or-false : (b : Bool) → (b || false) ≡ b
or-false true = refl
or-false false = refl

either-way : (a b : Bool) → (a || b) ≡ (b || a)
either-way true true = refl
either-way true false = refl
either-way false true = refl
either-way false false = refl

has-reverse : (n : ℕ) (xs : List ℕ) → has (reverse xs) n ≡ has xs n
has-reverse n [] = refl
has-reverse n (x ∷ xs) =
    ap (λ (list : List ℕ). has list n) (reverse-append (x ∷ []) xs)
    ∙ list_any-append (λ m. nat_eq n m) (reverse xs) (x ∷ [])
    ∙ either-way (has (reverse xs) n) (has (x ∷ []) n)
    ∙ ap (λ (b : Bool). has (x ∷ []) n || b) (has-reverse n xs) ∙ sym (list_any-append (λ m. nat_eq n m) (x ∷ []) xs)

carried-joined : (mode : runtime.Mode) (n : ℕ) (w : OwnParts) (x : Option (Transaction (CallStack Frame))) (k : WatchParts) → is_some x ≡ is_in mode
    → carries n (joined_one (in_mode mode w) x k) ≡ has (carried (in_mode mode w)) n
carried-joined Out n w x k e = or-false (has w.hits n) ∙ sym (has-reverse n w.hits)
carried-joined Plain n w x k e = or-false (has w.hits n) ∙ sym (has-reverse n w.hits)
carried-joined In n w None k e = cc
carried-joined In n w (Some tx) k e =
    either-way (has w.hits n) (has w.struck n) ∙ sym (list_any-append (λ m. nat_eq n m) w.struck w.hits)
    ∙ sym (has-reverse n (w.struck ++ w.hits))

all-joined : (n : ℕ) (ws : List OwnParts) (xs : List (Option (Transaction (CallStack Frame)))) (ks : List WatchParts) → AreTied ws xs → length ws ≤ length ks
    → list_any (carries n) (joined ws xs ks) ≡ has (all_carried ws) n
all-joined n [] xs ks tied few = refl
all-joined n (w ∷ ws) [] ks tied few = absurd tied
all-joined n (w ∷ ws) (x ∷ xs) [] tied few = absurd (omega (arith, few))
all-joined n (w ∷ ws) (x ∷ xs) (k ∷ ks) tied few =
    ap (λ (b : Bool). b || list_any (carries n) (joined ws xs ks)) (carried-joined w.words.mode n w x k tied.0)
    ∙ ap (λ (b : Bool). has (carried w) n || b) (all-joined n ws xs ks tied.1 (omega (arith, few)))
    ∙ sym (list_any-append (λ m. nat_eq n m) (carried w) (all_carried ws))

pub all-carried : (p : CoreParts) (ups : List Upset) → IsTied p → (n : ℕ) → list_any (carries n) (state_of p ups).workers ≡ has (all_carried p.own) n
all-carried p ups tied n =
    let few = tied.own in
    let many = tied.watches in
    all-joined n p.own p.rtm.threads p.watches tied.tied (omega (arith, few, many))

-- whether some stand
pub stand-meant : (p : CoreParts) (ups : List Upset) → IsTied p → some_stands (records (state_of p ups)) ≡ some_standing p ups
stand-meant p ups tied = ap some_stands (records-by (state_of p ups).workers (all_carried p.own) (all-carried p ups tied) ups) ∙ some-of (all_carried p.own) ups

-- ---- a thread that was not made

none-joined : (ws : List OwnParts) (xs : List (Option (Transaction (CallStack Frame)))) (ks : List WatchParts) (t : ℕ) → slice_get ws t ≡ None
    → slice_get (joined ws xs ks) t ≡ None
none-joined [] xs ks zero e = refl
none-joined [] xs ks (suc t) e = refl
none-joined (w ∷ ws) [] ks zero e = refl
none-joined (w ∷ ws) [] ks (suc t) e = refl
none-joined (w ∷ ws) (x ∷ xs) [] zero e = refl
none-joined (w ∷ ws) (x ∷ xs) [] (suc t) e = refl
none-joined (w ∷ ws) (x ∷ xs) (k ∷ ks) zero e = absurd cc
none-joined (w ∷ ws) (x ∷ xs) (k ∷ ks) (suc t) e = none-joined ws xs ks t e

-- ---- what is struck

no-map : {A B : Type 0} (f : A → B) (o : Option A) → option_map f o ≡ None → o ≡ None
no-map f None e = refl
no-map f (Some a) e = absurd cc

pub record IsMapped {A B : Type 0} (f : A → B) (o : Option A) (b : B) : Type 0 where
  pub one : A
  pub there : o ≡ Some one
  pub gives : f one ≡ b

some-map : {A B : Type 0} (f : A → B) (o : Option A) (b : B) → option_map f o ≡ Some b → IsMapped f o b
some-map f None b e = absurd cc
some-map f (Some a) b e = record { one = a; there = refl; gives = cc }

thread-target : (h : HardParts) (upset : UpsetSpec) (thread : Thread Frame) → option_map place_of (target_of h upset thread) ≡ thread_place h upset thread
thread-target h upset (Running stack) = target-place h upset stack
thread-target h upset (Exiting n) = refl
thread-target h upset Ended = refl

thread-struck : (h : HardParts) (upset : UpsetSpec) (thread : Thread Frame) (to : Target) → target_of h upset thread ≡ Some to
    → struck upset to ≡ thread_struck h upset thread
thread-struck h upset (Running stack) to e = target-struck h upset stack to e
thread-struck h upset (Exiting n) to e = absurd cc
thread-struck h upset Ended to e = absurd cc

-- ---- windows

window-at : (inside : Bool) (blocks : List HBlock) (frame : Frame) (r : HReg) (o : Option HBlock)
    → window_at inside blocks frame r o ≡ option_map_or (in_window_of blocks frame.index r inside) o false
window-at inside blocks frame r None = refl
window-at inside blocks frame r (Some block) = refl

inside-is : (mode : runtime.Mode) (w : OwnParts) (x : Option (Transaction (CallStack Frame))) (k : WatchParts) → is_some x ≡ is_in mode
    → is_inside (mode_with mode w x k) ≡ is_in mode
inside-is Out w x k e = refl
inside-is Plain w x k e = refl
inside-is In w None k e = cc
inside-is In w (Some tx) k e = refl

window-is : (h : HardParts) (w : OwnParts) (x : Option (Transaction (CallStack Frame))) (k : WatchParts) (to : Target) → is_some x ≡ is_in w.words.mode
    → is_in_window h (joined_one w x k).mode to.frame to.register ≡ window_of h (is_in w.words.mode) (place_of to)
window-is h w x k to e =
    ap (λ (inside : Bool). window_at inside (blocks_at h to.frame.function) to.frame to.register (slice_get (blocks_at h to.frame.function) to.frame.block))
    (inside-is w.words.mode w x k e)
    ∙ window-at (is_in w.words.mode) (blocks_at h to.frame.function) to.frame to.register (slice_get (blocks_at h to.frame.function) to.frame.block)

-- ---- the thread that is struck

struck-joined : (h : HardParts) (upset : UpsetSpec) (kind : Upset) (n : ℕ) (mode : runtime.Mode) (w : OwnParts) (x : Option (Transaction (CallStack Frame)))
    (k : WatchParts) → is_some x ≡ is_in mode
    → joined_one (own_struck h upset (number_if kind n) (in_mode mode w)) x k
    ≡ marked_as kind n (record (joined_one (in_mode mode w) x k) { thread = thread_struck h upset w.thread })
struck-joined h upset Nowhere n Out w x k e = refl
struck-joined h upset Nowhere n Plain w x k e = refl
struck-joined h upset Nowhere n In w None k e = cc
struck-joined h upset Nowhere n In w (Some tx) k e = refl
struck-joined h upset OnAnother n Out w x k e = refl
struck-joined h upset OnAnother n Plain w x k e = refl
struck-joined h upset OnAnother n In w None k e = cc
struck-joined h upset OnAnother n In w (Some tx) k e = refl
struck-joined h upset InWindow n Out w x k e = refl
struck-joined h upset InWindow n Plain w x k e = refl
struck-joined h upset InWindow n In w None k e = cc
struck-joined h upset InWindow n In w (Some tx) k e = refl
struck-joined h upset Struck n Out w x k e = refl
struck-joined h upset Struck n Plain w x k e = refl
struck-joined h upset Struck n In w None k e = cc
struck-joined h upset Struck n In w (Some tx) k e = refl

struck-mode : (h : HardParts) (upset : UpsetSpec) (number : Option ℕ) (mode : runtime.Mode) (w : OwnParts)
    → is_in (own_struck h upset number (in_mode mode w)).words.mode ≡ is_in mode
struck-mode h upset None mode w = refl
struck-mode h upset (Some n) Out w = refl
struck-mode h upset (Some n) Plain w = refl
struck-mode h upset (Some n) In w = refl

-- ---- upsets

module _ (upset : UpsetSpec) (ups : List Upset) (p : CoreParts) (tied : IsTied p) where
  -- what comes of one that strikes there
  abbrev come : Option StruckAt → State
  come o = state_of (core_upset_at o upset ups p) (ups ++ kind_at o upset ups p ∷ [])

  module _ (w : OwnParts) (x : Option (Transaction (CallStack Frame))) (k : WatchParts) (at : StandsAt p upset.tid.0 w x k) where
    made-place : core_place upset p ≡ thread_place p.program upset w.thread
    made-place = ap (λ (o : Option OwnParts). option_and_then (λ (v : OwnParts). thread_place p.program upset v.thread) o) at.made

    inside-there : inside_at p upset.tid.0 ≡ is_in w.words.mode
    inside-there = ap (λ (o : Option OwnParts). option_map_or (λ (v : OwnParts). is_in v.words.mode) o false) at.made

    kind-is : (to : Target) → core_kind p ups upset.tid.0 (place_of to)
        ≡ kind_of (some_stands (records (state_of p ups))) (is_in_window p.program (joined_one w x k).mode to.frame to.register)
    kind-is to =
        ap (λ (b : Bool). kind_of b (window_of p.program (inside_at p upset.tid.0) (place_of to))) (sym (stand-meant p ups tied))
        ∙ ap (λ (b : Bool). kind_of (some_stands (records (state_of p ups))) (window_of p.program b (place_of to))) inside-there
        ∙ ap (λ (b : Bool). kind_of (some_stands (records (state_of p ups))) b) (sym (window-is p.program w x k to at.tied))

    struck-meant : (kind : Upset) → state_of (core_struck upset (number_if kind (length ups)) p) (ups ++ kind ∷ [])
        ≡ struck_as (state_of p ups) upset.tid.0 (joined_one w x k) (thread_struck p.program upset w.thread) kind
    struck-meant kind =
        own-meant p upset.tid.0 w x k at (ups ++ kind ∷ []) (own_struck p.program upset (number_if kind (length ups)))
        ∙ ap (λ (v : Worker). with_worker (state_of p (ups ++ kind ∷ [])) upset.tid.0 v) (struck-joined p.program upset kind (length ups) w.words.mode w x k at.tied)

    target-meant : (to : Target) → target_of p.program upset w.thread ≡ Some to
        → come (Some (place_of to)) ≡ struck_at p.program (state_of p ups) upset (joined_one w x k) (Some to)
    target-meant to e =
        struck-meant (core_kind p ups upset.tid.0 (place_of to))
        ∙ ap (λ (thread : Thread Frame). struck_as (state_of p ups) upset.tid.0 (joined_one w x k) thread (core_kind p ups upset.tid.0 (place_of to)))
        (sym (thread-struck p.program upset w.thread to e))
        ∙ ap (λ (kind : Upset). struck_as (state_of p ups) upset.tid.0 (joined_one w x k) (struck upset to) kind) (kind-is to)

    place-meant : (o : Option StruckAt) → thread_place p.program upset w.thread ≡ o
        → come o ≡ struck_at p.program (state_of p ups) upset (joined_one w x k) (target_of p.program upset w.thread)
    place-meant None e =
        sym (ap (struck_at p.program (state_of p ups) upset (joined_one w x k))
        (no-map place_of (target_of p.program upset w.thread) (thread-target p.program upset w.thread ∙ e)))
    place-meant (Some place) e =
        let to = some-map place_of (target_of p.program upset w.thread) place (thread-target p.program upset w.thread ∙ e) in
        ap (λ (place : StruckAt). come (Some place)) (sym to.gives) ∙ target-meant to.one to.there
        ∙ sym (ap (struck_at p.program (state_of p ups) upset (joined_one w x k)) to.there)

    made-meant : come (core_place upset p) ≡ upset_by p.program (state_of p ups) upset
    made-meant = ap come made-place ∙ place-meant (thread_place p.program upset w.thread) refl
        ∙ sym (ap (upset_in p.program (state_of p ups) upset) (worker-is p upset.tid.0 w x k at ups))

    struck-tied : (number : Option ℕ) → IsTied (core_struck upset number p)
    struck-tied number = own-tied p upset.tid.0 w x k at ups (own_struck p.program upset number) (struck-mode p.program upset number w.words.mode w) tied

  nowhere-meant : slice_get p.own upset.tid.0 ≡ None → come (core_place upset p) ≡ upset_by p.program (state_of p ups) upset
  nowhere-meant e =
      ap come (ap (λ (o : Option OwnParts). option_and_then (λ (v : OwnParts). thread_place p.program upset v.thread) o) e)
      ∙ sym (ap (upset_in p.program (state_of p ups) upset) (none-joined p.own p.rtm.threads p.watches upset.tid.0 e))

  pub upset-meant : state_of (core_upset upset ups p) (ups ++ upset_kind upset ups p ∷ []) ≡ upset_by p.program (state_of p ups) upset
  upset-meant = by (slice_get p.own upset.tid.0) refl
    where
      by : (o : Option OwnParts) → slice_get p.own upset.tid.0 ≡ o → come (core_place upset p) ≡ upset_by p.program (state_of p ups) upset
      by None e = nowhere-meant e
      by (Some w) e = let at = found p upset.tid.0 w tied e in made-meant w at.tx at.watch at.stands

  -- a thread that was not made isn't struck
  as-tied : (number : Option ℕ) (o : Option OwnParts) → slice_get p.own upset.tid.0 ≡ o → IsTied (core_struck upset number p)
  as-tied number None e =
      subst (λ (o : Option OwnParts). IsTied (record p { own = option_map_or (λ v. slice_set p.own upset.tid.0 (own_struck p.program upset number v)) o p.own })) (sym e)
      (record { threads = tied.threads; watches = tied.watches; own = tied.own; tied = tied.tied })
  as-tied number (Some w) e = let at = found p upset.tid.0 w tied e in struck-tied w at.tx at.watch at.stands number

  at-tied : (o : Option StruckAt) → IsTied (core_upset_at o upset ups p)
  at-tied None = tied
  at-tied (Some at) = as-tied (number_if (core_kind p ups upset.tid.0 at) (length ups)) (slice_get p.own upset.tid.0) refl

  pub upset-tied : IsTied (core_upset upset ups p)
  upset-tied = at-tied (core_place upset p)

-- ---- aborts that are asked for

module _ (p : CoreParts) (t : ℕ) (tied : IsTied p) where
  pub asked-meant : t < length p.own → (ups : List Upset)
      → state_of (core_aborted Other t p) ups ≡ abort_in (state_of p ups) t (slice_get (state_of p ups).workers t)
  asked-meant less ups =
      let w = there-within p.own t less in
      let at = found p t w.one tied w.there in
      aborted-meant p t w.one at.tx at.watch at.stands ups Other
      ∙ sym (ap (abort_in (state_of p ups) t) (worker-is p t w.one at.tx at.watch at.stands ups))

  pub asked-tied : t < length p.own → IsTied (core_aborted Other t p)
  asked-tied less =
      let w = there-within p.own t less in
      let at = found p t w.one tied w.there in
      aborted-tied p t w.one at.tx at.watch at.stands [] Other tied

pub asked-nowhere : (p : CoreParts) (t : ℕ) → length p.own ≤ t → (ups : List Upset)
    → state_of p ups ≡ abort_in (state_of p ups) t (slice_get (state_of p ups).workers t)
asked-nowhere p t past ups =
    sym (ap (abort_in (state_of p ups) t) (none-joined p.own p.rtm.threads p.watches t (slice_get_past p.own t past)))
