-- Aborts, checks that fail and what is undefined are those of the definitions.
use Rattle.std.proofs.Common.{ℕ, ◌≡◌, ◌∙◌, ◌≤◌, Bool, true, false, List, [], length, Option, Some, None, slice_set, refl, ap, sym, subst}
use Rattle.std.specs.Option.{is_some, option_map_or}
use Rattle.ir_layout.specs.Memory.{thread_limit}
use Rattle.process.specs.declared.state.CallStack.{CallStack}
use Rattle.process.specs.declared.state.Thread.TheVariants.{Running}
use Rattle.hard_frames.specs.declared.state.Frame.{Frame}
use Rattle.hard_frames.specs.declared.outcome.Stop.{Stop}
use Rattle.hard_frames.specs.declared.outcome.Stop.TheVariants.{Fail, Trap}
use Rattle.hard_frames.specs.Places.{place_text}
use Rattle.elide.specs.Watches.{WatchParts, nothing_watched}
use Rattle.rtm_core.specs.Transactions.{Transaction}
use Rattle.tx_runtime.specs.declared.words.Mode as runtime
use Rattle.tx_runtime.specs.declared.words.Mode.TheVariants.{Out, In, Plain}
use Rattle.hard_meaning.specs.State.{Worker, State, Upset}
use Rattle.hard_meaning.specs.Aborts.{Status, Mismatch, Other, aborted}
use Rattle.hard_meaning.specs.Effects.{with_worker}
use Rattle.hard_meaning.specs.Turns.{halted, failed, trapped}
use Rattle.tx_machine.specs.Own.{OwnParts, once_undone}
use Rattle.tx_machine.specs.Joined.{joined_one, is_in}
use Rattle.tx_machine.specs.Core.{CoreParts, own_with, is_open, place_of, place_in, aborted_as, core_aborted, halted_if, core_failed, core_trapped}
use Rattle.tx_machine.specs.Meant.{state_of, IsTied, StandsAt}
use Rattle.tx_machine.proofs.Joined.{set-joined}
use Rattle.tx_machine.proofs.Meant.{length-set, set-tied, thread-is, open-is, own-is, stays}

-- a thread in a mode of the runtime
abbrev pub in_mode : runtime.Mode → OwnParts → OwnParts
in_mode mode w = record w { words = record w.words { mode = mode } }

-- ---- one thread becomes another in all lists

module _ (p : CoreParts) (t : ℕ) (w : OwnParts) (x : Option (Transaction (CallStack Frame))) (k : WatchParts) (at : StandsAt p t w x k) (ups : List Upset)
    (f : OwnParts → OwnParts) (y : Option (Transaction (CallStack Frame))) (j : WatchParts) where
  abbrev pub once_changed : CoreParts
  once_changed = record p {
    rtm = record p.rtm { threads = slice_set p.rtm.threads t y };
    watches = slice_set p.watches t j;
    own = own_with t f p.own;
  }

  pub all-meant : state_of once_changed ups ≡ with_worker (state_of p ups) t (joined_one (f w) y j)
  all-meant = ap (λ (ws : List OwnParts). state_of (record once_changed { own = ws }) ups) (own-is p t w x k at ups f)
      ∙ ap (λ (ws : List Worker). record (state_of p ups) { workers = ws }) (set-joined p.own p.rtm.threads p.watches t (f w) y j)

  pub all-tied : is_some y ≡ is_in (f w).words.mode → IsTied p → IsTied once_changed
  all-tied e tied =
      let tied_with = set-tied p.own p.rtm.threads t w (f w) y at.made tied.tied e in
      let long : length (slice_set p.own t (f w)) ≡ length p.own = length-set p.own t (f w) in
      subst (λ (ws : List OwnParts). IsTied (record once_changed { own = ws })) (sym (own-is p t w x k at ups f))
      (record {
        threads = length-set p.rtm.threads t y ∙ tied.threads;
        watches = length-set p.watches t j ∙ tied.watches;
        own = subst (λ (n : ℕ). n ≤ thread_limit) (sym long) tied.own;
        tied = tied_with;
      })

-- ---- aborts

aborted-outside : (status : Status) (mode : runtime.Mode) (w : OwnParts) (k : WatchParts)
    → joined_one (in_mode mode w) None k ≡ aborted status (joined_one (in_mode mode w) None k)
aborted-outside status Out w k = refl
aborted-outside status In w k = refl
aborted-outside status Plain w k = refl

aborted-inside : (status : Status) (mode : runtime.Mode) (w : OwnParts) (tx : Transaction (CallStack Frame)) (k : WatchParts) → true ≡ is_in mode
    → joined_one (once_undone status tx.kept (in_mode mode w)) None nothing_watched ≡ aborted status (joined_one (in_mode mode w) (Some tx) k)
aborted-inside status Out w tx k e = cc
aborted-inside status In w tx k e = refl
aborted-inside status Plain w tx k e = cc

pub undone-mode : (status : Status) (mode : runtime.Mode) (w : OwnParts) (kept : CallStack Frame) → true ≡ is_in mode
    → false ≡ is_in (once_undone status kept (in_mode mode w)).words.mode
undone-mode status Out w kept e = cc
undone-mode status In w kept e = refl
undone-mode status Plain w kept e = cc

module _ (p : CoreParts) (t : ℕ) (w : OwnParts) (k : WatchParts) (ups : List Upset) where
  abbrev pub aborted_of : Status → Option (Transaction (CallStack Frame)) → State
  aborted_of status x = with_worker (state_of p ups) t (aborted status (joined_one w x k))

  aborted-as : (status : Status) (x : Option (Transaction (CallStack Frame))) → StandsAt p t w x k → state_of (aborted_as x status t p) ups ≡ aborted_of status x
  aborted-as status None at =
      sym (stays p t w None k at ups) ∙ ap (λ (v : Worker). with_worker (state_of p ups) t v) (aborted-outside status w.words.mode w k)
  aborted-as status (Some tx) at = all-meant p t w (Some tx) k at ups (once_undone status tx.kept) None nothing_watched
      ∙ ap (λ (v : Worker). with_worker (state_of p ups) t v) (aborted-inside status w.words.mode w tx k at.tied)

  as-tied : (status : Status) (x : Option (Transaction (CallStack Frame))) → StandsAt p t w x k → IsTied p → IsTied (aborted_as x status t p)
  as-tied status None at tied = tied
  as-tied status (Some tx) at tied = all-tied p t w (Some tx) k at ups (once_undone status tx.kept) None nothing_watched (undone-mode status w.words.mode w tx.kept at.tied) tied

module _ (p : CoreParts) (t : ℕ) (w : OwnParts) (x : Option (Transaction (CallStack Frame))) (k : WatchParts) (at : StandsAt p t w x k) (ups : List Upset) where
  pub aborted-meant : (status : Status) → state_of (core_aborted status t p) ups ≡ with_worker (state_of p ups) t (aborted status (joined_one w x k))
  aborted-meant status = ap (λ (o : Option (Transaction (CallStack Frame))). state_of (aborted_as o status t p) ups) (thread-is p t w x k at ups) ∙ aborted-as p t w k ups status x at

  pub aborted-tied : (status : Status) → IsTied p → IsTied (core_aborted status t p)
  aborted-tied status tied = subst (λ (o : Option (Transaction (CallStack Frame))). IsTied (aborted_as o status t p)) (sym (thread-is p t w x k at ups)) (as-tied p t w k ups status x at tied)

-- ---- checks that fail, and what is undefined

halted-outside : (status : Status) (stop : Stop) (s : State) (t : ℕ) (mode : runtime.Mode) (w : OwnParts) (k : WatchParts)
    → record s { stop = Some stop } ≡ halted status stop s t (joined_one (in_mode mode w) None k) (joined_one (in_mode mode w) None k).mode
halted-outside status stop s t Out w k = refl
halted-outside status stop s t In w k = refl
halted-outside status stop s t Plain w k = refl

halted-inside : (status : Status) (stop : Stop) (s : State) (t : ℕ) (mode : runtime.Mode) (w : OwnParts) (tx : Transaction (CallStack Frame)) (k : WatchParts) → true ≡ is_in mode
    → with_worker s t (aborted status (joined_one (in_mode mode w) (Some tx) k))
    ≡ halted status stop s t (joined_one (in_mode mode w) (Some tx) k) (joined_one (in_mode mode w) (Some tx) k).mode
halted-inside status stop s t Out w tx k e = cc
halted-inside status stop s t In w tx k e = refl
halted-inside status stop s t Plain w tx k e = cc

module _ (p : CoreParts) (t : ℕ) (w : OwnParts) (k : WatchParts) (ups : List Upset) (status : Status) (stop : Stop) where
  halted-if : (x : Option (Transaction (CallStack Frame))) → StandsAt p t w x k
      → state_of (halted_if (is_some x) status stop t p) ups ≡ halted status stop (state_of p ups) t (joined_one w x k) (joined_one w x k).mode
  halted-if None at = halted-outside status stop (state_of p ups) t w.words.mode w k
  halted-if (Some tx) at = aborted-meant p t w (Some tx) k at ups status ∙ halted-inside status stop (state_of p ups) t w.words.mode w tx k at.tied

  if-tied : (x : Option (Transaction (CallStack Frame))) → StandsAt p t w x k → IsTied p → IsTied (halted_if (is_some x) status stop t p)
  if-tied None at tied = record { threads = tied.threads; watches = tied.watches; own = tied.own; tied = tied.tied }
  if-tied (Some tx) at tied = aborted-tied p t w (Some tx) k at ups status tied

module _ (p : CoreParts) (t : ℕ) (w : OwnParts) (x : Option (Transaction (CallStack Frame))) (k : WatchParts) (at : StandsAt p t w x k) (ups : List Upset) where
  pub halted-meant : (status : Status) (stop : Stop)
      → state_of (halted_if (is_open p t) status stop t p) ups ≡ halted status stop (state_of p ups) t (joined_one w x k) (joined_one w x k).mode
  halted-meant status stop = ap (λ (b : Bool). state_of (halted_if b status stop t p) ups) (open-is p t w x k at ups) ∙ halted-if p t w k ups status stop x at

  pub halted-tied : (status : Status) (stop : Stop) → IsTied p → IsTied (halted_if (is_open p t) status stop t p)
  halted-tied status stop tied = subst (λ (b : Bool). IsTied (halted_if b status stop t p)) (sym (open-is p t w x k at ups)) (if-tied p t w k ups status stop x at tied)

  place-is : place_in p t ≡ place_of p.program w.thread
  place-is = ap (λ (o : Option OwnParts). option_map_or (λ (v : OwnParts). place_of p.program v.thread) o []) at.made

  -- where it runs
  module _ (stack : CallStack Frame) (runs : w.thread ≡ Running stack) where
    text-is : place_in p t ≡ place_text p.program stack.frame
    text-is = place-is ∙ ap (place_of p.program) runs

    pub failed-meant : state_of (core_failed t p) ups ≡ failed p.program (state_of p ups) t (joined_one w x k) stack.frame
    failed-meant = halted-meant Mismatch (Fail (record { 0 = t }) (place_in p t))
        ∙ ap (λ (at : List ℕ). halted Mismatch (Fail (record { 0 = t }) at) (state_of p ups) t (joined_one w x k) (joined_one w x k).mode) text-is

    pub trapped-meant : state_of (core_trapped t p) ups ≡ trapped p.program (state_of p ups) t (joined_one w x k) stack.frame
    trapped-meant = halted-meant Other (Trap (record { 0 = t }) (place_in p t))
        ∙ ap (λ (at : List ℕ). halted Other (Trap (record { 0 = t }) at) (state_of p ups) t (joined_one w x k) (joined_one w x k).mode) text-is

  pub failed-tied : IsTied p → IsTied (core_failed t p)
  failed-tied tied = halted-tied Mismatch (Fail (record { 0 = t }) (place_in p t)) tied

  pub trapped-tied : IsTied p → IsTied (core_trapped t p)
  trapped-tied tied = halted-tied Other (Trap (record { 0 = t }) (place_in p t)) tied
