-- A thread that ends is that of the definitions.
use Rattle.std.proofs.Common.{ℕ, zero, suc, ◌≡◌, ◌∙◌, ◌+◌, ◌%◌, ◌^◌, Bool, true, false, List, [], ◌∷◌, ◌++◌, append_assoc, Option, Some, None, slice_set, refl, ap, sym, subst, arith}
use Rattle.std.specs.Prelude.{replicate}
use Rattle.std.specs.Option.{is_some}
use Rattle.std.proofs.lemmas.List.{replicate-append-replicate}
use Rattle.process.specs.declared.state.CallStack.{CallStack}
use Rattle.process.specs.declared.state.Thread.{Thread}
use Rattle.process.specs.declared.state.Thread.TheVariants.{Exiting, Ended}
use Rattle.rtm_core.specs.Footprint.{seen_through}
use Rattle.hard_frames.specs.declared.outcome.Stop.{Stop}
use Rattle.hard_frames.specs.declared.outcome.Stop.TheVariants.{End}
use Rattle.hard_frames.specs.declared.state.Frame.{Frame}
use Rattle.elide.specs.Watches.{WatchParts}
use Rattle.rtm_core.specs.Transactions.{Transaction}
use Rattle.hard_meaning.specs.State.{Mode, Free, Inside, Worker, State, Upset}
use Rattle.hard_meaning.specs.Aborts.{Locked, aborted}
use Rattle.hard_meaning.specs.Effects.{with_worker, mode_after, turns_after}
use Rattle.hard_meaning.specs.Runtime.{outside, closed, can_end, where_ends}
use Rattle.hard_meaning.specs.Turns.{left_as, left, exited}
use Rattle.tx_machine.specs.Own.{OwnParts}
use Rattle.tx_machine.specs.Joined.{joined_one}
use Rattle.tx_machine.specs.Core.{CoreParts, core_closed, can_close, core_told}
use Rattle.tx_machine.specs.Turned.{gone_as, gone_if, core_exited}
use Rattle.tx_machine.specs.Meant.{state_of, IsTied, StandsAt}
use Rattle.tx_machine.proofs.Meant.{set-set, open-is}
use Rattle.tx_machine.proofs.MeantEnds.{twice, can-meant, closed-meant, closed-tied, moved-closed, moved-closed-tied, held-closed}
use Rattle.tx_machine.proofs.MeantActions.{told_by, told_one, told_turns, told-by, told-thread, told-mode, told-turns, told-base, told-stands, told-tied}

-- ---- in the definitions

one-more : (n t : ℕ) → replicate (suc n) t ≡ replicate n t ++ t ∷ []
one-more n t =
    let more : suc n ≡ n + 1 = omega arith in
    ap (λ (m : ℕ). replicate m t) more ∙ sym (replicate-append-replicate n 1 t)

-- a turn is told
abbrev told_worker : Worker → Worker
told_worker w = record w { mode = mode_after true None None w.mode }

abbrev told_state : State → ℕ → Worker → State
told_state s t w = record (with_worker s t (told_worker w)) { turns = turns_after w.mode true t s.turns }

-- a turn comes last
abbrev with_turn : ℕ → State → State
with_turn t s = record s { turns = s.turns ++ t ∷ [] }

same-end : (m : Mode) → can_end (mode_after true None None m) ≡ can_end m
same-end (Free plain) = refl
same-end (Inside tx) = refl

closed-in : (m : Mode) (s : State) (t : ℕ) (w : Worker) (thread : Thread Frame)
    → closed (told_state s t (record w { mode = m })) t (mode_after true None None m) (record (told_worker (record w { mode = m })) { thread = thread })
    ≡ with_turn t (closed s t m (record w { thread = thread; mode = m }))
closed-in (Free plain) s t w thread =
    let v : Worker = outside (record w { thread = thread; mode = Free plain }) in
    ap (with_turn t) (twice s t (record w { mode = Free plain }) v)
closed-in (Inside tx) s t w thread =
    let v : Worker = record (outside (record w { thread = thread; mode = Inside tx })) { hits = tx.struck ++ w.hits } in
    let f : List Worker → List ℕ → State = λ ws turns. record s { memory = seen_through tx.footprint s.memory; workers = ws; turns = turns } in
    ap (λ (ws : List Worker). f ws (s.turns ++ replicate (suc tx.pending) t)) (set-set s.workers t (told_worker (record w { mode = Inside tx })) v)
    ∙ ap (λ (ts : List ℕ). f (slice_set s.workers t v) (s.turns ++ ts)) (one-more tx.pending t)
    ∙ ap (λ (ts : List ℕ). f (slice_set s.workers t v) ts) (sym (append_assoc s.turns (replicate tx.pending t) (t ∷ [])))

held-in : (m : Mode) (s : State) (t : ℕ) (w : Worker) → can_end m ≡ false
    → with_worker (told_state s t (record w { mode = m })) t (aborted Locked (told_worker (record w { mode = m })))
    ≡ with_worker s t (aborted Locked (record w { mode = m }))
held-in (Free plain) s t w e = cc
held-in (Inside tx) s t w e =
    let v : Worker = record w { mode = Inside tx } in
    twice s t (told_worker v) (aborted Locked v)

closed-stop : (m : Mode) (s : State) (t : ℕ) (w : Worker) → (closed s t m w).stop ≡ s.stop
closed-stop (Free plain) s t w = refl
closed-stop (Inside tx) s t w = refl

-- ---- in all parts

module _ (p : CoreParts) (t : ℕ) (w : OwnParts) (x : Option (Transaction (CallStack Frame))) (k : WatchParts) (at : StandsAt p t w x k) (ups : List Upset)
    (n : ℕ) where
  abbrev q : CoreParts
  q = told_by true (is_some x) t p

  abbrev v : OwnParts
  v = told_one true (is_some x) w

  abbrev s : State
  s = state_of p ups

  abbrev one : Worker
  one = joined_one w x k

  q-stands : StandsAt q t v x k
  q-stands = told-stands p t w k ups true x at

  q-tied : IsTied p → IsTied q
  q-tied tied = told-tied p t w k ups true x at tied

  told-is : core_told true t p ≡ q
  told-is = told-by true t p ∙ ap (λ (b : Bool). told_by true b t p) (open-is p t w x k at ups)

  v-is : joined_one v x k ≡ told_worker one
  v-is = told-mode w.words.mode true w x k

  q-meant : state_of q ups ≡ told_state s t one
  q-meant = told-base p t w k ups true x at
      ∙ ap (λ (u : Worker). record (with_worker s t u) { turns = told_turns true (is_some x) t p.turns }) v-is
      ∙ ap (λ (ts : List ℕ). record (with_worker s t (told_worker one)) { turns = ts }) (told-turns w.words.mode true w x k t p.turns at.tied)

  can-same : can_close q t ≡ can_close p t
  can-same = can-meant q t v x k q-stands ups ∙ ap (λ (u : Worker). can_end u.mode) v-is ∙ same-end one.mode ∙ sym (can-meant p t w x k at ups)

  closed-then : (thread : Thread Frame) → closed (state_of q ups) t (joined_one v x k).mode (record (joined_one v x k) { thread = thread })
      ≡ with_turn t (closed s t one.mode (record one { thread = thread }))
  closed-then thread = ap (λ (z : State). closed z t (joined_one v x k).mode (record (joined_one v x k) { thread = thread })) q-meant
      ∙ ap (λ (u : Worker). closed (told_state s t one) t u.mode (record u { thread = thread })) v-is
      ∙ closed-in one.mode s t one thread

  held-meant : can_close p t ≡ false → state_of (core_closed t q) ups ≡ with_worker s t (aborted Locked one)
  held-meant e = held-closed q t v x k q-stands ups (can-same ∙ e)
      ∙ ap (λ (z : State). with_worker z t (aborted Locked (joined_one v x k))) q-meant
      ∙ ap (λ (u : Worker). with_worker (told_state s t one) t (aborted Locked u)) v-is
      ∙ held-in one.mode s t one (sym (can-meant p t w x k at ups) ∙ e)

  abbrev left_then : State
  left_then = left t n (closed s t one.mode (record one { thread = left_as t n }))

  -- a thread that hasn't ended yet is an exiting one, and nothing has stopped
  abbrev IsGone : Type 0
  IsGone = w.thread ≡ Exiting n → p.stop ≡ None → can_close p t ≡ true → state_of (gone_as t n (core_closed t q)) ups ≡ left_then

  abbrev IsGoneTied : Type 0
  IsGoneTied = can_close p t ≡ true → IsTied p → IsTied (gone_as t n (core_closed t q))

gone-meant : (t : ℕ) (p : CoreParts) (w : OwnParts) (x : Option (Transaction (CallStack Frame))) (k : WatchParts) (at : StandsAt p t w x k) (ups : List Upset)
    (n : ℕ)
    → IsGone p t w x k at ups n
gone-meant zero p w x k at ups n exits going e =
    let r : CoreParts = q p zero w x k at ups n in
    let v : OwnParts = told_one true (is_some x) w in
    let s : State = state_of p ups in
    let one : Worker = joined_one v x k in
    let can : can_end one.mode ≡ true = sym (can-meant r zero v x k (q-stands p zero w x k at ups n) ups) ∙ can-same p zero w x k at ups n ∙ e in
    ap (λ (z : State). record z { stop = Some (End (n % 2 ^ 32)) })
    (closed-meant r zero v x k (q-stands p zero w x k at ups n) ups
    ∙ ap (λ (b : Bool). where_ends b (state_of r ups) zero one (closed (state_of r ups) zero one.mode one)) can
    ∙ closed-then p zero w x k at ups n v.thread
    ∙ ap (λ (th : Thread Frame). with_turn zero (closed s zero (joined_one w x k).mode (record (joined_one w x k) { thread = th })))
    (told-thread true (is_some x) w ∙ exits))
gone-meant (suc t) p w x k at ups n exits going e =
    let r : CoreParts = q p (suc t) w x k at ups n in
    let v : OwnParts = told_one true (is_some x) w in
    let s : State = state_of p ups in
    let one : Worker = joined_one w x k in
    let then : Worker = record one { thread = Ended } in
    moved-closed r (suc t) v x k (q-stands p (suc t) w x k at ups n) ups (λ (th : Thread Frame). Ended) (can-same p (suc t) w x k at ups n ∙ e)
    ∙ closed-then p (suc t) w x k at ups n Ended
    ∙ ap (λ (o : Option Stop). record (with_turn (suc t) (closed s (suc t) one.mode then)) { stop = o }) (closed-stop one.mode s (suc t) then ∙ going)

gone-tied : (t : ℕ) (p : CoreParts) (w : OwnParts) (x : Option (Transaction (CallStack Frame))) (k : WatchParts) (at : StandsAt p t w x k) (ups : List Upset)
    (n : ℕ)
    → IsGoneTied p t w x k at ups n
gone-tied zero p w x k at ups n e tied =
    let so : IsTied (core_closed zero (q p zero w x k at ups n)) =
    closed-tied (q p zero w x k at ups n) zero (told_one true (is_some x) w) x k (q-stands p zero w x k at ups n) ups (q-tied p zero w x k at ups n tied) in
    record { threads = so.threads; watches = so.watches; own = so.own; tied = so.tied }
gone-tied (suc t) p w x k at ups n e tied =
    moved-closed-tied (q p (suc t) w x k at ups n) (suc t) (told_one true (is_some x) w) x k (q-stands p (suc t) w x k at ups n) ups
    (λ (th : Thread Frame). Ended)
    (can-same p (suc t) w x k at ups n ∙ e) (q-tied p (suc t) w x k at ups n tied)

module _ (p : CoreParts) (t : ℕ) (w : OwnParts) (x : Option (Transaction (CallStack Frame))) (k : WatchParts) (at : StandsAt p t w x k) (ups : List Upset)
    (n : ℕ) where
  abbrev told_parts : CoreParts
  told_parts = q p t w x k at ups n

  by-can : (b : Bool) → can_close p t ≡ b → w.thread ≡ Exiting n → p.stop ≡ None
      → state_of (gone_if b t n (core_closed t told_parts)) ups ≡ where_ends b (state_of p ups) t (joined_one w x k) (left_then p t w x k at ups n)
  by-can true e exits going = gone-meant t p w x k at ups n exits going e
  by-can false e exits going = held-meant p t w x k at ups n e

  can-tied : (b : Bool) → can_close p t ≡ b → IsTied p → IsTied (gone_if b t n (core_closed t told_parts))
  can-tied true e tied = gone-tied t p w x k at ups n e tied
  can-tied false e tied =
      closed-tied told_parts t (told_one true (is_some x) w) x k (q-stands p t w x k at ups n) ups (q-tied p t w x k at ups n tied)

  pub exited-meant : w.thread ≡ Exiting n → p.stop ≡ None → state_of (core_exited n t p) ups ≡ exited (state_of p ups) t (joined_one w x k) n
  exited-meant exits going =
      ap (λ (r : CoreParts). state_of (gone_if (can_close p t) t n (core_closed t r)) ups) (told-is p t w x k at ups n)
      ∙ by-can (can_close p t) refl exits going
      ∙ ap (λ (b : Bool). where_ends b (state_of p ups) t (joined_one w x k) (left_then p t w x k at ups n)) (can-meant p t w x k at ups)

  pub exited-tied : IsTied p → IsTied (core_exited n t p)
  exited-tied tied = subst (λ (r : CoreParts). IsTied (gone_if (can_close p t) t n (core_closed t r))) (sym (told-is p t w x k at ups n))
      (can-tied (can_close p t) refl tied)
