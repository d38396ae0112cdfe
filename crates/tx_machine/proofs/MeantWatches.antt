-- A mutex that is asked for inside by watching it, and requests in either mode, are those of the definitions.
use Rattle.std.proofs.Common.{ℕ, ◌≡◌, ◌∙◌, Bool, true, false, ◌&&◌, List, Option, Some, None, slice_set, refl, ap, sym, subst}
use Rattle.std.specs.Option.{is_some, is_none}
use Rattle.ir_core.specs.declared.types.Loc.{Loc}
use Rattle.ir_core.specs.declared.values.Side.{Side}
use Rattle.inst_meaning.specs.World.{owner_of}
use Rattle.inst_meaning.specs.declared.actions.Action.{Action}
use Rattle.inst_meaning.specs.declared.actions.Action.TheVariants.{Ask}
use Rattle.inst_meaning.specs.declared.actions.Request.{Request}
use Rattle.process.specs.declared.state.CallStack.{CallStack}
use Rattle.process.specs.declared.state.Thread.{Thread}
use Rattle.process.specs.declared.state.Thread.TheVariants.{Running}
use Rattle.process.specs.Outcome.{outcome_of}
use Rattle.hard_ir.specs.Hardened.{HardParts}
use Rattle.hard_frames.specs.declared.state.Frame.{Frame}
use Rattle.hard_frames.specs.Frames.{frames}
use Rattle.elide.specs.Watches.{WatchParts, nothing_watched, can_lock, can_unlock}
use Rattle.rtm_core.specs.Transactions.{Transaction as RtmTransaction}
use Rattle.tx_runtime.specs.declared.words.Mode as runtime
use Rattle.tx_runtime.specs.declared.words.Mode.TheVariants.{Out, In, Plain}
use Rattle.hard_meaning.specs.State.{Transaction, Inside, Worker, State, Upset, seen}
use Rattle.hard_meaning.specs.Effects.{with_worker, mode_after, turns_after}
use Rattle.hard_meaning.specs.Locks.{MutexCall, Locks, Unlocks, mutex_request, taken_by, can_watch, watching}
use Rattle.hard_meaning.specs.Turns.{settled, watched_if, acted_by, acted}
use Rattle.tx_machine.specs.Own.{OwnParts}
use Rattle.tx_machine.specs.Joined.{joined_one, joined, is_in}
use Rattle.tx_machine.specs.Core.{CoreParts}
use Rattle.tx_machine.specs.Turned.{core_called, can_watch_in, once_watching, watching_at, watched_as, core_watched, requested_as, core_request}
use Rattle.tx_machine.specs.Meant.{state_of, IsTied, StandsAt}
use Rattle.tx_machine.proofs.Joined.{set-joined, set-same}
use Rattle.tx_machine.proofs.Meant.{length-set, open-is}
use Rattle.tx_machine.proofs.MeantAborts.{in_mode}
use Rattle.tx_machine.proofs.MeantPasses.{with_thread}
use Rattle.tx_machine.proofs.MeantEnds.{index-there, twice, closed-meant, closed-tied}
use Rattle.tx_machine.proofs.MeantAlone.{moved_on, alone-after}
use Rattle.tx_machine.proofs.MeantActions.{told_by, told_one, moved, moved_own, moved-stands, moved-tied, acted-none}
use Rattle.tx_machine.proofs.MeantCalls.{call_in, called-is, called-moved}
use Rattle.tx_machine.proofs.MeantRequests.{asked-meant, asked-tied}

-- ---- what one thread watches

module _ (p : CoreParts) (t : ℕ) (w : OwnParts) (x : Option (RtmTransaction (CallStack Frame))) (k : WatchParts) (at : StandsAt p t w x k) (ups : List Upset)
    (j : WatchParts) where
  abbrev with_watch : CoreParts
  with_watch = record p { watches = slice_set p.watches t j }

  watch-meant : state_of with_watch ups ≡ with_worker (state_of p ups) t (joined_one w x j)
  watch-meant = ap (λ (ws : List Worker). record (state_of p ups) { workers = ws })
      (ap (λ (ws : List OwnParts). joined ws p.rtm.threads (slice_set p.watches t j)) (sym (set-same p.own t w at.made))
      ∙ ap (λ (xs : List (Option (RtmTransaction (CallStack Frame)))). joined (slice_set p.own t w) xs (slice_set p.watches t j))
      (sym (set-same p.rtm.threads t x at.open_there))
      ∙ set-joined p.own p.rtm.threads p.watches t w x j)

  watch-tied : IsTied p → IsTied with_watch
  watch-tied tied = record { threads = tied.threads; watches = length-set p.watches t j ∙ tied.watches; own = tied.own; tied = tied.tied }

-- ---- one thread inside

abbrev pub tx_of : OwnParts → RtmTransaction (CallStack Frame) → WatchParts → Transaction
tx_of w tx k = record { kept = tx.kept; footprint = tx.footprint; pending = w.pending; struck = w.struck; watched = k.watched; held = k.held }

-- it has watched the mutex, and not yet done the call
abbrev watched_one : MutexCall → Worker → Transaction → Worker
watched_one call v tx = record v { mode = Inside (watching call tx) }

module _ (g : Thread Frame → Thread Frame) (w : OwnParts) (tx : RtmTransaction (CallStack Frame)) (k : WatchParts) where
  abbrev once_done : Bool → MutexCall → Worker → Worker
  once_done retires call v = record v { thread = g w.thread; mode = mode_after retires None None (Inside (watching call (tx_of w tx k))) }

  watch-one : (mode : runtime.Mode) (retires : Bool) (call : MutexCall) → true ≡ is_in mode
      → joined_one (with_thread g (told_one retires true (in_mode mode w))) (Some tx) (once_watching call k)
      ≡ once_done retires call (joined_one (in_mode mode w) (Some tx) k)
  watch-one Out retires call e = cc
  watch-one Plain retires call e = cc
  watch-one In true (Locks address) e = refl
  watch-one In true (Unlocks address) e = refl
  watch-one In false (Locks address) e = refl
  watch-one In false (Unlocks address) e = refl

pub turns-inside : (mode : runtime.Mode) (w : OwnParts) (tx : RtmTransaction (CallStack Frame)) (k : WatchParts) (retires : Bool) (t : ℕ) (turns : List ℕ)
    → true ≡ is_in mode
    → turns_after (joined_one (in_mode mode w) (Some tx) k).mode retires t turns ≡ turns
turns-inside Out w tx k retires t turns e = cc
turns-inside Plain w tx k retires t turns e = cc
turns-inside In w tx k retires t turns e = refl

module _ (h : HardParts) (s : State) (t : ℕ) (stack : CallStack Frame) (target : Option (Side × Loc)) (retires : Bool) (action : Action) (w : OwnParts)
    (k : WatchParts) where
  acted-inside : (mode : runtime.Mode) (tx : RtmTransaction (CallStack Frame)) (call : MutexCall) → true ≡ is_in mode
      → watched_if (can_watch call s.world (tx_of w tx k)) s t (joined_one (in_mode mode w) (Some tx) k) stack target retires call h (tx_of w tx k)
      ≡ acted_by h s t (joined_one (in_mode mode w) (Some tx) k) stack target retires action (joined_one (in_mode mode w) (Some tx) k).mode (Some call)
  acted-inside Out tx call e = cc
  acted-inside Plain tx call e = cc
  acted-inside In tx call e = refl

  acted-outside : (mode : runtime.Mode) (call : Option MutexCall)
      → settled h s t (joined_one (in_mode mode w) None k) stack.frame retires (taken_by call)
      (outcome_of (frames h) (seen s (joined_one (in_mode mode w) None k).mode) t target stack action)
      ≡ acted_by h s t (joined_one (in_mode mode w) None k) stack target retires action (joined_one (in_mode mode w) None k).mode call
  acted-outside Out call = refl
  acted-outside In call = refl
  acted-outside Plain call = refl

-- ---- in all parts

module _ (p : CoreParts) (t : ℕ) (w : OwnParts) (tx : RtmTransaction (CallStack Frame)) (k : WatchParts) (at : StandsAt p t w (Some tx) k) (ups : List Upset)
    (retires : Bool) (target : Option (Side × Loc)) (call : MutexCall) where
  abbrev call_of : Thread Frame → Thread Frame
  call_of = call_in p t w (Some tx) k at ups retires target 0

  abbrev done_parts : CoreParts
  done_parts = moved p t w (Some tx) k at ups retires call_of

  watches-same : (b : Bool) → (told_by b true t p).watches ≡ p.watches
  watches-same true = refl
  watches-same false = refl

  can-locks : (c : MutexCall) → can_watch_in c t p ≡ can_watch c p.world (tx_of w tx k)
  can-locks (Locks address) =
      ap (λ (j : WatchParts). is_none (owner_of p.world.owners address) && can_lock j address) (index-there p.watches t k nothing_watched at.watching)
  can-locks (Unlocks address) = ap (λ (j : WatchParts). can_unlock j address) (index-there p.watches t k nothing_watched at.watching)

  watching-is : watching_at call t (core_called retires target 0 t p) ≡ record done_parts { watches = slice_set done_parts.watches t (once_watching call k) }
  watching-is = ap (λ (q : CoreParts). watching_at call t q) (called-is p t w (Some tx) k at ups retires target 0)
      ∙ ap (λ (j : WatchParts). record done_parts { watches = slice_set done_parts.watches t (once_watching call j) })
      (index-there done_parts.watches t k nothing_watched (moved-stands p t w (Some tx) k at ups retires call_of).watching)

  watching-tied : (b : Bool) → IsTied p → IsTied (watched_as b call retires target t p)
  watching-tied true tied = subst IsTied (sym watching-is)
      (watch-tied done_parts t (moved_own p t w (Some tx) k at ups retires call_of) (Some tx) k (moved-stands p t w (Some tx) k at ups retires call_of) ups
      (once_watching call k)
      (moved-tied p t w (Some tx) k at ups retires call_of tied))
  watching-tied false tied = closed-tied p t w (Some tx) k at ups tied

  watched-tied : IsTied p → IsTied (core_watched call retires target t p)
  watched-tied tied = watching-tied (can_watch_in call t p) tied

  -- where it runs
  module _ (stack : CallStack Frame) (runs : w.thread ≡ Running stack) where
    abbrev s : State
    s = state_of p ups

    abbrev one : Worker
    one = joined_one w (Some tx) k

    abbrev then_thread : Thread Frame
    then_thread = call_of (Running stack)

    abbrev v : Worker
    v = watched_one call one (tx_of w tx k)

    watched-by : (b : Bool) → state_of (watched_as b call retires target t p) ups ≡ watched_if b s t one stack target retires call p.program (tx_of w tx k)
    watched-by true =
        let f : State → Worker → State = λ z u. with_worker z t u in
        ap (λ (q : CoreParts). state_of q ups) watching-is
        ∙ watch-meant done_parts t (moved_own p t w (Some tx) k at ups retires call_of) (Some tx) k (moved-stands p t w (Some tx) k at ups retires call_of) ups
        (once_watching call k)
        ∙ ap (λ (u : Worker). f (state_of done_parts ups) u) (watch-one call_of w tx k w.words.mode retires call at.tied)
        ∙ ap (λ (th : Thread Frame). f (state_of done_parts ups) (record (moved_on s t v retires then_thread) { thread = call_of th })) runs
        ∙ ap (λ (q : CoreParts). f (state_of q ups) (moved_on s t v retires then_thread)) (sym (called-is p t w (Some tx) k at ups retires target 0))
        ∙ ap (λ (z : State). f z (moved_on s t v retires then_thread)) (called-moved p t w (Some tx) k at ups retires target 0 stack runs)
        ∙ ap (λ (z : State). record z { turns = turns_after one.mode retires t s.turns })
        (twice s t (moved_on s t one retires then_thread) (moved_on s t v retires then_thread))
        ∙ ap (λ (ts : List ℕ). record (f s (moved_on s t v retires then_thread)) { turns = ts }) (turns-inside w.words.mode w tx k retires t s.turns at.tied)
        ∙ alone-after s t v retires then_thread
    watched-by false = closed-meant p t w (Some tx) k at ups

    watched-meant : (action : Action) → state_of (core_watched call retires target t p) ups
        ≡ acted_by p.program s t one stack target retires action one.mode (Some call)
    watched-meant action = watched-by (can_watch_in call t p)
        ∙ ap (λ (b : Bool). watched_if b s t one stack target retires call p.program (tx_of w tx k)) (can-locks call)
        ∙ acted-inside p.program s t stack target retires action w k w.words.mode tx call at.tied

-- ---- a request in either mode

module _ (p : CoreParts) (t : ℕ) (w : OwnParts) (k : WatchParts) (ups : List Upset) (retires : Bool) (target : Option (Side × Loc)) (request : Request) where
  by-tied : (x : Option (RtmTransaction (CallStack Frame))) (call : Option MutexCall) → StandsAt p t w x k → IsTied p
      → IsTied (requested_as (is_some x) call retires target request t p)
  by-tied None call at tied = asked-tied p t w None k at ups retires target request tied
  by-tied (Some tx) None at tied = asked-tied p t w (Some tx) k at ups retires target request tied
  by-tied (Some tx) (Some call) at tied = watched-tied p t w tx k at ups retires target call tied

  module _ (stack : CallStack Frame) (runs : w.thread ≡ Running stack) (tied : IsTied p) where
    by-mode : (x : Option (RtmTransaction (CallStack Frame))) (call : Option MutexCall) → mutex_request request ≡ call → StandsAt p t w x k
        → state_of (requested_as (is_some x) call retires target request t p) ups
        ≡ acted_by p.program (state_of p ups) t (joined_one w x k) stack target retires (Ask request) (joined_one w x k).mode call
    by-mode None call e at = asked-meant p t w None k at ups retires target request stack runs tied
        ∙ acted-outside p.program (state_of p ups) t stack target retires (Ask request) w k w.words.mode (mutex_request request)
        ∙ ap (λ (c : Option MutexCall). acted_by p.program (state_of p ups) t (joined_one w None k) stack target retires (Ask request)
        (joined_one w None k).mode c) e
    by-mode (Some tx) None e at =
        let s : State = state_of p ups in
        let one : Worker = joined_one w (Some tx) k in
        asked-meant p t w (Some tx) k at ups retires target request stack runs tied
        ∙ ap (λ (c : Option MutexCall). settled p.program s t one stack.frame retires (taken_by c)
        (outcome_of (frames p.program) (seen s one.mode) t target stack (Ask request))) e
        ∙ sym (acted-none p.program s t one stack target retires (Ask request) one.mode)
    by-mode (Some tx) (Some call) e at = watched-meant p t w tx k at ups retires target call stack runs (Ask request)

module _ (p : CoreParts) (t : ℕ) (w : OwnParts) (x : Option (RtmTransaction (CallStack Frame))) (k : WatchParts) (at : StandsAt p t w x k) (ups : List Upset)
    (retires : Bool) (target : Option (Side × Loc)) (request : Request) where
  pub request-tied : IsTied p → IsTied (core_request retires target request t p)
  request-tied tied = subst (λ (b : Bool). IsTied (requested_as b (mutex_request request) retires target request t p)) (sym (open-is p t w x k at ups))
      (by-tied p t w k ups retires target request x (mutex_request request) at tied)

  -- where it runs
  pub request-meant : (stack : CallStack Frame) → w.thread ≡ Running stack → IsTied p → state_of (core_request retires target request t p) ups
      ≡ acted p.program (state_of p ups) t (joined_one w x k) stack target retires (Ask request)
  request-meant stack runs tied = ap (λ (b : Bool). state_of (requested_as b (mutex_request request) retires target request t p) ups) (open-is p t w x k at ups)
      ∙ by-mode p t w k ups retires target request stack runs tied x (mutex_request request) refl at
