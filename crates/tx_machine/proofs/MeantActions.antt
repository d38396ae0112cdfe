-- What a thread does alone, in all parts, is what the definitions make of its action.
use Rattle.std.proofs.Common.{ℕ, ◌≡◌, ◌∙◌, Bool, true, false, List, [], ◌∷◌, ◌++◌, Option, Some, None, refl, ap, sym, subst}
use Rattle.std.specs.Option.{is_some, option_map_or}
use Rattle.ir_core.specs.declared.types.Loc.{Loc}
use Rattle.ir_core.specs.declared.values.Side.{Side}
use Rattle.ir_layout.specs.declared.spans.Span.{Span}
use Rattle.ir_layout.specs.Memory.{is_valid}
use Rattle.mem_image.specs.Bytes.{Memory}
use Rattle.mem_image.specs.Touches.{Touch, Store}
use Rattle.inst_meaning.specs.Accesses.{word_read}
use Rattle.inst_meaning.specs.declared.actions.Action.{Action}
use Rattle.inst_meaning.specs.declared.actions.Action.TheVariants.{Assign, Reserve, Read, Write, Update, Pass, Jump, Call, Ask, Create, Join, Exit, Return, Fault}
use Rattle.inst_meaning.specs.declared.actions.Cause.{Cause}
use Rattle.process.specs.declared.state.CallStack.{CallStack}
use Rattle.process.specs.declared.state.Thread.{Thread}
use Rattle.process.specs.declared.state.Thread.TheVariants.{Running}
use Rattle.process.specs.code.Moves.{where_done}
use Rattle.process.specs.code.Threads.{outside_of}
use Rattle.process.specs.Outcome.{Effect, Outcome, failure, thread_after, touch_at, touch_of, store_of, goes_unless, outcome_of}
use Rattle.hard_ir.specs.Hardened.{HardParts}
use Rattle.hard_frames.specs.declared.state.Frame.{Frame}
use Rattle.hard_frames.specs.Frames.{frames}
use Rattle.elide.specs.Watches.{WatchParts}
use Rattle.rtm_core.specs.Calls.{got_of}
use Rattle.rtm_core.specs.Transactions.Entry.{Invalid, Full, Entered}
use Rattle.rtm_core.specs.Transactions as rtm
use Rattle.rtm_core.specs.Transactions.{Transaction, RtmParts, Entry, entry_if, entry_of, seen_by}
use Rattle.tx_runtime.specs.declared.words.Mode as runtime
use Rattle.tx_runtime.specs.declared.words.Mode.TheVariants.{Out, In, Plain}
use Rattle.hard_meaning.specs.State.{Mode, Free, Inside, Worker, State, Upset, seen, seen_in}
use Rattle.hard_meaning.specs.Aborts.{aborted, Overflow}
use Rattle.hard_meaning.specs.Effects.{with_worker, mode_after, turns_after, did, has_room_in, where_room, tried}
use Rattle.hard_meaning.specs.Locks.{MutexCall}
use Rattle.hard_meaning.specs.Turns.{settled, acted_by, acted}
use Rattle.tx_machine.specs.Own.{OwnParts, once_pending, failure_in, moved_thread}
use Rattle.tx_machine.specs.Joined.{joined_one, is_in}
use Rattle.tx_machine.specs.Resolved.{resolved}
use Rattle.tx_machine.specs.Core.{CoreParts, with_own, is_open, core_aborted, touched_as, failure_at, core_moved, core_done, told_as, core_told, core_accessed, took, finished_as, core_finished, alone_as, core_alone}
use Rattle.tx_machine.specs.Meant.{state_of, IsTied, StandsAt}
use Rattle.tx_machine.proofs.Meant.{thread-is, open-is, stays, own-meant, own-tied, own-stands}
use Rattle.tx_machine.proofs.MeantAborts.{in_mode, aborted-meant, aborted-tied, trapped-meant, trapped-tied}
use Rattle.tx_machine.proofs.MeantPasses.{with_thread, thread-joined, thread-meant, thread-tied}
use Rattle.tx_machine.proofs.MeantEnds.{twice}
use Rattle.tx_machine.proofs.MeantTouches.{touched-meant, touched-tied}
use Rattle.tx_machine.proofs.MeantAlone.{fails-resolved, after-resolved, valid-touch, no-mutex, outcome-alone, no-store, moved_on, moved_state, did-after, full-after, alone-after}

-- ---- a turn is told

abbrev pub told_one : Bool → Bool → OwnParts → OwnParts
told_one true true w = once_pending w
told_one true false w = w
told_one false inside w = w

abbrev pub told_turns : Bool → Bool → ℕ → List ℕ → List ℕ
told_turns true true t turns = turns
told_turns true false t turns = turns ++ t ∷ []
told_turns false inside t turns = turns

abbrev pub told_by : Bool → Bool → ℕ → CoreParts → CoreParts
told_by true inside t p = told_as inside t p
told_by false inside t p = p

pub told-by : (retires : Bool) (t : ℕ) (p : CoreParts) → core_told retires t p ≡ told_by retires (is_open p t) t p
told-by true t p = refl
told-by false t p = refl

pub told-rtm : (retires inside : Bool) (t : ℕ) (p : CoreParts) → (told_by retires inside t p).rtm ≡ p.rtm
told-rtm true true t p = refl
told-rtm true false t p = refl
told-rtm false inside t p = refl

pub told-program : (retires inside : Bool) (t : ℕ) (p : CoreParts) → (told_by retires inside t p).program ≡ p.program
told-program true true t p = refl
told-program true false t p = refl
told-program false inside t p = refl

pub told-thread : (retires inside : Bool) (w : OwnParts) → (told_one retires inside w).thread ≡ w.thread
told-thread true true w = refl
told-thread true false w = refl
told-thread false inside w = refl

pub told-mode : (mode : runtime.Mode) (retires : Bool) (w : OwnParts) (x : Option (Transaction (CallStack Frame))) (k : WatchParts)
    → joined_one (told_one retires (is_some x) (in_mode mode w)) x k
    ≡ record (joined_one (in_mode mode w) x k) { mode = mode_after retires None None (joined_one (in_mode mode w) x k).mode }
told-mode Out true w None k = refl
told-mode Out true w (Some tx) k = refl
told-mode Out false w x k = refl
told-mode Plain true w None k = refl
told-mode Plain true w (Some tx) k = refl
told-mode Plain false w x k = refl
told-mode In true w None k = refl
told-mode In true w (Some tx) k = refl
told-mode In false w None k = refl
told-mode In false w (Some tx) k = refl

pub told-turns : (mode : runtime.Mode) (retires : Bool) (w : OwnParts) (x : Option (Transaction (CallStack Frame))) (k : WatchParts) (t : ℕ) (turns : List ℕ) → is_some x ≡ is_in mode
    → told_turns retires (is_some x) t turns ≡ turns_after (joined_one (in_mode mode w) x k).mode retires t turns
told-turns Out true w None k t turns e = refl
told-turns Out true w (Some tx) k t turns e = cc
told-turns Out false w x k t turns e = refl
told-turns Plain true w None k t turns e = refl
told-turns Plain true w (Some tx) k t turns e = cc
told-turns Plain false w x k t turns e = refl
told-turns In true w None k t turns e = cc
told-turns In true w (Some tx) k t turns e = refl
told-turns In false w None k t turns e = refl
told-turns In false w (Some tx) k t turns e = refl

pub room-mode : (mode : runtime.Mode) (w : OwnParts) (x : Option (Transaction (CallStack Frame))) (k : WatchParts) (touch : Touch) → is_some x ≡ is_in mode
    → rtm.has_room_in touch x ≡ has_room_in (joined_one (in_mode mode w) x k).mode (Some touch)
room-mode Out w None k touch e = refl
room-mode Out w (Some tx) k touch e = cc
room-mode Plain w None k touch e = refl
room-mode Plain w (Some tx) k touch e = cc
room-mode In w None k touch e = refl
room-mode In w (Some tx) k touch e = refl

seen-mode : (mode : runtime.Mode) (w : OwnParts) (x : Option (Transaction (CallStack Frame))) (k : WatchParts) (mem : Memory) → is_some x ≡ is_in mode
    → rtm.seen_in x mem ≡ seen_in (joined_one (in_mode mode w) x k).mode mem
seen-mode Out w None k mem e = refl
seen-mode Out w (Some tx) k mem e = cc
seen-mode Plain w None k mem e = refl
seen-mode Plain w (Some tx) k mem e = cc
seen-mode In w None k mem e = refl
seen-mode In w (Some tx) k mem e = refl

module _ (p : CoreParts) (t : ℕ) (w : OwnParts) (k : WatchParts) (ups : List Upset) where
  abbrev pub told_state : Bool → Option (Transaction (CallStack Frame)) → Worker → State
  told_state retires x v = record (with_worker (state_of p ups) t v) { turns = told_turns retires (is_some x) t p.turns }

  pub told-base : (retires : Bool) (x : Option (Transaction (CallStack Frame))) → StandsAt p t w x k
      → state_of (told_by retires (is_some x) t p) ups ≡ told_state retires x (joined_one (told_one retires (is_some x) w) x k)
  told-base true None at = ap (λ (s : State). record s { turns = p.turns ++ t ∷ [] }) (sym (stays p t w None k at ups))
  told-base true (Some tx) at = own-meant p t w (Some tx) k at ups once_pending
  told-base false x at = sym (stays p t w x k at ups)

  pub told-stands : (retires : Bool) (x : Option (Transaction (CallStack Frame))) → StandsAt p t w x k
      → StandsAt (told_by retires (is_some x) t p) t (told_one retires (is_some x) w) x k
  told-stands true None at = record { made = at.made; open_there = at.open_there; watching = at.watching; tied = at.tied }
  told-stands true (Some tx) at = own-stands p t w (Some tx) k at ups once_pending refl
  told-stands false x at = at

  pub told-tied : (retires : Bool) (x : Option (Transaction (CallStack Frame))) → StandsAt p t w x k → IsTied p → IsTied (told_by retires (is_some x) t p)
  told-tied true None at tied = record { threads = tied.threads; watches = tied.watches; own = tied.own; tied = tied.tied }
  told-tied true (Some tx) at tied = own-tied p t w (Some tx) k at ups once_pending refl tied
  told-tied false x at tied = tied

-- ---- and the thread has moved on

module _ (p : CoreParts) (t : ℕ) (w : OwnParts) (x : Option (Transaction (CallStack Frame))) (k : WatchParts) (at : StandsAt p t w x k) (ups : List Upset)
    (retires : Bool) (g : Thread Frame → Thread Frame) where
  abbrev pub told : CoreParts
  told = told_by retires (is_some x) t p

  abbrev pub told_own : OwnParts
  told_own = told_one retires (is_some x) w

  abbrev pub moved : CoreParts
  moved = with_own t (with_thread g) told

  abbrev pub moved_own : OwnParts
  moved_own = with_thread g told_own

  abbrev pub worker : Worker
  worker = joined_one w x k

  pub moved-stands : StandsAt moved t moved_own x k
  moved-stands = own-stands told t told_own x k (told-stands p t w k ups retires x at) ups (with_thread g) refl

  pub moved-tied : IsTied p → IsTied moved
  moved-tied tied = thread-tied told t told_own x k (told-stands p t w k ups retires x at) ups g (told-tied p t w k ups retires x at tied)

  pub told-worker : record (joined_one told_own x k) { thread = g told_own.thread } ≡ moved_on (state_of p ups) t worker retires (g w.thread)
  told-worker = ap (λ (v : Worker). record v { thread = g told_own.thread }) (told-mode w.words.mode retires w x k)
      ∙ ap (λ (th : Thread Frame). moved_on (state_of p ups) t worker retires (g th)) (told-thread retires (is_some x) w)

  pub moved-worker : joined_one moved_own x k ≡ moved_on (state_of p ups) t worker retires (g w.thread)
  moved-worker = thread_joined ∙ told-worker
    where
      thread_joined : joined_one moved_own x k ≡ record (joined_one told_own x k) { thread = g told_own.thread }
      thread_joined = thread-joined g told_own x k

  pub moved-meant : state_of moved ups ≡ moved_state (state_of p ups) t worker retires (g w.thread)
  moved-meant =
      let v : Worker = moved_on (state_of p ups) t worker retires (g w.thread) in
      thread-meant told t told_own x k (told-stands p t w k ups retires x at) ups g
      ∙ ap (λ (u : Worker). with_worker (state_of told ups) t u) told-worker
      ∙ ap (λ (s : State). with_worker s t v) (told-base p t w k ups retires x at)
      ∙ ap (λ (s : State). record s { turns = told_turns retires (is_some x) t p.turns }) (twice (state_of p ups) t (joined_one told_own x k) v)
      ∙ ap (λ (ts : List ℕ). record (with_worker (state_of p ups) t v) { turns = ts }) (told-turns w.words.mode retires w x k t p.turns at.tied)

  pub moved-rtm : moved.rtm ≡ p.rtm
  moved-rtm = told-rtm retires (is_some x) t p

  pub moved-world : moved.world ≡ p.world
  moved-world = told_world retires (is_some x)
    where
      told_world : (b c : Bool) → (told_by b c t p).world ≡ p.world
      told_world true true = refl
      told_world true false = refl
      told_world false c = refl

  pub moved-own-thread : moved_own.thread ≡ g w.thread
  moved-own-thread = ap g (told-thread retires (is_some x) w)

-- ---- and memory is touched

abbrev pub takes : Entry → Bool
takes Invalid = true
takes Full = false
takes Entered = true

pub took-of : (entry : Entry) (n : ℕ) → took (got_of entry n) ≡ takes entry
took-of Invalid n = refl
took-of Full n = refl
took-of Entered n = refl

finished-none : (action : Action) (t : ℕ) (q : CoreParts) → touch_of action ≡ None → core_finished action t q ≡ q
finished-none (Read place atomic) t q e = cc
finished-none (Write place n atomic) t q e = cc
finished-none (Update place update) t q e = cc
finished-none (Assign n) t q e = refl
finished-none (Reserve n) t q e = refl
finished-none Pass t q e = refl
finished-none (Jump label) t q e = refl
finished-none (Call n words) t q e = refl
finished-none (Ask request) t q e = refl
finished-none (Create address n argument) t q e = refl
finished-none (Join other) t q e = refl
finished-none (Exit code) t q e = refl
finished-none (Return n) t q e = refl
finished-none (Fault cause) t q e = refl

abbrev finished_with : Entry → Touch → Option Store → ℕ → CoreParts → CoreParts
finished_with entry touch store t q = finished_as (takes entry) t (touched_as entry touch store t q)

module _ (t : ℕ) (q : CoreParts) where
  abbrev IsFinished : Action → Touch → Type 0
  IsFinished action touch = core_finished action t q ≡ finished_with (entry_of q.rtm t touch) touch (store_of action (word_read (seen_by q.rtm t) action)) t q

  finished-some : (action : Action) (touch : Touch) → touch_of action ≡ Some touch → IsFinished action touch
  finished-some (Read place atomic) touch e =
      let same : touch_at place true false ≡ touch = cc in
      subst (IsFinished (Read place atomic)) same
      (ap (λ (b : Bool). finished_as b t (core_accessed (Read place atomic) t q)) (took-of (entry_of q.rtm t (touch_at place true false)) (word_read (seen_by q.rtm t) (Read place atomic))))
  finished-some (Write place n atomic) touch e =
      let same : touch_at place false true ≡ touch = cc in
      subst (IsFinished (Write place n atomic)) same
      (ap (λ (b : Bool). finished_as b t (core_accessed (Write place n atomic) t q)) (took-of (entry_of q.rtm t (touch_at place false true)) n))
  finished-some (Update place update) touch e =
      let same : touch_at place true true ≡ touch = cc in
      subst (IsFinished (Update place update)) same
      (ap (λ (b : Bool). finished_as b t (core_accessed (Update place update) t q)) (took-of (entry_of q.rtm t (touch_at place true true)) (word_read (seen_by q.rtm t) (Update place update))))
  finished-some (Assign n) touch e = cc
  finished-some (Reserve n) touch e = cc
  finished-some Pass touch e = cc
  finished-some (Jump label) touch e = cc
  finished-some (Call n words) touch e = cc
  finished-some (Ask request) touch e = cc
  finished-some (Create address n argument) touch e = cc
  finished-some (Join other) touch e = cc
  finished-some (Exit code) touch e = cc
  finished-some (Return n) touch e = cc
  finished-some (Fault cause) touch e = cc

pub places-same : (x : Option (Transaction (CallStack Frame))) (mem : Memory) → (rtm.seen_in x mem).places ≡ mem.places
places-same None mem = refl
places-same (Some tx) mem = refl

pub no-touch-room : (m : Mode) → has_room_in m None ≡ true
no-touch-room (Free plain) = refl
no-touch-room (Inside tx) = refl

pub acted-none : (h : HardParts) (s : State) (t : ℕ) (w : Worker) (stack : CallStack Frame) (target : Option (Side × Loc)) (retires : Bool) (action : Action) (m : Mode)
    → acted_by h s t w stack target retires action m None ≡ settled h s t w stack.frame retires None (outcome_of (frames h) (seen s w.mode) t target stack action)
acted-none h s t w stack target retires action (Free plain) = refl
acted-none h s t w stack target retires action (Inside tx) = refl

module _ (p : CoreParts) (t : ℕ) (w : OwnParts) (x : Option (Transaction (CallStack Frame))) (k : WatchParts) (at : StandsAt p t w x k) (ups : List Upset)
    (retires : Bool) (g : Thread Frame → Thread Frame) (thread : Thread Frame) (is : g w.thread ≡ thread) where
  abbrev q : CoreParts
  q = moved p t w x k at ups retires g

  abbrev v : OwnParts
  v = moved_own p t w x k at ups retires g

  abbrev s : State
  s = state_of p ups

  abbrev one : Worker
  one = joined_one w x k

  abbrev pub effect_with : Option Touch → Option Store → Effect Frame
  effect_with touch store = record { thread = thread; world = p.world; born = None; touch = touch; store = store }

  q-meant : state_of q ups ≡ moved_state s t one retires thread
  q-meant = moved-meant p t w x k at ups retires g ∙ ap (λ (th : Thread Frame). moved_state s t one retires th) is

  v-is : joined_one v x k ≡ moved_on s t one retires thread
  v-is = moved-worker p t w x k at ups retires g ∙ ap (λ (th : Thread Frame). moved_on s t one retires th) is

  alone-tried : state_of q ups ≡ tried s t one retires None (effect_with None None)
  alone-tried = q-meant ∙ alone-after s t one retires thread
      ∙ ap (λ (b : Bool). where_room b s t one (did s t one retires None (effect_with None None))) (sym (no-touch-room one.mode))

  module _ (touch : Touch) (store : Option Store) where
    pub done-q : state_of (touched_as Entered touch store t q) ups ≡ did s t one retires None (effect_with (Some touch) store)
    done-q =
        let effect_of : Thread Frame → Effect Frame = λ th. record { thread = th; world = p.world; born = None; touch = Some touch; store = store } in
        touched-meant q t v x k (moved-stands p t w x k at ups retires g) ups touch store
        ∙ ap (λ wo. did (state_of q ups) t (joined_one v x k) false None (record (effect_of v.thread) { world = wo })) (moved-world p t w x k at ups retires g)
        ∙ ap (λ (th : Thread Frame). did (state_of q ups) t (joined_one v x k) false None (effect_of th)) (moved-own-thread p t w x k at ups retires g ∙ is)
        ∙ ap (λ (z : State). did z t (joined_one v x k) false None (effect_of thread)) q-meant
        ∙ ap (λ (u : Worker). did (moved_state s t one retires thread) t u false None (effect_of thread)) v-is
        ∙ did-after s t one retires thread touch store

    pub full-q : has_room_in one.mode (Some touch) ≡ false → state_of (core_aborted Overflow t q) ups ≡ with_worker s t (aborted Overflow one)
    full-q e = aborted-meant q t v x k (moved-stands p t w x k at ups retires g) ups Overflow
        ∙ ap (λ (z : State). with_worker z t (aborted Overflow (joined_one v x k))) q-meant
        ∙ ap (λ (u : Worker). with_worker (moved_state s t one retires thread) t (aborted Overflow u)) v-is
        ∙ full-after s t one retires thread touch e

    by-room : (b : Bool) → has_room_in one.mode (Some touch) ≡ b
        → state_of (finished_with (entry_if true b) touch store t q) ups ≡ where_room b s t one (did s t one retires None (effect_with (Some touch) store))
    by-room true e = done-q
    by-room false e = full-q e

    touch-tried : state_of (finished_with (entry_if true (has_room_in one.mode (Some touch))) touch store t q) ups ≡ tried s t one retires None (effect_with (Some touch) store)
    touch-tried = by-room (has_room_in one.mode (Some touch)) refl

    with-tied : (entry : Entry) → IsTied p → IsTied (finished_with entry touch store t q)
    with-tied Invalid tied = moved-tied p t w x k at ups retires g tied
    with-tied Full tied = aborted-tied q t v x k (moved-stands p t w x k at ups retires g) ups Overflow (moved-tied p t w x k at ups retires g tied)
    with-tied Entered tied = touched-tied q t v x k (moved-stands p t w x k at ups retires g) ups touch store (moved-tied p t w x k at ups retires g tied)

  finish-tied : (action : Action) (o : Option Touch) → touch_of action ≡ o → IsTied p → IsTied (core_finished action t q)
  finish-tied action None e tied = subst IsTied (sym (finished-none action t q e)) (moved-tied p t w x k at ups retires g tied)
  finish-tied action (Some touch) e tied = subst IsTied (sym (finished-some t q action touch e))
      (with-tied touch (store_of action (word_read (seen_by q.rtm t) action)) (entry_of q.rtm t touch) tied)

  -- an action that can be done
  module _ (action : Action) (stack : CallStack Frame) (target : Option (Side × Loc))
      (can : failure (frames p.program) (seen_by p.rtm t).places t stack action ≡ None) where
    entry-is : (touch : Touch) → touch_of action ≡ Some touch → entry_of q.rtm t touch ≡ entry_if true (has_room_in one.mode (Some touch))
    entry-is touch e =
        ap (λ (r : RtmParts (CallStack Frame)). entry_of r t touch) (moved-rtm p t w x k at ups retires g)
        ∙ ap (λ (places : List Span). entry_if (is_valid places touch.address touch.size) (rtm.has_room_in touch (rtm.thread p.rtm t))) (sym (places-same (rtm.thread p.rtm t) p.rtm.memory))
        ∙ ap (λ (b : Bool). entry_if b (rtm.has_room_in touch (rtm.thread p.rtm t))) (valid-touch p.program t target stack (seen_by p.rtm t).places action touch e can)
        ∙ ap (λ (o : Option (Transaction (CallStack Frame))). entry_if true (rtm.has_room_in touch o)) (thread-is p t w x k at ups)
        ∙ ap (λ (b : Bool). entry_if true b) (room-mode w.words.mode w x k touch at.tied)

    finish-meant : (o : Option Touch) → touch_of action ≡ o
        → state_of (core_finished action t q) ups ≡ tried s t one retires None (effect_with (touch_of action) (store_of action (word_read (seen_by p.rtm t) action)))
    finish-meant None e =
        ap (λ (z : CoreParts). state_of z ups) (finished-none action t q e) ∙ alone-tried
        ∙ ap (λ (st : Option Store). tried s t one retires None (effect_with None st)) (sym (no-store action (word_read (seen_by p.rtm t) action) e))
        ∙ ap (λ (o : Option Touch). tried s t one retires None (effect_with o (store_of action (word_read (seen_by p.rtm t) action)))) (sym e)
    finish-meant (Some touch) e =
        ap (λ (z : CoreParts). state_of z ups) (finished-some t q action touch e)
        ∙ ap (λ (r : RtmParts (CallStack Frame)). state_of (finished_with (entry_of q.rtm t touch) touch (store_of action (word_read (seen_by r t) action)) t q) ups) (moved-rtm p t w x k at ups retires g)
        ∙ ap (λ (en : Entry). state_of (finished_with en touch (store_of action (word_read (seen_by p.rtm t) action)) t q) ups) (entry-is touch e)
        ∙ touch-tried touch (store_of action (word_read (seen_by p.rtm t) action))
        ∙ ap (λ (o : Option Touch). tried s t one retires None (effect_with o (store_of action (word_read (seen_by p.rtm t) action)))) (sym e)

-- ---- all of it

module _ (p : CoreParts) (t : ℕ) (w : OwnParts) (x : Option (Transaction (CallStack Frame))) (k : WatchParts) (at : StandsAt p t w x k) (ups : List Upset)
    (retires : Bool) (target : Option (Side × Loc)) (action : Action) where
  abbrev move : Thread Frame → Thread Frame
  move th = moved_thread p.program t target (resolved (seen_by p.rtm t) action) th

  abbrev told_parts : CoreParts
  told_parts = told p t w x k at ups retires move

  told-is : core_told retires t p ≡ told_parts
  told-is = told-by retires t p ∙ ap (λ (b : Bool). told_by retires b t p) (open-is p t w x k at ups)

  done-is : core_done target action t (core_told retires t p) ≡ moved p t w x k at ups retires move
  done-is = ap (λ (r : CoreParts). core_done target action t r) told-is
      ∙ ap (λ (r : RtmParts (CallStack Frame)). core_moved target (resolved (seen_by r t) action) t told_parts) (told-rtm retires (is_some x) t p)
      ∙ ap (λ (h : HardParts). with_own t (with_thread (moved_thread h t target (resolved (seen_by p.rtm t) action))) told_parts) (told-program retires (is_some x) t p)

  failure-is : failure_at (core_told retires t p) t action ≡ failure_in p.program t w.thread (resolved (seen_by p.rtm t) action)
  failure-is = ap (λ (r : CoreParts). failure_at r t action) told-is
      ∙ ap (λ (o : Option OwnParts). option_map_or (λ (v : OwnParts). failure_in told_parts.program t v.thread (resolved (seen_by told_parts.rtm t) action)) o None)
      (told-stands p t w k ups retires x at).made
      ∙ ap (λ (th : Thread Frame). failure_in told_parts.program t th (resolved (seen_by told_parts.rtm t) action)) (told-thread retires (is_some x) w)
      ∙ ap (λ (r : RtmParts (CallStack Frame)). failure_in told_parts.program t w.thread (resolved (seen_by r t) action)) (told-rtm retires (is_some x) t p)
      ∙ ap (λ (h : HardParts). failure_in h t w.thread (resolved (seen_by p.rtm t) action)) (told-program retires (is_some x) t p)

  tied-by-cause : (o : Option Cause) → IsTied p → IsTied (alone_as o retires target action t p)
  tied-by-cause None tied = subst (λ (r : CoreParts). IsTied (core_finished action t r)) (sym done-is)
      (finish-tied p t w x k at ups retires move (move w.thread) refl action (touch_of action) refl tied)
  tied-by-cause (Some cause) tied = trapped-tied p t w x k at ups tied

  pub alone-tied : IsTied p → IsTied (core_alone retires target action t p)
  alone-tied tied = tied-by-cause (failure_at (core_told retires t p) t action) tied

  -- where it runs
  module _ (stack : CallStack Frame) (runs : w.thread ≡ Running stack) where
    abbrev fails : Option Cause
    fails = failure (frames p.program) (seen_by p.rtm t).places t stack action

    abbrev then_thread : Thread Frame
    then_thread = thread_after (frames p.program) target stack action (word_read (seen_by p.rtm t) action)

    fails-is : failure_at (core_told retires t p) t action ≡ fails
    fails-is = failure-is ∙ ap (λ (th : Thread Frame). failure_in p.program t th (resolved (seen_by p.rtm t) action)) runs
        ∙ fails-resolved p.program t target stack (seen_by p.rtm t) action

    thread-then : fails ≡ None → move w.thread ≡ then_thread
    thread-then e = ap move runs
        ∙ ap (λ (o : Option Cause). where_done o (thread_after (frames p.program) target stack (resolved (seen_by p.rtm t) action) 0) (Running stack))
        (fails-resolved p.program t target stack (seen_by p.rtm t) action ∙ e)
        ∙ after-resolved p.program t target stack (seen_by p.rtm t) action e

    -- what it comes to in this memory
    abbrev outcome_in : Memory → Outcome Frame
    outcome_in mem = goes_unless (failure (frames p.program) mem.places t stack action) (record {
      thread = thread_after (frames p.program) target stack action (word_read mem action);
      world = p.world;
      born = None;
      touch = touch_of action;
      store = store_of action (word_read mem action);
    })

    abbrev effect : Effect Frame
    effect = record {
      thread = then_thread;
      world = p.world;
      born = None;
      touch = touch_of action;
      store = store_of action (word_read (seen_by p.rtm t) action);
    }

    by-cause : (o : Option Cause) → fails ≡ o → state_of (alone_as o retires target action t p) ups
        ≡ settled p.program (state_of p ups) t (joined_one w x k) stack.frame retires None (goes_unless o effect)
    by-cause None e = ap (λ (r : CoreParts). state_of (core_finished action t r) ups) done-is
        ∙ finish-meant p t w x k at ups retires move then_thread (thread-then e) action stack target e (touch_of action) refl
    by-cause (Some cause) e = trapped-meant p t w x k at ups stack runs

    seen-is : seen_by p.rtm t ≡ seen_in (joined_one w x k).mode p.rtm.memory
    seen-is = ap (λ (o : Option (Transaction (CallStack Frame))). rtm.seen_in o p.rtm.memory) (thread-is p t w x k at ups)
        ∙ seen-mode w.words.mode w x k p.rtm.memory at.tied

    pub alone-meant : outside_of action ≡ None → state_of (core_alone retires target action t p) ups
        ≡ acted p.program (state_of p ups) t (joined_one w x k) stack target retires action
    alone-meant out =
        let s : State = state_of p ups in
        let one : Worker = joined_one w x k in
        ap (λ (o : Option Cause). state_of (alone_as o retires target action t p) ups) fails-is ∙ by-cause fails refl
        ∙ ap (λ (mem : Memory). settled p.program s t one stack.frame retires None (outcome_in mem)) seen-is
        ∙ ap (λ (o : Outcome Frame). settled p.program s t one stack.frame retires None o) (sym (outcome-alone p.program s one.mode t target stack action out))
        ∙ sym (acted-none p.program s t one stack target retires action one.mode)
        ∙ ap (λ (c : Option MutexCall). acted_by p.program s t one stack target retires action one.mode c) (sym (no-mutex action out))
