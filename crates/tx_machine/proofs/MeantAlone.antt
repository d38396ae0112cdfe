-- Actions of a thread alone are those of the definitions: they can't be done, find a full list, or are done.
use Rattle.std.proofs.Common.{ℕ, zero, suc, ◌≡◌, ◌∙◌, Bool, true, false, List, [], ◌∷◌, map, Option, Some, None, slice_set, refl, ap, sym, subst}
use Rattle.ir_core.specs.declared.types.Loc.{Loc}
use Rattle.ir_core.specs.declared.values.Side.{Side}
use Rattle.ir_layout.specs.declared.spans.Span.{Span}
use Rattle.ir_layout.specs.Memory.{is_valid}
use Rattle.mem_image.specs.Accesses.{bytes}
use Rattle.mem_image.specs.Bytes.{Memory, peek}
use Rattle.mem_image.specs.Touches.{Touch, Store}
use Rattle.inst_meaning.specs.Accesses.{found, word_read}
use Rattle.inst_meaning.specs.World.{WorldParts}
use Rattle.inst_meaning.specs.declared.actions.Action.{Action}
use Rattle.inst_meaning.specs.declared.actions.Action.TheVariants.{Assign, Reserve, Read, Write, Update, Pass, Jump, Call, Ask, Create, Join, Exit, Return, Fault}
use Rattle.inst_meaning.specs.declared.actions.Cause.{Cause}
use Rattle.inst_meaning.specs.declared.actions.Cause.TheVariants.{Access}
use Rattle.process.specs.declared.state.CallStack.{CallStack}
use Rattle.process.specs.declared.state.Thread.{Thread}
use Rattle.process.specs.code.Threads.{outside_of}
use Rattle.process.specs.Outcome.{Effect, unless, failure, thread_after, touch_at, touch_of, store_of, alone, outcome_of}
use Rattle.hard_ir.specs.Hardened.{HardParts}
use Rattle.hard_frames.specs.declared.state.Frame.{Frame}
use Rattle.hard_frames.specs.Frames.{frames}
use Rattle.hard_meaning.specs.State.{Mode, Free, Inside, Worker, State, seen}
use Rattle.hard_meaning.specs.Aborts.{Claim, spared, aborted, Overflow}
use Rattle.hard_meaning.specs.Effects.{with_worker, mode_after, turns_after, did, has_room_in}
use Rattle.hard_meaning.specs.Locks.{mutex_call}
use Rattle.tx_machine.specs.Resolved.{where_valid, resolved}
use Rattle.tx_machine.proofs.MeantEnds.{twice}

-- ---- actions

module _ (h : HardParts) (t : ℕ) (target : Option (Side × Loc)) (stack : CallStack Frame) where
  abbrev fails : List Span → Action → Option Cause
  fails places action = failure (frames h) places t stack action

  abbrev after_it : Action → ℕ → Thread Frame
  after_it action old = thread_after (frames h) target stack action old

  valid-fails : (b : Bool) (n : ℕ) → fails [] (where_valid b (Assign n)) ≡ unless b Access
  valid-fails true n = refl
  valid-fails false n = refl

  pass-fails : (b : Bool) → fails [] (where_valid b Pass) ≡ unless b Access
  pass-fails true = refl
  pass-fails false = refl

  -- it fails as the action with memory does
  pub fails-resolved : (mem : Memory) (action : Action) → fails [] (resolved mem action) ≡ fails mem.places action
  fails-resolved mem (Read place atomic) = valid-fails (is_valid mem.places place.address (bytes place.size)) (peek mem place.address (bytes place.size))
  fails-resolved mem (Write place n atomic) = pass-fails (is_valid mem.places place.address (bytes place.size))
  fails-resolved mem (Update place update) =
      valid-fails (is_valid mem.places place.address (bytes place.size)) (found update (peek mem place.address (bytes place.size)))
  fails-resolved mem (Assign n) = refl
  fails-resolved mem (Reserve n) = refl
  fails-resolved mem Pass = refl
  fails-resolved mem (Jump label) = refl
  fails-resolved mem (Call n words) = refl
  fails-resolved mem (Ask request) = refl
  fails-resolved mem (Create address n argument) = refl
  fails-resolved mem (Join other) = refl
  fails-resolved mem (Exit code) = refl
  fails-resolved mem (Return n) = refl
  fails-resolved mem (Fault cause) = refl

  valid-after : (b : Bool) (action : Action) → unless b Access ≡ None → after_it (where_valid b action) 0 ≡ after_it action 0
  valid-after true action e = refl
  valid-after false action e = cc

  -- and its thread is the same after it
  pub after-resolved : (mem : Memory) (action : Action) → fails mem.places action ≡ None → after_it (resolved mem action) 0 ≡ after_it action (word_read mem action)
  after-resolved mem (Read place atomic) e = valid-after (is_valid mem.places place.address (bytes place.size)) (Assign (peek mem place.address (bytes place.size))) e
  after-resolved mem (Write place n atomic) e = valid-after (is_valid mem.places place.address (bytes place.size)) Pass e
  after-resolved mem (Update place update) e =
      valid-after (is_valid mem.places place.address (bytes place.size)) (Assign (found update (peek mem place.address (bytes place.size)))) e
  after-resolved mem (Assign n) e = refl
  after-resolved mem (Reserve n) e = refl
  after-resolved mem Pass e = refl
  after-resolved mem (Jump label) e = refl
  after-resolved mem (Call n words) e = refl
  after-resolved mem (Ask request) e = refl
  after-resolved mem (Create address n argument) e = refl
  after-resolved mem (Join other) e = refl
  after-resolved mem (Exit code) e = refl
  after-resolved mem (Return n) e = refl
  after-resolved mem (Fault cause) e = refl

  -- what it touches is valid
  unless-none : (b : Bool) → unless b Access ≡ None → b ≡ true
  unless-none true e = refl
  unless-none false e = cc

  pub valid-touch : (places : List Span) (action : Action) (touch : Touch) → touch_of action ≡ Some touch → fails places action ≡ None
      → is_valid places touch.address touch.size ≡ true
  valid-touch places (Read place atomic) touch e f =
      let same : touch_at place true false ≡ touch = cc in
      subst (λ (z : Touch). is_valid places z.address z.size ≡ true) same (unless-none (is_valid places place.address (bytes place.size)) f)
  valid-touch places (Write place n atomic) touch e f =
      let same : touch_at place false true ≡ touch = cc in
      subst (λ (z : Touch). is_valid places z.address z.size ≡ true) same (unless-none (is_valid places place.address (bytes place.size)) f)
  valid-touch places (Update place update) touch e f =
      let same : touch_at place true true ≡ touch = cc in
      subst (λ (z : Touch). is_valid places z.address z.size ≡ true) same (unless-none (is_valid places place.address (bytes place.size)) f)
  valid-touch places (Assign n) touch e f = cc
  valid-touch places (Reserve n) touch e f = cc
  valid-touch places Pass touch e f = cc
  valid-touch places (Jump label) touch e f = cc
  valid-touch places (Call n words) touch e f = cc
  valid-touch places (Ask request) touch e f = cc
  valid-touch places (Create address n argument) touch e f = cc
  valid-touch places (Join other) touch e f = cc
  valid-touch places (Exit code) touch e f = cc
  valid-touch places (Return n) touch e f = cc
  valid-touch places (Fault cause) touch e f = cc

-- one that needs a thread and memory alone is no call of a mutex
pub no-mutex : (action : Action) → outside_of action ≡ None → mutex_call action ≡ None
no-mutex (Assign n) e = refl
no-mutex (Reserve n) e = refl
no-mutex (Read place atomic) e = refl
no-mutex (Write place n atomic) e = refl
no-mutex (Update place update) e = refl
no-mutex Pass e = refl
no-mutex (Jump label) e = refl
no-mutex (Call n words) e = refl
no-mutex (Ask request) e = cc
no-mutex (Create address n argument) e = refl
no-mutex (Join other) e = refl
no-mutex (Exit code) e = refl
no-mutex (Return n) e = refl
no-mutex (Fault cause) e = refl

-- and comes to this
pub outcome-alone : (h : HardParts) (s : State) (m : Mode) (t : ℕ) (target : Option (Side × Loc)) (stack : CallStack Frame) (action : Action) → outside_of action ≡ None
    → outcome_of (frames h) (seen s m) t target stack action ≡ alone (frames h) (seen s m) t target stack action
outcome-alone h s m t target stack (Assign n) e = refl
outcome-alone h s m t target stack (Reserve n) e = refl
outcome-alone h s m t target stack (Read place atomic) e = refl
outcome-alone h s m t target stack (Write place n atomic) e = refl
outcome-alone h s m t target stack (Update place update) e = refl
outcome-alone h s m t target stack Pass e = refl
outcome-alone h s m t target stack (Jump label) e = refl
outcome-alone h s m t target stack (Call n words) e = refl
outcome-alone h s m t target stack (Ask request) e = cc
outcome-alone h s m t target stack (Create address n argument) e = cc
outcome-alone h s m t target stack (Join other) e = cc
outcome-alone h s m t target stack (Exit code) e = cc
outcome-alone h s m t target stack (Return n) e = refl
outcome-alone h s m t target stack (Fault cause) e = refl

pub no-store : (action : Action) (n : ℕ) → touch_of action ≡ None → store_of action n ≡ None
no-store (Assign m) n e = refl
no-store (Reserve m) n e = refl
no-store (Read place atomic) n e = refl
no-store (Write place m atomic) n e = cc
no-store (Update place update) n e = cc
no-store Pass n e = refl
no-store (Jump label) n e = refl
no-store (Call m words) n e = refl
no-store (Ask request) n e = refl
no-store (Create address m argument) n e = refl
no-store (Join other) n e = refl
no-store (Exit code) n e = refl
no-store (Return m) n e = refl
no-store (Fault cause) n e = refl

-- ---- one after another

-- a thread has moved on, and its turn is told
abbrev pub moved_on : State → ℕ → Worker → Bool → Thread Frame → Worker
moved_on s t w retires thread = record w { thread = thread; mode = mode_after retires None None w.mode }

abbrev pub moved_state : State → ℕ → Worker → Bool → Thread Frame → State
moved_state s t w retires thread = record (with_worker s t (moved_on s t w retires thread)) { turns = turns_after w.mode retires t s.turns }

pub set-map : (f : Worker → Worker) (ws : List Worker) (t : ℕ) (v w : Worker) → slice_set (map f (slice_set ws t v)) t w ≡ slice_set (map f ws) t w
set-map f [] zero v w = refl
set-map f [] (suc t) v w = refl
set-map f (u ∷ ws) zero v w = refl
set-map f (u ∷ ws) (suc t) v w = ap (λ (rest : List Worker). f u ∷ rest) (set-map f ws t v w)

-- then it does an access
abbrev accessing : Thread Frame → WorldParts → Touch → Option Store → Effect Frame
accessing thread world touch store = record { thread = thread; world = world; born = None; touch = Some touch; store = store }

did-in : (m : Mode) (s : State) (t : ℕ) (w : Worker) (retires : Bool) (thread : Thread Frame) (touch : Touch) (store : Option Store)
    → did (moved_state s t (record w { mode = m }) retires thread) t (moved_on s t (record w { mode = m }) retires thread) false None (accessing thread s.world touch store)
    ≡ did s t (record w { mode = m }) retires None (accessing thread s.world touch store)
did-in (Free plain) s t w retires thread touch store =
    let v : Worker = record w { mode = Free plain } in
    ap (λ (ws : List Worker). record (did s t v retires None (accessing thread s.world touch store)) { workers = ws })
    (set-map (spared (record { touch = Some touch; mutex = None })) s.workers t (moved_on s t v retires thread) (record w { thread = thread; mode = Free plain }))
did-in (Inside tx) s t w retires thread touch store =
    let v : Worker = record w { mode = Inside tx } in
    ap (λ (ws : List Worker). record (did s t v retires None (accessing thread s.world touch store)) { workers = ws })
    (set-map (spared (record { touch = Some touch; mutex = None })) s.workers t (moved_on s t v retires thread)
    (record w { thread = thread; mode = mode_after retires (Some touch) store (Inside tx) }))

pub did-after : (s : State) (t : ℕ) (w : Worker) (retires : Bool) (thread : Thread Frame) (touch : Touch) (store : Option Store)
    → did (moved_state s t w retires thread) t (moved_on s t w retires thread) false None (accessing thread s.world touch store)
    ≡ did s t w retires None (accessing thread s.world touch store)
did-after s t w retires thread touch store = did-in w.mode s t w retires thread touch store

-- or finds a list full
full-in : (m : Mode) (s : State) (t : ℕ) (w : Worker) (retires : Bool) (thread : Thread Frame) (touch : Touch) → has_room_in m (Some touch) ≡ false
    → with_worker (moved_state s t (record w { mode = m }) retires thread) t (aborted Overflow (moved_on s t (record w { mode = m }) retires thread))
    ≡ with_worker s t (aborted Overflow (record w { mode = m }))
full-in (Free plain) s t w retires thread touch e = cc
full-in (Inside tx) s t w retires thread touch e =
    let v : Worker = record w { mode = Inside tx } in
    twice s t (moved_on s t v retires thread) (aborted Overflow v)

pub full-after : (s : State) (t : ℕ) (w : Worker) (retires : Bool) (thread : Thread Frame) (touch : Touch) → has_room_in w.mode (Some touch) ≡ false
    → with_worker (moved_state s t w retires thread) t (aborted Overflow (moved_on s t w retires thread)) ≡ with_worker s t (aborted Overflow w)
full-after s t w retires thread touch e = full-in w.mode s t w retires thread touch e

-- or does none
abbrev nothing_claimed : Claim
nothing_claimed = record { touch = None; mutex = None }

spared-same : (m : Mode) (w : Worker) → spared nothing_claimed (record w { mode = m }) ≡ record w { mode = m }
spared-same (Free plain) w = refl
spared-same (Inside tx) w = refl

all-same : (ws : List Worker) → map (spared nothing_claimed) ws ≡ ws
all-same [] = refl
all-same (w ∷ ws) = ap (λ (v : Worker). v ∷ map (spared nothing_claimed) ws) (spared-same w.mode w) ∙ ap (λ (rest : List Worker). w ∷ rest) (all-same ws)

alone-in : (m : Mode) (s : State) (t : ℕ) (w : Worker) (retires : Bool) (thread : Thread Frame)
    → moved_state s t (record w { mode = m }) retires thread
    ≡ did s t (record w { mode = m }) retires None (record { thread = thread; world = s.world; born = None; touch = None; store = None })
alone-in (Free plain) s t w retires thread =
    let v : Worker = record w { mode = Free plain } in
    ap (λ (ws : List Worker). record (moved_state s t v retires thread) { workers = slice_set ws t (moved_on s t v retires thread) }) (sym (all-same s.workers))
alone-in (Inside tx) s t w retires thread =
    let v : Worker = record w { mode = Inside tx } in
    ap (λ (ws : List Worker). record (moved_state s t v retires thread) { workers = slice_set ws t (moved_on s t v retires thread) }) (sym (all-same s.workers))

pub alone-after : (s : State) (t : ℕ) (w : Worker) (retires : Bool) (thread : Thread Frame)
    → moved_state s t w retires thread ≡ did s t w retires None (record { thread = thread; world = s.world; born = None; touch = None; store = None })
alone-after s t w retires thread = alone-in w.mode s t w retires thread
