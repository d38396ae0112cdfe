-- Turns of one thread of the source alone, over memory as it is and what the thread itself wrote: the same over a memory that agrees on what
-- they accessed (`frame`), and the source's own walk of so many turns of that thread (`solo`).
--
-- Choices: such a run knows no owners of mutexes: it locks what it doesn't hold and unlocks what it holds. That what it ever locked has no
-- owner is asked where the run becomes the source's.
use Rattle.std.proofs.Common.{ℕ, zero, suc, ◌≡◌, ◌∙◌, ◌+◌, Bool, true, false, ◌||◌, List, [], ◌∷◌, ◌++◌, Option, Some, None, slice_get, slice_set, replicate, refl, ap, sym, subst, nat_eq, eq-eqb}
use Rattle.std.specs.List.{cons_option}
use Rattle.std.specs.Option.{option_map}
use Rattle.std.specs.Prelude.{unwrap_or}
use Rattle.std.proofs.lemmas.List.{set-set}
use Rattle.ir_core.specs.declared.types.Loc.{Loc}
use Rattle.ir_core.specs.declared.instruction.Inst.{Inst}
use Rattle.ir_core.specs.Module.{ModuleParts}
use Rattle.ir_layout.specs.declared.spans.Span.{Span}
use Rattle.ir_layout.specs.Memory.{is_valid}
use Rattle.mem_image.specs.Accesses.{bytes}
use Rattle.mem_image.specs.Agreement.{AgreeOn}
use Rattle.mem_image.specs.Bytes.{Memory, IsWhole, peek}
use Rattle.mem_image.specs.Touches.{stored_with, memory_with}
use Rattle.mem_image.specs.Views.{Written, nothing_written, stored, view}
use Rattle.mem_image.proofs.Agreement.{peek-agrees}
use Rattle.mem_image.proofs.Views.{view-byte, view-whole, view-stored, view-nothing}
use Rattle.line_sets.specs.Sets.{has}
use Rattle.inst_meaning.specs.declared.actions.Cause.{Cause}
use Rattle.inst_meaning.specs.declared.actions.Place.{Place}
use Rattle.inst_meaning.specs.declared.actions.Action.{Action}
use Rattle.inst_meaning.specs.declared.actions.Action.TheVariants.{Assign, Reserve, Read, Write, Update, Pass, Jump, Call, Ask, Create, Join, Exit, Return, Fault}
use Rattle.inst_meaning.specs.declared.actions.Request.TheVariants.{Lock, Unlock, Put, Output, Allocate, Free, Argument}
use Rattle.inst_meaning.specs.Accesses.{place_of, updated, word_read}
use Rattle.inst_meaning.specs.Action.{destination}
use Rattle.inst_meaning.specs.World.{WorldParts, owner_of, locked, holds, unlocked}
use Rattle.process.specs.declared.state.CallStack.{CallStack}
use Rattle.process.specs.declared.state.Thread.{Thread}
use Rattle.process.specs.declared.state.Thread.TheVariants.{Running}
use Rattle.process.specs.declared.state.Step.{Step}
use Rattle.process.specs.declared.state.Step.TheVariants.{Went}
use Rattle.process.specs.Frames.{Frames}
use Rattle.process.specs.State.{ProcessParts}
use Rattle.process.specs.Outcome.{Outcome, failure, thread_after, store_of, alone, goes_unless, effect_alone, called, outcome_of, replied}
use Rattle.process.specs.Process.{done}
use Rattle.process_laws.specs.Alone.{IsAlone}
use Rattle.process_laws.specs.Locality.{AgreeAt, IsValidAt}
use Rattle.process_laws.proofs.Locality.{same_word, valid_where_done}
use Rattle.src_meaning.specs.declared.state.Frame.{Frame}
use Rattle.src_meaning.specs.State.{State, inst_at}
use Rattle.src_meaning.specs.Step.{frames, action_in, settled, fetched, turned, unless_ended, step}
use Rattle.src_meaning.specs.Runs.{run_from}
use Rattle.hard_simulation.proofs.Turns.{state-append, answers-append}
use Rattle.hard_meaning.specs.Locks.{MutexCall, Locks, Unlocks, mutex_call, without}
use Rattle.tx_simulation.proofs.Owners.{owners_with, AreDistinct, AreFree, not-held, is-held, has-without, distinct-without, unlocked-one}

-- ---- what a thread alone has come to

-- the thread, what it wrote, the places that it accessed, the mutexes that it holds and those that it ever locked
pub record Lone : Type 0 where
  pub thread : Thread Frame
  pub written : Written
  pub accessed : List Place
  pub held : List ℕ
  pub locked : List ℕ

abbrev pub lone_start : Thread Frame → Lone
lone_start thread = record { thread = thread; written = nothing_written; accessed = []; held = []; locked = [] }

-- a call of a mutex can be done, as far as the thread itself tells
abbrev pub CanCall : MutexCall → List ℕ → Type 0
CanCall (Locks a) held = has held a ≡ false
CanCall (Unlocks a) held = has held a ≡ true

abbrev pub held_after : MutexCall → List ℕ → List ℕ
held_after (Locks a) held = a ∷ held
held_after (Unlocks a) held = without held a

abbrev pub locked_after : MutexCall → List ℕ → List ℕ
locked_after (Locks a) locked = a ∷ locked
locked_after (Unlocks a) locked = locked

abbrev pub lone_after : ModuleParts → Option Loc → CallStack Frame → Action → ℕ → Lone → Lone
lone_after m dst stack action old k = record k {
  thread = thread_after (frames m) dst stack action old;
  written = stored_with stored (store_of action old) k.written;
  accessed = cons_option (place_of action) k.accessed;
}

abbrev pub lone_called : ModuleParts → Option Loc → CallStack Frame → MutexCall → Lone → Lone
lone_called m dst stack call k =
    record k { thread = called (frames m) dst stack 0; held = held_after call k.held; locked = locked_after call k.locked }

-- the thread does an instruction by itself, or calls for a mutex
pub data LoneStep (m : ModuleParts) (mem : Memory) (t : ℕ) (k l : Lone) : Type 0 where
  ByItself : (stack : CallStack Frame) (inst : Inst) → k.thread ≡ Running stack → inst_at m stack.frame ≡ Some inst
      → IsAlone (action_in m stack.frame inst) → failure (frames m) mem.places t stack (action_in m stack.frame inst) ≡ None
      → l ≡ lone_after m (destination inst) stack (action_in m stack.frame inst) (word_read (view mem k.written) (action_in m stack.frame inst)) k
      → LoneStep m mem t k l
  OfMutex : (stack : CallStack Frame) (inst : Inst) (call : MutexCall) → k.thread ≡ Running stack → inst_at m stack.frame ≡ Some inst
      → mutex_call (action_in m stack.frame inst) ≡ Some call → CanCall call k.held
      → l ≡ lone_called m (destination inst) stack call k → LoneStep m mem t k l

-- so many turns of the thread alone, from where it stood, over this memory
abbrev pub Ran : ModuleParts → Memory → ℕ → Thread Frame → ℕ → Lone → Type 0
Ran m mem t x zero l = l ≡ lone_start x
Ran m mem t x (suc n) l = (k : Lone) × Ran m mem t x n k × LoneStep m mem t k l

-- ---- over another memory

abbrev pub AgreeOnPlace : Memory → Memory → Place → Type 0
AgreeOnPlace a b place = AgreeOn place.address (bytes place.size) a b

abbrev pub AgreeOnAll : Memory → Memory → List Place → Type 0
AgreeOnAll a b [] = Unit {0}
AgreeOnAll a b (place ∷ places) = AgreeOnPlace a b place × AgreeOnAll a b places

-- a word that is seen at such a place is the same
pub same-seen : (a b : Memory) (written : Written) (place : Place) → IsWhole a → is_valid a.places place.address (bytes place.size) ≡ true
    → AgreeOnPlace a b place → peek (view a written) place.address (bytes place.size) ≡ peek (view b written) place.address (bytes place.size)
same-seen a b written place whole valid same = peek-agrees (view a written) (view b written) place.address (bytes place.size) (view-whole a written whole) valid
    (λ k below. view-byte a written (place.address + k) ∙ ap (option_map (unwrap_or (written (place.address + k)))) (same k below)
    ∙ sym (view-byte b written (place.address + k)))

agree-at : (a b : Memory) (written : Written) (o : Option Place) (places : List Place) → IsWhole a → IsValidAt a o → AgreeOnAll a b (cons_option o places)
    → AgreeAt (view a written) (view b written) o
agree-at a b written None places whole valid same = tt
agree-at a b written (Some place) places whole valid same = same-seen a b written place whole valid same.0

agree-rest : (a b : Memory) (o : Option Place) (places : List Place) → AgreeOnAll a b (cons_option o places) → AgreeOnAll a b places
agree-rest a b None places same = same
agree-rest a b (Some place) places same = same.1

accessed-before : (m : ModuleParts) (a b : Memory) (t : ℕ) (k l : Lone) → LoneStep m a t k l → AgreeOnAll a b l.accessed → AgreeOnAll a b k.accessed
accessed-before m a b t k l (ByItself stack inst runs stands by_itself can is) same =
    agree-rest a b (place_of (action_in m stack.frame inst)) k.accessed (subst (λ (o : Lone). AgreeOnAll a b o.accessed) is same)
accessed-before m a b t k l (OfMutex stack inst call runs stands asks can is) same = subst (λ (o : Lone). AgreeOnAll a b o.accessed) is same

step-again : (m : ModuleParts) (a b : Memory) (t : ℕ) (k l : Lone) → a.places ≡ b.places → IsWhole a → AgreeOnAll a b l.accessed → LoneStep m a t k l → LoneStep m b t k l
step-again m a b t k l places whole same (ByItself stack inst runs stands by_itself can is) =
    let action : Action = action_in m stack.frame inst in
    ByItself stack inst runs stands by_itself (ap (λ (spans : List Span). failure (frames m) spans t stack action) (sym places) ∙ can)
    (is ∙ ap (λ (old : ℕ). lone_after m (destination inst) stack action old k) (same_word (view a k.written) (view b k.written) action
    (agree-at a b k.written (place_of action) k.accessed whole (valid_where_done (frames m) a t stack action can)
    (subst (λ (o : Lone). AgreeOnAll a b o.accessed) is same))))
step-again m a b t k l places whole same (OfMutex stack inst call runs stands asks can is) = OfMutex stack inst call runs stands asks can is

-- the same run over a memory that agrees on what it accessed
pub frame : (m : ModuleParts) (a b : Memory) (t : ℕ) (x : Thread Frame) (n : ℕ) (l : Lone) → a.places ≡ b.places → IsWhole a → AgreeOnAll a b l.accessed
    → Ran m a t x n l → Ran m b t x n l
frame m a b t x zero l places whole same ran = ran
frame m a b t x (suc n) l places whole same (k, ran, st) =
    (k, frame m a b t x n k places whole (accessed-before m a b t k l st same) ran, step-again m a b t k l places whole same st)

-- ---- valid places

abbrev pub AllValid : List Span → List Place → Type 0
AllValid spans [] = Unit {0}
AllValid spans (place ∷ places) = (is_valid spans place.address (bytes place.size) ≡ true) × AllValid spans places

valid-more : (mem : Memory) (o : Option Place) (places : List Place) → IsValidAt mem o → AllValid mem.places places → AllValid mem.places (cons_option o places)
valid-more mem None places valid all = all
valid-more mem (Some place) places valid all = (valid, all)

pub ran-valid : (m : ModuleParts) (mem : Memory) (t : ℕ) (x : Thread Frame) (n : ℕ) (l : Lone) → Ran m mem t x n l → AllValid mem.places l.accessed
ran-valid m mem t x zero l ran = subst (λ (o : Lone). AllValid mem.places o.accessed) (sym ran) tt
ran-valid m mem t x (suc n) l (k, ran, st) = by_step st (ran-valid m mem t x n k ran)
  where
    by_step : LoneStep m mem t k l → AllValid mem.places k.accessed → AllValid mem.places l.accessed
    by_step (ByItself stack inst runs stands by_itself can is) all = subst (λ (o : Lone). AllValid mem.places o.accessed) (sym is)
        (valid-more mem (place_of (action_in m stack.frame inst)) k.accessed (valid_where_done (frames m) mem t stack (action_in m stack.frame inst) can) all)
    by_step (OfMutex stack inst call runs stands asks can is) all = subst (λ (o : Lone). AllValid mem.places o.accessed) (sym is) all

-- ---- mutexes

-- what it holds was locked, each once
pub record AreHeld (l : Lone) : Type 0 where
  pub distinct : AreDistinct l.held
  pub locked : (a : ℕ) → has l.held a ≡ true → has l.locked a ≡ true

or-more : (x y z : Bool) → (y ≡ true → z ≡ true) → (x || y) ≡ true → (x || z) ≡ true
or-more true y z f e = refl
or-more false y z f e = f e

or-later : (x y : Bool) → y ≡ true → (x || y) ≡ true
or-later true y e = refl
or-later false y e = e

call-held : (call : MutexCall) (k : Lone) → CanCall call k.held → AreDistinct k.held → ((a : ℕ) → has k.held a ≡ true → has k.locked a ≡ true)
    → AreDistinct (held_after call k.held) × ((a : ℕ) → has (held_after call k.held) a ≡ true → has (locked_after call k.locked) a ≡ true)
call-held (Locks a) k can distinct among = ((can, distinct), λ b e. or-more (nat_eq b a) (has k.held b) (has k.locked b) (among b) e)
call-held (Unlocks a) k can distinct among = (distinct-without k.held a distinct, λ b e. among b (was b e (has k.held b) refl))
  where
    was : (b : ℕ) → has (without k.held a) b ≡ true → (o : Bool) → has k.held b ≡ o → o ≡ true
    was b e true f = refl
    was b e false f = let no : false ≡ true = sym (has-without k.held a b f) ∙ e in no

pub ran-held : (m : ModuleParts) (mem : Memory) (t : ℕ) (x : Thread Frame) (n : ℕ) (l : Lone) → Ran m mem t x n l → AreHeld l
ran-held m mem t x zero l ran = subst AreHeld (sym ran) (record { distinct = tt; locked = λ a e. cc })
ran-held m mem t x (suc n) l (k, ran, st) = by_step st (ran-held m mem t x n k ran)
  where
    by_step : LoneStep m mem t k l → AreHeld k → AreHeld l
    by_step (ByItself stack inst runs stands by_itself can is) all = subst AreHeld (sym is) (record { distinct = all.distinct; locked = all.locked })
    by_step (OfMutex stack inst call runs stands asks can is) all =
        let both = call-held call k can all.distinct all.locked in subst AreHeld (sym is) (record { distinct = both.0; locked = both.1 })

pub locked-before : (m : ModuleParts) (mem : Memory) (t : ℕ) (k l : Lone) → LoneStep m mem t k l → (a : ℕ) → has k.locked a ≡ true → has l.locked a ≡ true
locked-before m mem t k l (ByItself stack inst runs stands by_itself can is) a e = ap (λ (o : Lone). has o.locked a) is ∙ e
locked-before m mem t k l (OfMutex stack inst (Locks b) runs stands asks can is) a e =
    ap (λ (o : Lone). has o.locked a) is ∙ or-later (nat_eq a b) (has k.locked a) e
locked-before m mem t k l (OfMutex stack inst (Unlocks b) runs stands asks can is) a e = ap (λ (o : Lone). has o.locked a) is ∙ e

-- the action that is a call of a mutex
pub data IsCallOf (action : Action) (call : MutexCall) : Type 0 where
  ToLock : (a : ℕ) → action ≡ Ask (Lock a) → call ≡ Locks a → IsCallOf action call
  ToUnlock : (a : ℕ) → action ≡ Ask (Unlock a) → call ≡ Unlocks a → IsCallOf action call

pub call-of : (action : Action) (call : MutexCall) → mutex_call action ≡ Some call → IsCallOf action call
call-of (Ask (Lock a)) call e = ToLock a refl cc
call-of (Ask (Unlock a)) call e = ToUnlock a refl cc
call-of (Ask (Put n)) call e = cc
call-of (Ask (Output n)) call e = cc
call-of (Ask (Allocate n)) call e = cc
call-of (Ask Free) call e = cc
call-of (Ask (Argument n)) call e = cc
call-of (Assign n) call e = cc
call-of (Reserve n) call e = cc
call-of (Read place atomic) call e = cc
call-of (Write place n atomic) call e = cc
call-of (Update place update) call e = cc
call-of Pass call e = cc
call-of (Jump n) call e = cc
call-of (Call n words) call e = cc
call-of (Create a n b) call e = cc
call-of (Join n) call e = cc
call-of (Exit n) call e = cc
call-of (Return n) call e = cc
call-of (Fault n) call e = cc

-- ---- the source's walk

pub outcome-alone : {F D : Type 0} (fs : Frames F D) (p : ProcessParts F) (t : ℕ) (target : D) (stack : CallStack F) (action : Action) → IsAlone action
    → outcome_of fs p t target stack action ≡ alone fs p t target stack action
outcome-alone fs p t target stack (Assign n) is = refl
outcome-alone fs p t target stack (Reserve size) is = refl
outcome-alone fs p t target stack (Read place atomic) is = refl
outcome-alone fs p t target stack (Write place n atomic) is = refl
outcome-alone fs p t target stack (Update place update) is = refl
outcome-alone fs p t target stack Pass is = refl
outcome-alone fs p t target stack (Jump label) is = refl
outcome-alone fs p t target stack (Call n words) is = refl
outcome-alone fs p t target stack (Ask request) is = absurd is
outcome-alone fs p t target stack (Create address n argument) is = absurd is
outcome-alone fs p t target stack (Join other) is = absurd is
outcome-alone fs p t target stack (Exit code) is = absurd is
outcome-alone fs p t target stack (Return n) is = refl
outcome-alone fs p t target stack (Fault cause) is = refl

-- what an action stores is seen
pub memory-seen : (m : ModuleParts) (mem : Memory) (written : Written) (t : ℕ) (stack : CallStack Frame) (action : Action) (old : ℕ) → IsWhole mem
    → failure (frames m) mem.places t stack action ≡ None
    → memory_with (store_of action old) (view mem written) ≡ view mem (stored_with stored (store_of action old) written)
memory-seen m mem written t stack (Write place n atomic) old whole can =
    sym (view-stored mem written place.address (bytes place.size) n whole (valid_where_done (frames m) mem t stack (Write place n atomic) can))
memory-seen m mem written t stack (Update place update) old whole can =
    sym (view-stored mem written place.address (bytes place.size) (updated update old) whole (valid_where_done (frames m) mem t stack (Update place update) can))
memory-seen m mem written t stack (Assign n) old whole can = refl
memory-seen m mem written t stack (Reserve size) old whole can = refl
memory-seen m mem written t stack (Read place atomic) old whole can = refl
memory-seen m mem written t stack Pass old whole can = refl
memory-seen m mem written t stack (Jump label) old whole can = refl
memory-seen m mem written t stack (Call n words) old whole can = refl
memory-seen m mem written t stack (Ask request) old whole can = refl
memory-seen m mem written t stack (Create address n argument) old whole can = refl
memory-seen m mem written t stack (Join other) old whole can = refl
memory-seen m mem written t stack (Exit code) old whole can = refl
memory-seen m mem written t stack (Return n) old whole can = refl
memory-seen m mem written t stack (Fault cause) old whole can = refl

pub set-there : {A : Type 0} (xs : List A) (t : ℕ) (x old : A) → slice_get xs t ≡ Some old → slice_get (slice_set xs t x) t ≡ Some x
set-there [] t x old e = cc
set-there (y ∷ xs) zero x old e = refl
set-there (y ∷ xs) (suc t) x old e = set-there xs t x old e

pub set-again : {A : Type 0} (xs : List A) (t : ℕ) (old : A) → slice_get xs t ≡ Some old → slice_set xs t old ≡ xs
set-again [] t old e = cc
set-again {A = A} (y ∷ xs) zero old e = let f : old ≡ y = cc in ap (λ (z : A). z ∷ xs) f
set-again {A = A} (y ∷ xs) (suc t) old e = ap (λ (zs : List A). y ∷ zs) (set-again xs t old e)

-- where the source stands once the thread has gone on alone
abbrev pub process_at : ProcessParts Frame → ℕ → Lone → ProcessParts Frame
process_at p t l = record {
  memory = view p.memory l.written;
  threads = slice_set p.threads t l.thread;
  world = record p.world { owners = owners_with t l.held p.world.owners };
}

abbrev pub state_at : State → ℕ → Lone → State
state_at s t l = record s { process = process_at s.process t l }

module _ (m : ModuleParts) (s : State) (t : ℕ) (x : Thread Frame) (at : slice_get s.process.threads t ≡ Some x) (going : s.ended ≡ false)
    (whole : IsWhole s.process.memory) where
  -- the step of a thread that stands so
  pub steps-at : (k : Lone) (stack : CallStack Frame) (inst : Inst) → k.thread ≡ Running stack → inst_at m stack.frame ≡ Some inst
      → step m (state_at s t k) t ≡ settled (state_at s t k)
      (done (process_at s.process t k) t (outcome_of (frames m) (process_at s.process t k) t (destination inst) stack (action_in m stack.frame inst)))
  steps-at k stack inst runs stands =
      ap (λ (b : Bool). unless_ended b (state_at s t k) (turned m (state_at s t k) t (slice_get (slice_set s.process.threads t k.thread) t))) going
      ∙ ap (λ (o : Option (Thread Frame)). turned m (state_at s t k) t o) (set-there s.process.threads t k.thread x at ∙ ap Some runs)
      ∙ ap (λ (o : Option Inst). fetched m (state_at s t k) t stack o) stands

  pub same-process : (a b : Memory) (xs ys : List (Thread Frame)) (w v : WorldParts) → a ≡ b → xs ≡ ys → w ≡ v
      → (record s { process = record { memory = a; threads = xs; world = w } }) ≡ (record s { process = record { memory = b; threads = ys; world = v } })
  same-process a b xs ys w v e f g = rw (e, f, g) refl

  -- a step of the thread alone is a step of the source
  alone-step : (k l : Lone) → AreHeld k → AreFree s.process.world.owners l.locked → LoneStep m s.process.memory t k l
      → step m (state_at s t k) t ≡ (state_at s t l, Went)
  alone-step k l held free (ByItself stack inst runs stands by_itself can is) =
      let action : Action = action_in m stack.frame inst in
      let old : ℕ = word_read (view s.process.memory k.written) action in
      let next : Lone = lone_after m (destination inst) stack action old k in
      steps-at k stack inst runs stands
      ∙ ap (λ (o : Outcome Frame). settled (state_at s t k) (done (process_at s.process t k) t o))
      (outcome-alone (frames m) (process_at s.process t k) t (destination inst) stack action by_itself
      ∙ ap (λ (o : Option Cause). goes_unless o (effect_alone (frames m) (process_at s.process t k) (destination inst) stack action)) can)
      ∙ ap (λ (o : State). (o, Went)) (same-process _ _ _ _ _ _ (memory-seen m s.process.memory k.written t stack action old whole can)
      (set-set s.process.threads t k.thread next.thread) refl
      ∙ ap (λ (o : Lone). state_at s t o) (sym is))
  alone-step k l held free (OfMutex stack inst call runs stands asks can is) = by_call call (call-of (action_in m stack.frame inst) call asks) can is
    where
      owners : List (ℕ × ℕ)
      owners = owners_with t k.held s.process.world.owners

      here : WorldParts
      here = record s.process.world { owners = owners }

      went : (world : WorldParts) → (record s {
        process = record {
          memory = view s.process.memory k.written;
          threads = slice_set (slice_set s.process.threads t k.thread) t (called (frames m) (destination inst) stack 0);
          world = world;
        };
      })
          ≡ (record s {
            process = record {
              memory = view s.process.memory k.written;
              threads = slice_set s.process.threads t (called (frames m) (destination inst) stack 0);
              world = world;
            };
          })
      went world = same-process _ _ _ _ _ _ refl (set-set s.process.threads t k.thread (called (frames m) (destination inst) stack 0)) refl

      by_call : (call : MutexCall) → IsCallOf (action_in m stack.frame inst) call → CanCall call k.held
          → l ≡ lone_called m (destination inst) stack call k → step m (state_at s t k) t ≡ (state_at s t l, Went)
      by_call call (ToLock a e f) can is =
          let absent : has k.held a ≡ false = subst (λ (c : MutexCall). CanCall c k.held) f can in
          let then : l ≡ lone_called m (destination inst) stack (Locks a) k = is ∙ ap (λ (c : MutexCall). lone_called m (destination inst) stack c k) f in
          let unowned : owner_of s.process.world.owners a ≡ None = free a (ap (λ (o : Lone). has o.locked a) then ∙ ap (λ (b : Bool). b || has k.locked a) (eq-eqb a a refl)) in
          let none : owner_of owners a ≡ None = not-held t k.held s.process.world.owners a absent ∙ unowned in
          steps-at k stack inst runs stands
          ∙ ap (λ (action : Action). settled (state_at s t k) (done (process_at s.process t k) t (outcome_of (frames m) (process_at s.process t k) t (destination inst) stack action))) e
          ∙ ap (λ (o : Option ℕ). settled (state_at s t k) (done (process_at s.process t k) t (replied (frames m) (process_at s.process t k) (destination inst) stack (locked o a t here).0 (locked o a t here).1))) none
          ∙ ap (λ (o : State). (o, Went)) (went _ ∙ ap (λ (o : Lone). state_at s t o) (sym then))
      by_call call (ToUnlock a e f) can is =
          let own : has k.held a ≡ true = subst (λ (c : MutexCall). CanCall c k.held) f can in
          let then : l ≡ lone_called m (destination inst) stack (Unlocks a) k = is ∙ ap (λ (c : MutexCall). lone_called m (destination inst) stack c k) f in
          let mine : holds (owner_of owners a) t ≡ true = ap (λ (o : Option ℕ). holds o t) (is-held t k.held s.process.world.owners a own) ∙ eq-eqb t t refl in
          steps-at k stack inst runs stands
          ∙ ap (λ (action : Action). settled (state_at s t k) (done (process_at s.process t k) t (outcome_of (frames m) (process_at s.process t k) t (destination inst) stack action))) e
          ∙ ap (λ (o : Bool). settled (state_at s t k) (done (process_at s.process t k) t (replied (frames m) (process_at s.process t k) (destination inst) stack (unlocked o a here).0 (unlocked o a here).1))) mine
          ∙ ap (λ (o : State). (o, Went)) (went _ ∙ same-process _ _ _ _ _ _ refl refl
          (ap (λ (os : List (ℕ × ℕ)). record s.process.world { owners = os }) (unlocked-one t k.held s.process.world.owners a held.distinct (λ b g. free b (earlier b then g)) own))
          ∙ ap (λ (o : Lone). state_at s t o) (sym then))
        where
          earlier : (b : ℕ) → l ≡ lone_called m (destination inst) stack (Unlocks a) k → has k.held b ≡ true → has l.locked b ≡ true
          earlier b then g = ap (λ (o : Lone). has o.locked b) then ∙ held.locked b g

-- a turn more stands last
pub turn-last : {A : Type 0} (n : ℕ) (x : A) → replicate (suc n) x ≡ replicate n x ++ x ∷ []
turn-last zero x = refl
turn-last {A = A} (suc n) x = ap (λ (xs : List A). x ∷ xs) (turn-last n x)

-- the source has gone so many turns of the thread, and each went
pub record Walked (m : ModuleParts) (s : State) (t n : ℕ) (l : Lone) : Type 0 where
  pub state : (run_from m s (replicate n t)).state ≡ state_at s t l
  pub answers : (run_from m s (replicate n t)).answers ≡ replicate n Went

-- a run of a thread alone is the source's, where what it locked has no owner
pub solo : (m : ModuleParts) (s : State) (t : ℕ) (x : Thread Frame) (n : ℕ) (l : Lone) → slice_get s.process.threads t ≡ Some x → s.ended ≡ false
    → IsWhole s.process.memory → AreFree s.process.world.owners l.locked → Ran m s.process.memory t x n l → Walked m s t n l
solo m s t x zero l at going whole free ran = record {
  state = same-process m s t x at going whole _ _ _ _ _ _ (sym (view-nothing s.process.memory)) (sym (set-again s.process.threads t x at)) refl
      ∙ ap (λ (o : Lone). state_at s t o) (sym ran);
  answers = refl;
}
solo m s t x (suc n) l at going whole free (k, ran, st) =
    let before : Walked m s t n k = solo m s t x n k at going whole (λ a e. free a (locked-before m s.process.memory t k l st a e)) ran in
    let last : step m (state_at s t k) t ≡ (state_at s t l, Went) =
    alone-step m s t x at going whole k l (ran-held m s.process.memory t x n k ran) free st in
    record {
      state = ap (λ (turns : List ℕ). (run_from m s turns).state) (turn-last n t) ∙ state-append m s (replicate n t) (t ∷ [])
          ∙ ap (λ (now : State). (step m now t).0) before.state ∙ ap (λ (p : State × Step). p.0) last;
      answers = ap (λ (turns : List ℕ). (run_from m s turns).answers) (turn-last n t) ∙ answers-append m s (replicate n t) (t ∷ [])
          ∙ ap (λ (answers : List Step). answers ++ (step m (run_from m s (replicate n t)).state t).1 ∷ []) before.answers
          ∙ ap (λ (now : State). replicate n Went ++ (step m now t).1 ∷ []) before.state
          ∙ ap (λ (p : State × Step). replicate n Went ++ p.1 ∷ []) last ∙ sym (turn-last n Went);
    }
