-- What the source's next step of a thread leaves of others: which bytes it stores, which words it leaves, and which mutexes stay free.
use Rattle.std.proofs.Common.{ℕ, zero, suc, ◌≡◌, ◌≢◌, ◌⊎◌, ◌∙◌, ◌+◌, Bool, true, false, ◌||◌, List, [], ◌∷◌, length, Option, Some, None, slice_get, refl, ap, sym, subst, ⊎_elim, nat_eq, eq-eqb, nat_lt}
use Rattle.std.specs.Prelude.{nat_le}
use Rattle.std.specs.Ordering.{nat_cmp}
use Rattle.std.specs.BTreeMap.{is_at}
use Rattle.std.specs.Map.{remove_entry}
use Rattle.ir_core.specs.declared.types.Loc.{Loc}
use Rattle.ir_core.specs.declared.instruction.Inst.{Inst}
use Rattle.ir_core.specs.Module.{ModuleParts}
use Rattle.ir_layout.specs.declared.spans.Span.{Span}
use Rattle.ir_layout.specs.Memory.{is_valid, thread_limit, heap_start, area_size}
use Rattle.mem_image.specs.Accesses.{bytes, overlap}
use Rattle.mem_image.specs.Bytes.{Memory, IsWhole, peek, poke}
use Rattle.mem_image.specs.Lines.{line_of}
use Rattle.mem_image.specs.Touches.{Touch, Store, memory_with}
use Rattle.mem_image.proofs.Agreement.{poke-lines}
use Rattle.mem_image.proofs.Laws.{read_elsewhere, poke_whole, poke_places}
use Rattle.line_sets.specs.Sets.{has}
use Rattle.inst_meaning.specs.declared.actions.Cause.{Cause}
use Rattle.inst_meaning.specs.declared.actions.Cause.TheVariants.{Unlock as UnlockCause}
use Rattle.inst_meaning.specs.declared.actions.Place.{Place}
use Rattle.inst_meaning.specs.declared.actions.Access.{Access}
use Rattle.inst_meaning.specs.declared.actions.Reply.{Reply}
use Rattle.inst_meaning.specs.declared.actions.Reply.TheVariants.{Answers, Waits, Refuses}
use Rattle.inst_meaning.specs.declared.actions.Request.{Request}
use Rattle.inst_meaning.specs.declared.actions.Request.TheVariants.{Lock, Unlock, Put, Output, Allocate, Free as FreeMemory, Argument}
use Rattle.inst_meaning.specs.declared.actions.Action.{Action}
use Rattle.inst_meaning.specs.declared.actions.Action.TheVariants.{Assign, Reserve, Read, Write, Update, Pass, Jump, Call, Ask, Create, Join, Exit, Return, Fault}
use Rattle.inst_meaning.specs.Accesses.{access_of, number_store, updated, word_read}
use Rattle.inst_meaning.specs.World.{WorldParts, owner_of, asked_of, locked, holds, unlocked, heap_next, allocated}
use Rattle.process.specs.declared.state.CallStack.{CallStack}
use Rattle.process.specs.declared.state.Thread.{Thread}
use Rattle.process.specs.declared.state.Thread.TheVariants.{Running, Exiting, Ended}
use Rattle.process.specs.Frames.{Frames}
use Rattle.process.specs.State.{ProcessParts}
use Rattle.process.specs.Outcome.{Effect, Outcome, Goes, failure, touch_of, store_of, goes_unless, effect_alone, effect_of_call, effect_of_creation, replied, created, joined, outcome_of}
use Rattle.process_laws.specs.Alone.{IsAlone}
use Rattle.process_laws.specs.Locality.{IsApart, IsValidAt}
use Rattle.process_laws.proofs.Locality.{valid_where_done}
use Rattle.src_meaning.specs.declared.state.Frame.{Frame}
use Rattle.src_meaning.specs.State.{State, inst_at}
use Rattle.src_meaning.specs.Step.{frames, action_in}
use Rattle.src_meaning.specs.Races.{race_of}
use Rattle.hard_meaning.specs.State.{Transaction, Mode, Free, Inside}
use Rattle.hard_meaning.specs.Aborts.{Claim, is_in_the_way, meets_touch}
use Rattle.hard_meaning.specs.Locks.{mutex_call, taken_by}
use Rattle.tx_simulation.proofs.Owners.{AreFree, Lies, Below, Same, Above, lies, found-other}
use Rattle.tx_simulation.proofs.Lines.{neither, never-both, spared-touched}
use Rattle.tx_simulation.proofs.Points.{touched}
use Rattle.tx_simulation.proofs.Races.{next_of, next-apart, step-leaves}
use Rattle.tx_simulation.proofs.Facts.{Changes, IsClear, watched_in}

-- ---- what is stored

-- an action stores nothing, or a word at the valid place that it touches
pub data StoresAs (places : List Span) (touch : Option Touch) (store : Option Store) : Type 0 where
  Nothing : store ≡ None → StoresAs places touch store
  AWord : (to : Touch) (word : ℕ) → touch ≡ Some to → store ≡ Some (record { address = to.address; size = to.size; word = word }) → to.writes ≡ true
      → is_valid places to.address to.size ≡ true → StoresAs places touch store

-- the line that an action writes
pub record IsStoredLine (touch : Option Touch) (line : ℕ) : Type 0 where
  pub to : Touch
  pub is : touch ≡ Some to
  pub writes : to.writes ≡ true
  pub same : line ≡ line_of to.address

pub changes-line : (mem : Memory) (touch : Option Touch) (store : Option Store) → IsWhole mem → StoresAs mem.places touch store
    → Changes (IsStoredLine touch) mem (memory_with store mem)
changes-line mem touch store whole (Nothing none) = rw none (record { places = refl; before = whole; after = whole; outside = λ at off. refl })
changes-line mem touch store whole (AWord to word is stores writes valid) = rw stores (record {
  places = sym (poke_places mem to.address to.size word);
  before = whole;
  after = poke_whole mem to.address to.size word whole valid;
  outside = λ at off. poke-lines mem to.address to.size word whole valid at (λ same. off (record { to = to; is = is; writes = writes; same = same }));
})

-- it isn't among the lines of a thread that was spared
pub clear-line : (touch : Option Touch) (mutex : Option ℕ) (mode : Mode) → is_in_the_way (record { touch = touch; mutex = mutex }) mode ≡ false
    → IsClear (IsStoredLine touch) mode
clear-line touch mutex mode clear line p q =
    never-both _ (spared-touched p.to mutex mode (subst (λ (o : Option Touch). is_in_the_way (record { touch = o; mutex = mutex }) mode ≡ false) p.is clear) p.writes)
    (subst (λ (n : ℕ). touched mode n ≡ true) p.same q)

-- ---- owners

pub removed-none : (owners : List (ℕ × ℕ)) (a b : ℕ) → owner_of owners b ≡ None → owner_of (remove_entry (is_at (nat_cmp a)) owners) b ≡ None
removed-none [] a b none = refl
removed-none ((c, u) ∷ owners) a b none = by_order (lies a c) (lies b c) none (removed-none owners a b)
  where
    by_order : Lies a c → Lies b c → owner_of ((c, u) ∷ owners) b ≡ None
        → (owner_of owners b ≡ None → owner_of (remove_entry (is_at (nat_cmp a)) owners) b ≡ None)
        → owner_of (remove_entry (is_at (nat_cmp a)) ((c, u) ∷ owners)) b ≡ None
    by_order x (Same same f) k rest = let g : Some u ≡ None = rw f at k in cc
    by_order (Same same e) (Below less f) k rest = rw e (let g : owner_of owners b ≡ None = rw f at k in g)
    by_order (Same same e) (Above more f) k rest = rw e (let g : owner_of owners b ≡ None = rw f at k in g)
    by_order (Below p e) (Below less f) k rest = rw (e, f) (let g : owner_of owners b ≡ None = rw f at k in rest g)
    by_order (Below p e) (Above more f) k rest = rw (e, f) (let g : owner_of owners b ≡ None = rw f at k in rest g)
    by_order (Above p e) (Below less f) k rest = rw (e, f) (let g : owner_of owners b ≡ None = rw f at k in rest g)
    by_order (Above p e) (Above more f) k rest = rw (e, f) (let g : owner_of owners b ≡ None = rw f at k in rest g)

-- what a spared thread watches stays free
abbrev pub StaysFree : Option ℕ → Option Touch → List (ℕ × ℕ) → List (ℕ × ℕ) → Type 0
StaysFree mutex touch owners after = (mode : Mode) → is_in_the_way (record { touch = touch; mutex = mutex }) mode ≡ false
    → AreFree owners (watched_in mode) → AreFree after (watched_in mode)

not-watched : (a : ℕ) (mode : Mode) → is_in_the_way (record { touch = None; mutex = Some a }) mode ≡ false → has (watched_in mode) a ≡ false
not-watched a (Free plain) clear = refl
not-watched a (Inside tx) clear = clear

other-than : (members : List ℕ) (a b : ℕ) → has members a ≡ false → has members b ≡ true → a ≢ b
other-than members a b none some same = never-both (has members a) none (ap (has members) same ∙ some)

-- the owners once a request was answered
after-owner : (p : WorldParts × Reply) (after : WorldParts) (n b : ℕ) → p ≡ (after, Answers n) → owner_of p.0.owners b ≡ None → owner_of after.owners b ≡ None
after-owner p after n b e none = sym (ap (λ (q : WorldParts × Reply). owner_of q.0.owners b) e) ∙ none

asked-free : (request : Request) (t : ℕ) (world after : WorldParts) (n : ℕ) → asked_of request t world ≡ (after, Answers n)
    → StaysFree (taken_by (mutex_call (Ask request))) None world.owners after.owners
asked-free (Lock a) t world after n e mode clear free b watched = by_owner (owner_of world.owners a) e
  where
    by_owner : (o : Option ℕ) → locked o a t world ≡ (after, Answers n) → owner_of after.owners b ≡ None
    by_owner None f = after-owner (locked None a t world) after n b f
        (found-other world.owners a b t (other-than (watched_in mode) a b (not-watched a mode clear) watched) ∙ free b watched)
    by_owner (Some owner) f = let g : Waits ≡ Answers n = ap (λ (p : WorldParts × Reply). p.1) f in cc
asked-free (Unlock a) t world after n e mode clear free b watched = by_holds (holds (owner_of world.owners a) t) e
  where
    by_holds : (o : Bool) → unlocked o a world ≡ (after, Answers n) → owner_of after.owners b ≡ None
    by_holds true f = after-owner (unlocked true a world) after n b f (removed-none world.owners a b (free b watched))
    by_holds false f = let g : Refuses UnlockCause ≡ Answers n = ap (λ (p : WorldParts × Reply). p.1) f in cc
asked-free (Put k) t world after n e mode clear free b watched = after-owner (asked_of (Put k) t world) after n b e (free b watched)
asked-free (Output k) t world after n e mode clear free b watched = after-owner (asked_of (Output k) t world) after n b e (free b watched)
asked-free (Allocate size) t world after n e mode clear free b watched = by_room (nat_le (heap_next world + size) (heap_start + area_size)) e
  where
    by_room : (o : Bool) → allocated o size world ≡ (after, Answers n) → owner_of after.owners b ≡ None
    by_room true f = after-owner (allocated true size world) after n b f (free b watched)
    by_room false f = after-owner (allocated false size world) after n b f (free b watched)
asked-free FreeMemory t world after n e mode clear free b watched = after-owner (asked_of FreeMemory t world) after n b e (free b watched)
asked-free (Argument k) t world after n e mode clear free b watched = after-owner (asked_of (Argument k) t world) after n b e (free b watched)

-- ---- the source's next step

-- what a step of the source leaves of others
pub record IsMild (m : ModuleParts) (s : State) (t : ℕ) (action : Action) (effect : Effect Frame) : Type 0 where
  pub stores : StoresAs s.process.memory.places effect.touch effect.store
  pub words : (u : ℕ) (y : Thread Frame) (place : Place) → t ≢ u → slice_get s.process.threads u ≡ Some y → next_of m y ≡ Some (Read place false)
      → is_valid s.process.memory.places place.address (bytes place.size) ≡ true
      → peek s.process.memory place.address (bytes place.size) ≡ peek (memory_with effect.store s.process.memory) place.address (bytes place.size)
  pub owners : StaysFree (taken_by (mutex_call action)) effect.touch s.process.world.owners effect.world.owners

stores-alone : (m : ModuleParts) (mem : Memory) (t : ℕ) (stack : CallStack Frame) (action : Action) (old : ℕ) → failure (frames m) mem.places t stack action ≡ None
    → StoresAs mem.places (touch_of action) (store_of action old)
stores-alone m mem t stack (Write place n atomic) old can = AWord _ n refl refl refl (valid_where_done (frames m) mem t stack (Write place n atomic) can)
stores-alone m mem t stack (Update place update) old can =
    AWord _ (updated update old) refl refl refl (valid_where_done (frames m) mem t stack (Update place update) can)
stores-alone m mem t stack (Assign n) old can = Nothing refl
stores-alone m mem t stack (Reserve n) old can = Nothing refl
stores-alone m mem t stack (Read place atomic) old can = Nothing refl
stores-alone m mem t stack Pass old can = Nothing refl
stores-alone m mem t stack (Jump n) old can = Nothing refl
stores-alone m mem t stack (Call n words) old can = Nothing refl
stores-alone m mem t stack (Ask n) old can = Nothing refl
stores-alone m mem t stack (Create a n b) old can = Nothing refl
stores-alone m mem t stack (Join n) old can = Nothing refl
stores-alone m mem t stack (Exit n) old can = Nothing refl
stores-alone m mem t stack (Return n) old can = Nothing refl
stores-alone m mem t stack (Fault n) old can = Nothing refl

-- an effect that stores nothing and leaves the environment
mild-quiet : (m : ModuleParts) (s : State) (t : ℕ) (action : Action) (effect : Effect Frame) → effect.store ≡ None → effect.world ≡ s.process.world
    → IsMild m s t action effect
mild-quiet m s t action effect none same = record {
  stores = Nothing none;
  words = λ u y place ne there next valid. ap (λ (store : Option Store). peek (memory_with store s.process.memory) place.address (bytes place.size)) (sym none);
  owners = λ mode clear free. subst (λ (w : WorldParts). AreFree w.owners (watched_in mode)) (sym same) free;
}

module _ (m : ModuleParts) (s : State) (free : race_of m s ≡ None) (going : s.ended ≡ false) (whole : IsWhole s.process.memory) (t : ℕ) (stack : CallStack Frame)
    (inst : Inst) (at : slice_get s.process.threads t ≡ Some (Running stack)) (stands : inst_at m stack.frame ≡ Some inst) (dst : Option Loc) where
  mild-alone : (action : Action) → action_in m stack.frame inst ≡ action → (effect : Effect Frame) → IsAlone action
      → goes_unless (failure (frames m) s.process.memory.places t stack action) (effect_alone (frames m) s.process dst stack action) ≡ Goes effect
      → IsMild m s t action effect
  mild-alone action act effect by_itself e = by_failure (failure (frames m) s.process.memory.places t stack action) refl e
    where
      by_failure : (o : Option Cause) → failure (frames m) s.process.memory.places t stack action ≡ o
          → goes_unless o (effect_alone (frames m) s.process dst stack action) ≡ Goes effect → IsMild m s t action effect
      by_failure (Some cause) f g = cc
      by_failure None f g =
          let same : effect_alone (frames m) s.process dst stack action ≡ effect = cc in
          let can : failure (frames m) s.process.memory.places t stack (action_in m stack.frame inst) ≡ None =
          ap (failure (frames m) s.process.memory.places t stack) act ∙ f in
          subst (IsMild m s t action) same (record {
            stores = stores-alone m s.process.memory t stack action (word_read s.process.memory action) f;
            words = λ u y place ne there next valid.
                sym (ap (λ (k : Action). peek (memory_with (store_of k (word_read s.process.memory action)) s.process.memory) place.address (bytes place.size)) (sym act)
                ∙ step-leaves m s t u stack inst y place (word_read s.process.memory action) free going whole ne at stands can there next valid);
            owners = λ mode clear k. k;
          })

  -- an effect of which the threads and what is touched may be anything
  mild-same : (action : Action) (x y : Effect Frame) → x ≡ y → IsMild m s t action x → IsMild m s t action y
  mild-same action x y e is = subst (IsMild m s t action) e is

  made-apart : (address n argument u : ℕ) (y : Thread Frame) (place : Place) → action_in m stack.frame inst ≡ Create address n argument
      → nat_lt (length s.process.threads) thread_limit ≡ true → t ≢ u → slice_get s.process.threads u ≡ Some y → next_of m y ≡ Some (Read place false)
      → overlap address 8 place.address (bytes place.size) ≡ false
  made-apart address n argument u y place act room ne there next =
      let apart : IsApart (access_of (length s.process.threads) (action_in m stack.frame inst)) place.address (bytes place.size) =
      next-apart m s t u stack inst y place free going ne at stands there next in
      let one : access_of (length s.process.threads) (action_in m stack.frame inst) ≡ number_store true address =
      ap (access_of (length s.process.threads)) act ∙ ap (λ (b : Bool). number_store b address) room in
      subst (λ (o : Option Access). IsApart o place.address (bytes place.size)) one apart refl

  mild-made : (address n argument : ℕ) → action_in m stack.frame inst ≡ Create address n argument → (effect : Effect Frame) (room valid : Bool)
      → nat_lt (length s.process.threads) thread_limit ≡ room → is_valid s.process.memory.places address 8 ≡ valid
      → created (frames m) s.process dst stack address n argument room valid ≡ Goes effect → IsMild m s t (Create address n argument) effect
  mild-made address n argument act effect true false e f g = cc
  mild-made address n argument act effect false valid e f g =
      let same : effect_of_call (frames m) s.process dst stack 11 ≡ effect = cc in
      mild-same (Create address n argument) (effect_of_call (frames m) s.process dst stack 11) effect same
      (mild-quiet m s t (Create address n argument) (effect_of_call (frames m) s.process dst stack 11) refl refl)
  mild-made address n argument act effect true true e f g =
      let same : effect_of_creation (frames m) s.process dst stack address n argument ≡ effect = cc in
      mild-same (Create address n argument) (effect_of_creation (frames m) s.process dst stack address n argument) effect same (record {
        stores = AWord _ (length s.process.threads) refl refl refl f;
        words = λ u y place ne there next valid. sym (read_elsewhere s.process.memory address 8 (length s.process.threads) place.address (bytes place.size) whole f valid
            (made-apart address n argument u y place act e ne there next));
        owners = λ mode clear k. k;
      })

  mild-asked : (request : Request) (effect : Effect Frame) (world : WorldParts) (reply : Reply) → asked_of request t s.process.world ≡ (world, reply)
      → replied (frames m) s.process dst stack world reply ≡ Goes effect → IsMild m s t (Ask request) effect
  mild-asked request effect world (Answers n) e f =
      let same : (record (effect_of_call (frames m) s.process dst stack n) { world = world }) ≡ effect = cc in
      mild-same (Ask request) (record (effect_of_call (frames m) s.process dst stack n) { world = world }) effect same (record {
        stores = Nothing refl;
        words = λ u y place ne there next valid. refl;
        owners = asked-free request t s.process.world world n e;
      })
  mild-asked request effect world Waits e f = cc
  mild-asked request effect world (Refuses cause) e f = cc

  mild-joined : (other : ℕ) (effect : Effect Frame) (o : Option (Thread Frame)) → joined (frames m) s.process dst stack o ≡ Goes effect
      → IsMild m s t (Join other) effect
  mild-joined other effect None e = cc
  mild-joined other effect (Some (Running x)) e = cc
  mild-joined other effect (Some (Exiting n)) e = cc
  mild-joined other effect (Some Ended) e =
      let same : effect_of_call (frames m) s.process dst stack 0 ≡ effect = cc in
      mild-same (Join other) (effect_of_call (frames m) s.process dst stack 0) effect same
      (mild-quiet m s t (Join other) (effect_of_call (frames m) s.process dst stack 0) refl refl)

  pub mild : (action : Action) → action_in m stack.frame inst ≡ action → (effect : Effect Frame) → outcome_of (frames m) s.process t dst stack action ≡ Goes effect
      → IsMild m s t action effect
  mild (Assign n) act effect e = mild-alone (Assign n) act effect tt e
  mild (Reserve n) act effect e = mild-alone (Reserve n) act effect tt e
  mild (Read place atomic) act effect e = mild-alone (Read place atomic) act effect tt e
  mild (Write place n atomic) act effect e = mild-alone (Write place n atomic) act effect tt e
  mild (Update place update) act effect e = mild-alone (Update place update) act effect tt e
  mild Pass act effect e = mild-alone Pass act effect tt e
  mild (Jump n) act effect e = mild-alone (Jump n) act effect tt e
  mild (Call n words) act effect e = mild-alone (Call n words) act effect tt e
  mild (Ask request) act effect e = mild-asked request effect (asked_of request t s.process.world).0 (asked_of request t s.process.world).1 refl e
  mild (Create address n argument) act effect e = mild-made address n argument act effect (nat_lt (length s.process.threads) thread_limit)
      (is_valid s.process.memory.places address 8) refl refl e
  mild (Join other) act effect e = mild-joined other effect (slice_get s.process.threads other) e
  mild (Exit n) act effect e = cc
  mild (Return n) act effect e = mild-alone (Return n) act effect tt e
  mild (Fault cause) act effect e = cc
