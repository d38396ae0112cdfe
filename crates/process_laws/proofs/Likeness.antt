-- Two processes whose frames are of different kinds and alike: what an action comes to in one, it comes to in the other.
--
-- One lemma for every action (`outcomes-alike`): what it asks of the two frames that do it is `Asks`. Memory is told apart: both
-- processes have the same, whatever it is that their threads see.
use Rattle.std.proofs.Common.{ℕ, suc, ◌≡◌, ◌≢◌, ◌∙◌, ◌+◌, Bool, true, false, List, [], ◌∷◌, ◌++◌, length, Option, Some, None, slice_get, slice_set, refl, ap, sym, subst}
use Rattle.std.specs.Prelude.{nat_lt, nat_le, unwrap_or}
use Rattle.std.specs.Option.{is_some}
use Rattle.std.proofs.lemmas.List.{length-set, length-append}
use Rattle.ir_core.specs.declared.types.Loc.{Loc}
use Rattle.ir_layout.specs.Shapes.{round_up}
use Rattle.ir_layout.specs.declared.spans.Span.{Span}
use Rattle.ir_layout.specs.Memory.{is_valid, thread_limit, frame_limit}
use Rattle.inst_meaning.specs.declared.actions.Cause.{Cause}
use Rattle.inst_meaning.specs.declared.actions.Cause.TheVariants.{Stack, Depth, Unreachable}
use Rattle.inst_meaning.specs.declared.actions.Reply.{Reply}
use Rattle.inst_meaning.specs.declared.actions.Reply.TheVariants.{Answers, Waits as MustWait, Refuses}
use Rattle.inst_meaning.specs.declared.actions.Action.{Action}
use Rattle.inst_meaning.specs.declared.actions.Action.TheVariants.{Assign, Reserve, Read, Write, Update, Pass, Jump, Call, Ask, Create, Join, Exit, Return, Fault}
use Rattle.inst_meaning.specs.Accesses.{found, word_read}
use Rattle.inst_meaning.specs.World.{WorldParts, asked_of}
use Rattle.process.specs.declared.state.CallStack.{CallStack}
use Rattle.process.specs.declared.state.Thread.{Thread}
use Rattle.process.specs.declared.state.Thread.TheVariants.{Running, Exiting, Ended}
use Rattle.process.specs.Frames.{Frames}
use Rattle.process.specs.State.{ProcessParts, stack_start, frame_count, new_thread}
use Rattle.process.specs.Outcome.{Effect, Outcome, Goes, Waits, Faults, Ends, unless, failure, thread_after, returned, alone, called, replied, created, joined, outcome_of}
use Rattle.process.specs.Process.{with_born}
use Rattle.process_laws.specs.Alone.{IsAlone}
use Rattle.process_laws.proofs.Threads.{SetAt, Same, Other, set-at, MoreAt, Before, Last, more-at}

-- when frames of two kinds are alike, as far as an index tells: one that runs, and one that waits; and which indices a thread may have
pub record Likeness (F G I : Type 0) : Type 1 where
  pub runs : I → F → G → Type 0
  pub waits : I → F → G → Type 0
  pub good : I → Type 0

module _ {F G I : Type 0} (r : Likeness F G I) where
  -- ---- threads

  abbrev pub AreCallers : I → List F → List G → Type 0
  AreCallers i [] [] = Unit {0}
  AreCallers i [] (b ∷ hards) = ⊥
  AreCallers i (a ∷ sources) [] = ⊥
  AreCallers i (a ∷ sources) (b ∷ hards) = r.waits i a b × AreCallers i sources hards

  pub record IsStack (i : I) (a : CallStack F) (b : CallStack G) : Type 0 where
    pub mark : b.mark ≡ a.mark
    pub frame : r.runs i a.frame b.frame
    pub callers : AreCallers i a.callers b.callers

  -- threads are alike, as far as an index tells
  abbrev pub IsThreadOn : I → Thread F → Thread G → Type 0
  IsThreadOn i (Running a) (Running b) = IsStack i a b
  IsThreadOn i (Running a) (Exiting k) = ⊥
  IsThreadOn i (Running a) Ended = ⊥
  IsThreadOn i (Exiting n) (Running b) = ⊥
  IsThreadOn i (Exiting n) (Exiting k) = k ≡ n
  IsThreadOn i (Exiting n) Ended = ⊥
  IsThreadOn i Ended (Running b) = ⊥
  IsThreadOn i Ended (Exiting k) = ⊥
  IsThreadOn i Ended Ended = Unit {0}

  pub record IsThread (a : Thread F) (b : Thread G) : Type 0 where
    pub index : I
    pub good : r.good index
    pub stands : IsThreadOn index a b

  abbrev pub AreThreadsAt : Option (Thread F) → Option (Thread G) → Type 0
  AreThreadsAt None None = Unit {0}
  AreThreadsAt None (Some b) = ⊥
  AreThreadsAt (Some a) None = ⊥
  AreThreadsAt (Some a) (Some b) = IsThread a b

  pub record AreThreads (xs : List (Thread F)) (ys : List (Thread G)) : Type 0 where
    pub count : length ys ≡ length xs
    pub each : (t : ℕ) → AreThreadsAt (slice_get xs t) (slice_get ys t)

  -- ---- ends

  -- as far as ends go two threads are alike: both have ended, or neither has
  abbrev pub EndAlike : Thread F → Thread G → Type 0
  EndAlike (Running a) (Running b) = Unit {0}
  EndAlike (Running a) (Exiting k) = Unit {0}
  EndAlike (Running a) Ended = ⊥
  EndAlike (Exiting n) (Running b) = Unit {0}
  EndAlike (Exiting n) (Exiting k) = Unit {0}
  EndAlike (Exiting n) Ended = ⊥
  EndAlike Ended (Running b) = ⊥
  EndAlike Ended (Exiting k) = ⊥
  EndAlike Ended Ended = Unit {0}

  abbrev pub EndAlikeAt : Option (Thread F) → Option (Thread G) → Type 0
  EndAlikeAt None None = Unit {0}
  EndAlikeAt None (Some b) = ⊥
  EndAlikeAt (Some a) None = ⊥
  EndAlikeAt (Some a) (Some b) = EndAlike a b

  pub record AreEndAlike (xs : List (Thread F)) (ys : List (Thread G)) : Type 0 where
    pub count : length ys ≡ length xs
    pub each : (t : ℕ) → EndAlikeAt (slice_get xs t) (slice_get ys t)

  pub end-alike : (i : I) (a : Thread F) (b : Thread G) → IsThreadOn i a b → EndAlike a b
  end-alike i (Running a) (Running b) is = tt
  end-alike i (Running a) (Exiting k) is = tt
  end-alike i (Running a) Ended is = is
  end-alike i (Exiting n) (Running b) is = tt
  end-alike i (Exiting n) (Exiting k) is = tt
  end-alike i (Exiting n) Ended is = is
  end-alike i Ended (Running b) is = is
  end-alike i Ended (Exiting k) is = is
  end-alike i Ended Ended is = tt

  pub ends-of-threads : (xs : List (Thread F)) (ys : List (Thread G)) → AreThreads xs ys → AreEndAlike xs ys
  ends-of-threads xs ys all = record { count = all.count; each = λ t. each (slice_get xs t) (slice_get ys t) (all.each t) }
    where
      each : (x : Option (Thread F)) (y : Option (Thread G)) → AreThreadsAt x y → EndAlikeAt x y
      each None None is = tt
      each None (Some y) is = is
      each (Some x) None is = is
      each (Some x) (Some y) is = end-alike is.index x y is.stands

  -- ---- outcomes

  -- threads that were made, or none
  abbrev pub AreBorn : Option (Thread F) → Option (Thread G) → Type 0
  AreBorn None None = Unit {0}
  AreBorn None (Some b) = ⊥
  AreBorn (Some a) None = ⊥
  AreBorn (Some a) (Some b) = IsThread a b

  pub record AreEffects (i : I) (x : Effect F) (y : Effect G) : Type 0 where
    pub thread : IsThreadOn i x.thread y.thread
    pub world : y.world ≡ x.world
    pub born : AreBorn x.born y.born
    pub touch : y.touch ≡ x.touch
    pub store : y.store ≡ x.store

  pub data AreOutcomes (i : I) (x : Outcome F) (y : Outcome G) : Type 0 where
    BothGo : (ex : Effect F) (ey : Effect G) → x ≡ Goes ex → y ≡ Goes ey → AreEffects i ex ey → AreOutcomes i x y
    BothWait : x ≡ Waits → y ≡ Waits → AreOutcomes i x y
    BothFault : (cause : Cause) → x ≡ Faults cause → y ≡ Faults cause → AreOutcomes i x y
    BothEnd : (code : ℕ) → x ≡ Ends code → y ≡ Ends code → AreOutcomes i x y

  -- ---- what an action asks of the frames that do it

  -- neither can go along the edge, or both, and stay alike
  abbrev pub AreJumps : I → Option F → Option G → Type 0
  AreJumps i None None = Unit {0}
  AreJumps i None (Some b) = ⊥
  AreJumps i (Some a) None = ⊥
  AreJumps i (Some a) (Some b) = r.runs i a b

  module _ {D E : Type 0} (fa : Frames F D) (fb : Frames G E) where
    -- whatever the result is
    abbrev pub HaveResults : I → D → E → F → G → Type 0
    HaveResults i d e a b = (k : ℕ) → r.runs i (fa.result d k a) (fb.result e k b)

    -- a function can be entered, at whatever mark
    abbrev pub AreEntered : I → ℕ → List ℕ → Type 0
    AreEntered i n words = (mark : ℕ) → r.runs i (fa.enter n words mark) (fb.enter n words mark)

    pub record AreCalls (i : I) (d : D) (e : E) (a : F) (b : G) (n : ℕ) (words : List ℕ) : Type 0 where
      pub entered : AreEntered i n words
      pub suspended : r.waits i (fa.suspend d a) (fb.suspend e b)

    pub record AreReturns (i : I) (a : F) (b : G) (n : ℕ) : Type 0 where
      pub mark : fb.mark b ≡ fa.mark a
      pub resumed : (x : F) (y : G) → r.waits i x y → r.runs i (fa.resume n x) (fb.resume n y)

    pub record AreCreations (i : I) (d : D) (e : E) (a : F) (b : G) (n argument : ℕ) : Type 0 where
      pub results : HaveResults i d e a b
      pub new : I
      pub good : r.good new
      pub entered : AreEntered new n (argument ∷ [])

    abbrev pub Asks : I → D → E → F → G → Action → Type 0
    Asks i d e a b (Assign n) = HaveResults i d e a b
    Asks i d e a b (Reserve size) = HaveResults i d e a b
    Asks i d e a b (Read place atomic) = HaveResults i d e a b
    Asks i d e a b (Write place n atomic) = r.runs i (fa.advance a) (fb.advance b)
    Asks i d e a b (Update place update) = HaveResults i d e a b
    Asks i d e a b Pass = r.runs i (fa.advance a) (fb.advance b)
    Asks i d e a b (Jump label) = AreJumps i (fa.jump label a) (fb.jump label b)
    Asks i d e a b (Call n words) = AreCalls i d e a b n words
    Asks i d e a b (Ask request) = HaveResults i d e a b
    Asks i d e a b (Create address n argument) = AreCreations i d e a b n argument
    Asks i d e a b (Join other) = HaveResults i d e a b
    Asks i d e a b (Exit code) = Unit {0}
    Asks i d e a b (Return n) = AreReturns i a b n
    Asks i d e a b (Fault cause) = Unit {0}

  -- ---- lists of threads

  -- as many frames
  pub same-count : (i : I) (xs : List F) (ys : List G) → AreCallers i xs ys → length ys ≡ length xs
  same-count i [] [] is = refl
  same-count i [] (y ∷ ys) is = absurd is
  same-count i (x ∷ xs) [] is = absurd is
  same-count i (x ∷ xs) (y ∷ ys) is = ap suc (same-count i xs ys is.1)

  module _ (xs : List (Thread F)) (ys : List (Thread G)) (all : AreThreads xs ys) where
    -- the thread with this number is the same kind of thread in both
    pub other-there : (t : ℕ) (a : Thread F) → slice_get xs t ≡ Some a → (b : Thread G) × (slice_get ys t ≡ Some b) × IsThread a b
    other-there t a e = by_other (slice_get ys t) refl (subst (λ (o : Option (Thread F)). AreThreadsAt o (slice_get ys t)) e (all.each t))
      where
        by_other : (o : Option (Thread G)) → slice_get ys t ≡ o → AreThreadsAt (Some a) (slice_get ys t)
            → (b : Thread G) × (slice_get ys t ≡ Some b) × IsThread a b
        by_other None f k = absurd (subst (λ (o : Option (Thread G)). AreThreadsAt (Some a) o) f k)
        by_other (Some b) f k = (b, f, subst (λ (o : Option (Thread G)). AreThreadsAt (Some a) o) f k)

    module _ (t : ℕ) (a a' : Thread F) (b b' : Thread G) (at : slice_get xs t ≡ Some a) (other_at : slice_get ys t ≡ Some b) where
      -- both threads have moved
      pub both-moved : IsThread a' b' → AreThreads (slice_set xs t a') (slice_set ys t b')
      both-moved is = record {
        count = length-set ys t b' ∙ all.count ∙ sym (length-set xs t a');
        each = λ u. each u (set-at xs t u a' a at) (set-at ys t u b' b other_at);
      }
        where
          each : (u : ℕ) → SetAt xs t u a' → SetAt ys t u b' → AreThreadsAt (slice_get (slice_set xs t a') u) (slice_get (slice_set ys t b') u)
          each u (Same e f) (Same e' f') = rw (f, f') is
          each u (Same e f) (Other n f') = absurd (n e)
          each u (Other n f) (Same e' f') = absurd (n e')
          each u (Other n f) (Other n' f') = rw (f, f') (all.each u)

      -- the second one has moved
      pub other-moved : IsThread a b' → AreThreads xs (slice_set ys t b')
      other-moved is = record {
        count = length-set ys t b' ∙ all.count;
        each = λ u. each u (set-at ys t u b' b other_at);
      }
        where
          each : (u : ℕ) → SetAt ys t u b' → AreThreadsAt (slice_get xs u) (slice_get (slice_set ys t b') u)
          each u (Same e f) = rw (f, ap (slice_get xs) e ∙ at) is
          each u (Other n f) = rw f (all.each u)

    -- one was made
    pub one-more : (a : Thread F) (b : Thread G) → IsThread a b → AreThreads (xs ++ a ∷ []) (ys ++ b ∷ [])
    one-more a b is = record {
      count = length-append ys (b ∷ []) ∙ ap (λ (n : ℕ). n + 1) all.count ∙ sym (length-append xs (a ∷ []));
      each = λ u. each u (more-at xs a u) (more-at ys b u);
    }
      where
        each : (u : ℕ) → MoreAt xs a u → MoreAt ys b u → AreThreadsAt (slice_get (xs ++ a ∷ []) u) (slice_get (ys ++ b ∷ []) u)
        each u (Before i e) (Before j f) = rw (e, f) (all.each u)
        each u (Last i e) (Last j f) = rw (e, f) is
        each u (Before i e) (Last j f) = absurd (i (j ∙ all.count))
        each u (Last i e) (Before j f) = absurd (j (i ∙ sym all.count))

    -- or none was
    pub born-more : (a : Option (Thread F)) (b : Option (Thread G)) → AreBorn a b → AreThreads (with_born a xs) (with_born b ys)
    born-more None None is = all
    born-more None (Some b) is = absurd is
    born-more (Some a) None is = absurd is
    born-more (Some a) (Some b) is = one-more a b is

  -- threads once one of them has done an action
  pub effects-threads : (xs : List (Thread F)) (ys : List (Thread G)) → AreThreads xs ys → (t : ℕ) (a : Thread F) (b : Thread G)
      → slice_get xs t ≡ Some a → slice_get ys t ≡ Some b → (i : I) → r.good i → (x : Effect F) (y : Effect G) → AreEffects i x y
      → AreThreads (with_born x.born (slice_set xs t x.thread)) (with_born y.born (slice_set ys t y.thread))
  effects-threads xs ys all t a b at other_at i good x y effects =
      born-more (slice_set xs t x.thread) (slice_set ys t y.thread)
      (both-moved xs ys all t a x.thread b y.thread at other_at (record { index = i; good = good; stands = effects.thread })) x.born y.born effects.born

  -- ---- actions

  -- the same process with other threads
  abbrev pub over : ProcessParts F → List (Thread G) → ProcessParts G
  over p threads = record { memory = p.memory; threads = threads; world = p.world }

  same-jump : (i : I) (x : Option F) (y : Option G) → AreJumps i x y → unless (is_some y) Unreachable ≡ unless (is_some x) Unreachable
  same-jump i None None is = refl
  same-jump i None (Some y) is = absurd is
  same-jump i (Some x) None is = absurd is
  same-jump i (Some x) (Some y) is = refl

  module _ {D E : Type 0} (fa : Frames F D) (fb : Frames G E) (i : I) (d : D) (e : E) (a : CallStack F) (b : CallStack G)
      (mark : b.mark ≡ a.mark) (callers : AreCallers i a.callers b.callers) where
    -- both can do an action alone, or neither, for the same cause
    pub same-failure : (places : List Span) (t : ℕ) (action : Action) → Asks fa fb i d e a.frame b.frame action
        → failure fb places t b action ≡ failure fa places t a action
    same-failure places t (Assign n) asks = refl
    same-failure places t (Reserve size) asks =
        ap (λ (m : ℕ). unless (nat_le (round_up 16 m + size) (stack_start (suc t))) Stack) mark
    same-failure places t (Read place atomic) asks = refl
    same-failure places t (Write place n atomic) asks = refl
    same-failure places t (Update place update) asks = refl
    same-failure places t Pass asks = refl
    same-failure places t (Jump label) asks = same-jump i (fa.jump label a.frame) (fb.jump label b.frame) asks
    same-failure places t (Call n words) asks =
        ap (λ (count : ℕ). unless (nat_lt (suc count) frame_limit) Depth) (same-count i a.callers b.callers callers)
    same-failure places t (Ask request) asks = refl
    same-failure places t (Create address n argument) asks = refl
    same-failure places t (Join other) asks = refl
    same-failure places t (Exit code) asks = refl
    same-failure places t (Return n) asks = refl
    same-failure places t (Fault cause) asks = refl

    in-frames : (x : F) (y : G) → r.runs i x y → IsStack i (record a { frame = x }) (record b { frame = y })
    in-frames x y is = record { mark = mark; frame = is; callers = callers }

    jumped : (x : Option F) (y : Option G) → AreJumps i x y → unless (is_some x) Unreachable ≡ None
        → r.runs i (unwrap_or x a.frame) (unwrap_or y b.frame)
    jumped None None is done = cc
    jumped None (Some y) is done = absurd is
    jumped (Some x) None is done = absurd is
    jumped (Some x) (Some y) is done = is

    returned-alike : (n : ℕ) (m k : ℕ) → k ≡ m → ((x : F) (y : G) → r.waits i x y → r.runs i (fa.resume n x) (fb.resume n y))
        → (xs : List F) (ys : List G) → AreCallers i xs ys → IsThreadOn i (returned fa n m xs) (returned fb n k ys)
    returned-alike n m k same resumed [] [] is = refl
    returned-alike n m k same resumed [] (y ∷ ys) is = absurd is
    returned-alike n m k same resumed (x ∷ xs) [] is = absurd is
    returned-alike n m k same resumed (x ∷ xs) (y ∷ ys) is = record { mark = same; frame = resumed x y is.0; callers = is.1 }

    -- the threads that did an action alone
    pub same-thread : (places : List Span) (t : ℕ) (action : Action) (old : ℕ) → IsAlone action → Asks fa fb i d e a.frame b.frame action
        → failure fa places t a action ≡ None → IsThreadOn i (thread_after fa d a action old) (thread_after fb e b action old)
    same-thread places t (Assign n) old by_itself asks done = in-frames _ _ (asks n)
    same-thread places t (Reserve size) old by_itself asks done = rw mark (record { mark = refl; frame = asks (round_up 16 a.mark); callers = callers })
    same-thread places t (Read place atomic) old by_itself asks done = in-frames _ _ (asks old)
    same-thread places t (Write place n atomic) old by_itself asks done = in-frames _ _ asks
    same-thread places t (Update place update) old by_itself asks done = in-frames _ _ (asks (found update old))
    same-thread places t Pass old by_itself asks done = in-frames _ _ asks
    same-thread places t (Jump label) old by_itself asks done =
        in-frames _ _ (jumped (fa.jump label a.frame) (fb.jump label b.frame) asks done)
    same-thread places t (Call n words) old by_itself asks done =
        rw mark (record { mark = refl; frame = asks.entered a.mark; callers = (asks.suspended, callers) })
    same-thread places t (Ask request) old by_itself asks done = absurd by_itself
    same-thread places t (Create address n argument) old by_itself asks done = absurd by_itself
    same-thread places t (Join other) old by_itself asks done = absurd by_itself
    same-thread places t (Exit code) old by_itself asks done = absurd by_itself
    same-thread places t (Return n) old by_itself asks done =
        returned-alike n (fa.mark a.frame) (fb.mark b.frame) asks.mark asks.resumed a.callers b.callers callers
    same-thread places t (Fault cause) old by_itself asks done = cc

    module _ (p : ProcessParts F) (threads : List (Thread G)) (all : AreEndAlike p.threads threads) (t : ℕ) where
      alone-alike : (action : Action) → IsAlone action → Asks fa fb i d e a.frame b.frame action
          → AreOutcomes i (alone fa p t d a action) (alone fb (over p threads) t e b action)
      alone-alike action by_itself asks = by_cause (failure fa p.memory.places t a action) refl
        where
          by_cause : (o : Option Cause) → failure fa p.memory.places t a action ≡ o
              → AreOutcomes i (alone fa p t d a action) (alone fb (over p threads) t e b action)
          by_cause None f = rw (same-failure p.memory.places t action asks, f) (BothGo _ _ refl refl (record {
            thread = same-thread p.memory.places t action (word_read p.memory action) by_itself asks f;
            world = refl;
            born = tt;
            touch = refl;
            store = refl;
          }))
          by_cause (Some cause) f = rw (same-failure p.memory.places t action asks, f) (BothFault cause refl refl)

      call-done : HaveResults fa fb i d e a.frame b.frame → (n : ℕ) → IsThreadOn i (called fa d a n) (called fb e b n)
      call-done results n = in-frames _ _ (results n)

      replied-alike : HaveResults fa fb i d e a.frame b.frame → (world : WorldParts) (reply : Reply)
          → AreOutcomes i (replied fa p d a world reply) (replied fb (over p threads) e b world reply)
      replied-alike results world (Answers n) =
          BothGo _ _ refl refl (record { thread = call-done results n; world = refl; born = tt; touch = refl; store = refl })
      replied-alike results world MustWait = BothWait refl refl
      replied-alike results world (Refuses cause) = BothFault cause refl refl

      created-alike : (address n argument : ℕ) → AreCreations fa fb i d e a.frame b.frame n argument → (room valid : Bool)
          → AreOutcomes i (created fa p d a address n argument room valid) (created fb (over p threads) e b address n argument room valid)
      created-alike address n argument asks true true = rw all.count (BothGo _ _ refl refl (record {
        thread = call-done asks.results 0;
        world = refl;
        born = record {
          index = asks.new;
          good = asks.good;
          stands = record { mark = refl; frame = asks.entered (stack_start (length p.threads)); callers = tt };
        };
        touch = refl;
        store = refl;
      }))
      created-alike address n argument asks true false = BothFault _ refl refl
      created-alike address n argument asks false valid =
          BothGo _ _ refl refl (record { thread = call-done asks.results 11; world = refl; born = tt; touch = refl; store = refl })

      joined-alike : HaveResults fa fb i d e a.frame b.frame → (x : Option (Thread F)) (y : Option (Thread G)) → EndAlikeAt x y
          → AreOutcomes i (joined fa p d a x) (joined fb (over p threads) e b y)
      joined-alike results None None is = BothFault _ refl refl
      joined-alike results None (Some y) is = absurd is
      joined-alike results (Some x) None is = absurd is
      joined-alike results (Some (Running x)) (Some (Running y)) is = BothWait refl refl
      joined-alike results (Some (Running x)) (Some (Exiting k)) is = BothWait refl refl
      joined-alike results (Some (Running x)) (Some Ended) is = absurd is
      joined-alike results (Some (Exiting n)) (Some (Running y)) is = BothWait refl refl
      joined-alike results (Some (Exiting n)) (Some (Exiting k)) is = BothWait refl refl
      joined-alike results (Some (Exiting n)) (Some Ended) is = absurd is
      joined-alike results (Some Ended) (Some (Running y)) is = absurd is
      joined-alike results (Some Ended) (Some (Exiting k)) is = absurd is
      joined-alike results (Some Ended) (Some Ended) is =
          BothGo _ _ refl refl (record { thread = call-done results 0; world = refl; born = tt; touch = refl; store = refl })

      -- what an action comes to in one process, it comes to in the other
      pub outcomes-alike : (action : Action) → Asks fa fb i d e a.frame b.frame action
          → AreOutcomes i (outcome_of fa p t d a action) (outcome_of fb (over p threads) t e b action)
      outcomes-alike (Assign n) asks = alone-alike (Assign n) tt asks
      outcomes-alike (Reserve size) asks = alone-alike (Reserve size) tt asks
      outcomes-alike (Read place atomic) asks = alone-alike (Read place atomic) tt asks
      outcomes-alike (Write place n atomic) asks = alone-alike (Write place n atomic) tt asks
      outcomes-alike (Update place update) asks = alone-alike (Update place update) tt asks
      outcomes-alike Pass asks = alone-alike Pass tt asks
      outcomes-alike (Jump label) asks = alone-alike (Jump label) tt asks
      outcomes-alike (Call n words) asks = alone-alike (Call n words) tt asks
      outcomes-alike (Ask request) asks = replied-alike asks (asked_of request t p.world).0 (asked_of request t p.world).1
      outcomes-alike (Create address n argument) asks =
          rw all.count (created-alike address n argument asks (nat_lt (length p.threads) thread_limit) (is_valid p.memory.places address 8))
      outcomes-alike (Join other) asks = joined-alike asks (slice_get p.threads other) (slice_get threads other) (all.each other)
      outcomes-alike (Exit code) asks = BothEnd _ refl refl
      outcomes-alike (Return n) asks = alone-alike (Return n) tt asks
      outcomes-alike (Fault cause) asks = alone-alike (Fault cause) tt asks
