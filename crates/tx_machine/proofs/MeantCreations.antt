-- A thread that makes another is that of the definitions.
use Rattle.std.proofs.Common.{ℕ, zero, suc, ◌≡◌, ◌∙◌, ◌<◌, ◌+◌, Bool, true, false, List, [], ◌∷◌, ◌++◌, map, length, Option, Some, None, slice_get, slice_set, refl, ap, sym, subst, arith}
use Rattle.std.specs.Prelude.{nat_lt}
use Rattle.std.specs.Option.{is_some, option_map_or}
use Rattle.std.proofs.lemmas.Bool.Decides.{nat_tests}
use Rattle.std.proofs.lemmas.List.{length-append}
use Rattle.std.proofs.lemmas.Option.{slice_get_within}
use Rattle.ir_core.specs.declared.types.Loc.{Loc}
use Rattle.ir_core.specs.declared.values.Side.{Side}
use Rattle.ir_layout.specs.declared.spans.Span.{Span}
use Rattle.ir_layout.specs.Memory.{is_valid, thread_limit}
use Rattle.mem_image.specs.Bytes.{Memory}
use Rattle.mem_image.specs.Touches.{Touch, Store}
use Rattle.inst_meaning.specs.declared.actions.Action.TheVariants.{Create}
use Rattle.process.specs.declared.state.CallStack.{CallStack}
use Rattle.process.specs.declared.state.Thread.{Thread}
use Rattle.process.specs.declared.state.Thread.TheVariants.{Running}
use Rattle.process.specs.State.{new_thread}
use Rattle.process.specs.Outcome as outcomes
use Rattle.process.specs.Outcome.{Effect, Goes}
use Rattle.hard_frames.specs.declared.state.Frame.{Frame}
use Rattle.hard_frames.specs.Frames.{frames}
use Rattle.elide.specs.Watches.{WatchParts}
use Rattle.rtm_core.specs.Calls.{writing}
use Rattle.rtm_core.specs.Transactions as rtm
use Rattle.rtm_core.specs.Transactions.{Transaction, RtmParts, Entry, entry_if, entry_of}
use Rattle.rtm_core.specs.Transactions.Entry.{Invalid, Full, Entered}
use Rattle.hard_meaning.specs.State.{Mode, Free, Inside, Worker, State, Upset, seen, seen_in, new_worker}
use Rattle.hard_meaning.specs.Aborts.{spared, Overflow}
use Rattle.hard_meaning.specs.Effects.{mode_after, did, has_room_in, where_room}
use Rattle.hard_meaning.specs.Turns.{settled, acted}
use Rattle.tx_machine.specs.Own.{OwnParts, new_own, once_pending}
use Rattle.tx_machine.specs.Joined.{joined_one}
use Rattle.tx_machine.specs.Core.{CoreParts, own_with, with_own, core_aborted, core_touched, touched_as}
use Rattle.tx_machine.specs.Turned.{core_called, core_unstarted, numbered_as, core_numbered, created_as, core_created}
use Rattle.tx_machine.specs.Meant.{state_of, AreTied, IsTied, StandsAt}
use Rattle.tx_machine.proofs.Joined.{more-joined}
use Rattle.tx_machine.proofs.Told.{take-front}
use Rattle.tx_machine.proofs.Turned.{get-before}
use Rattle.tx_machine.proofs.Meant.{IsThere, there-within, thread-is, worker-is}
use Rattle.tx_machine.proofs.MeantAborts.{aborted-tied, trapped-meant, trapped-tied}
use Rattle.tx_machine.proofs.MeantPasses.{with_thread}
use Rattle.tx_machine.proofs.MeantTouches.{touched-tied}
use Rattle.tx_machine.proofs.MeantActions.{told_by, told_one, told-stands, moved, moved_own, moved-stands, moved-tied, moved-rtm, takes, took-of, room-mode, acted-none, done-q, full-q}
use Rattle.tx_machine.proofs.MeantCalls.{call_in, called-is, called-meant, called-tied}
use Rattle.tx_machine.proofs.MeantJoins.{count-is}

-- ---- lists

get-longer : {A : Type 0} (xs : List A) (t : ℕ) (x y : A) → slice_get xs t ≡ Some x → slice_get (xs ++ y ∷ []) t ≡ Some x
get-longer xs t x y e = get-before xs y t (slice_get_within xs t x e) ∙ e

set-longer : {A : Type 0} (xs : List A) (t : ℕ) (x y z : A) → slice_get xs t ≡ Some x → slice_set (xs ++ y ∷ []) t z ≡ slice_set xs t z ++ y ∷ []
set-longer [] zero x y z e = cc
set-longer [] (suc t) x y z e = cc
set-longer (v ∷ xs) zero x y z e = refl
set-longer (v ∷ xs) (suc t) x y z e = ap (λ rest. v ∷ rest) (set-longer xs t x y z e)

own-longer : (f : OwnParts → OwnParts) (ws : List OwnParts) (t : ℕ) (w z : OwnParts) → slice_get ws t ≡ Some w → own_with t f (ws ++ z ∷ [])
    ≡ own_with t f ws ++ z ∷ []
own-longer f ws t w z e =
    ap (λ (o : Option OwnParts). option_map_or (λ (v : OwnParts). slice_set (ws ++ z ∷ []) t (f v)) o (ws ++ z ∷ [])) (get-longer ws t w z e)
    ∙ set-longer ws t w z (f w) e
    ∙ ap (λ (o : Option OwnParts). option_map_or (λ (v : OwnParts). slice_set ws t (f v)) o ws ++ z ∷ []) (sym e)

longer-tied : (ws : List OwnParts) (xs : List (Option (Transaction (CallStack Frame)))) (th : Thread Frame) → AreTied ws xs → length ws < length xs
    → AreTied (ws ++ new_own th ∷ []) xs
longer-tied [] [] th tied e = absurd (omega (arith, e))
longer-tied [] (x ∷ xs) th tied e = tied
longer-tied (w ∷ ws) [] th tied e = absurd tied
longer-tied (w ∷ ws) (x ∷ xs) th tied e = (tied.0, longer-tied ws xs th tied.1 (omega (arith, e)))

-- ---- in the definitions

set-born : (f : Worker → Worker) (ws : List Worker) (t : ℕ) (w v b : Worker) → slice_get ws t ≡ Some w → f b ≡ b → slice_set (map f (ws ++ b ∷ [])) t v
    ≡ slice_set (map f ws) t v ++ b ∷ []
set-born f [] zero w v b e same = cc
set-born f [] (suc t) w v b e same = cc
set-born f (u ∷ ws) zero w v b e same = ap (λ (rest : List Worker). v ∷ rest) (more ws)
  where
    more : (us : List Worker) → map f (us ++ b ∷ []) ≡ map f us ++ b ∷ []
    more [] = ap (λ (z : Worker). z ∷ []) same
    more (y ∷ us) = ap (λ (rest : List Worker). f y ∷ rest) (more us)
set-born f (u ∷ ws) (suc t) w v b e same = ap (λ (rest : List Worker). f u ∷ rest) (set-born f ws t w v b e same)

-- one that is made after the others is spared
did-born : (s : State) (t : ℕ) (w : Worker) (retires : Bool) (effect : Effect Frame) (th : Thread Frame) → slice_get s.workers t ≡ Some w
    → did (record s { workers = s.workers ++ new_worker th ∷ [] }) t w retires None (record effect { born = None })
    ≡ did s t w retires None (record effect { born = Some th })
did-born s t w retires effect th e =
    let v : Worker = record w { thread = effect.thread; mode = mode_after retires effect.touch effect.store w.mode } in
    ap (λ (ws : List Worker). record (did s t w retires None (record effect { born = Some th })) { workers = ws })
    (set-born (spared (record { touch = effect.touch; mutex = None })) s.workers t w v (new_worker th) e refl)

seen-places : (m : Mode) (mem : Memory) → (seen_in m mem).places ≡ mem.places
seen-places (Free plain) mem = refl
seen-places (Inside tx) mem = refl

-- ---- a thread more

abbrev with_more : OwnParts → CoreParts → CoreParts
with_more z p = record p { own = p.own ++ z ∷ [] }

unstarted : (z : OwnParts) (p : CoreParts) → core_unstarted (with_more z p) ≡ p
unstarted z p = ap (λ (ws : List OwnParts). record p { own = ws }) (take-front p.own z)

module _ (p : CoreParts) (t : ℕ) (w : OwnParts) (x : Option (Transaction (CallStack Frame))) (k : WatchParts) (at : StandsAt p t w x k) (ups : List Upset)
    (th : Thread Frame) where
  abbrev more : CoreParts
  more = with_more (new_own th) p

  more-stands : StandsAt more t w x k
  more-stands = record { made = get-longer p.own t w (new_own th) at.made; open_there = at.open_there; watching = at.watching; tied = at.tied }

  -- there is room for it
  module _ (tied : IsTied p) (room : length p.own < thread_limit) where
    more-tied : IsTied more
    more-tied =
        let long : length (p.own ++ new_own th ∷ []) ≡ length p.own + 1 = length-append p.own (new_own th ∷ []) in
        record {
          threads = tied.threads;
          watches = tied.watches;
          own = omega (arith, long, room);
          tied = longer-tied p.own p.rtm.threads th tied.tied (subst (λ (n : ℕ). length p.own < n) (sym tied.threads) room);
        }

    more-meant : state_of more ups ≡ record (state_of p ups) { workers = (state_of p ups).workers ++ new_worker th ∷ [] }
    more-meant =
        let y : IsThere p.rtm.threads (length p.own) =
        there-within p.rtm.threads (length p.own) (subst (λ (n : ℕ). length p.own < n) (sym tied.threads) room) in
        let j : IsThere p.watches (length p.own) = there-within p.watches (length p.own) (subst (λ (n : ℕ). length p.own < n) (sym tied.watches) room) in
        ap (λ (ws : List Worker). record (state_of p ups) { workers = ws }) (more-joined p.own p.rtm.threads p.watches (new_own th) y.one j.one y.there j.there)

  module _ (retires : Bool) (g : Thread Frame → Thread Frame) where
    told-more : (b c : Bool) → told_by b c t more ≡ with_more (new_own th) (told_by b c t p)
    told-more true true = ap (λ (ws : List OwnParts). record p { own = ws }) (own-longer once_pending p.own t w (new_own th) at.made)
    told-more true false = refl
    told-more false c = refl

    moved-more : moved more t w x k more-stands ups retires g ≡ with_more (new_own th) (moved p t w x k at ups retires g)
    moved-more = ap (λ (q : CoreParts). with_own t (with_thread g) q) (told-more retires (is_some x))
        ∙ ap (λ (ws : List OwnParts). record (told_by retires (is_some x) t p) { own = ws })
        (own-longer (with_thread g) (told_by retires (is_some x) t p).own t (told_one retires (is_some x) w) (new_own th)
        (told-stands p t w k ups retires x at).made)

-- ---- its number is stored

less-of : (n m : ℕ) → nat_lt n m ≡ true → n < m
less-of n m e = grind (arith, nat_tests)

module _ (p : CoreParts) (t : ℕ) (w : OwnParts) (x : Option (Transaction (CallStack Frame))) (k : WatchParts) (at : StandsAt p t w x k) (ups : List Upset)
    (retires : Bool) (target : Option (Side × Loc)) (address n argument : ℕ) (tied : IsTied p) where
  abbrev born : Thread Frame
  born = new_thread (frames p.program) (length p.own) n (argument ∷ [])

  abbrev longer : CoreParts
  longer = more p t w x k at ups born

  abbrev then_at : StandsAt longer t w x k
  then_at = more-stands p t w x k at ups born

  abbrev calls : Thread Frame → Thread Frame
  calls = call_in p t w x k at ups retires target 0

  abbrev q : CoreParts
  q = moved longer t w x k then_at ups retires calls

  abbrev touch : Touch
  touch = writing address 8

  abbrev store : ℕ → Option Store
  store m = Some (record { address = address; size = 8; word = m })

  abbrev s : State
  s = state_of p ups

  abbrev one : Worker
  one = joined_one w x k

  abbrev numbered_with : Entry → CoreParts
  numbered_with entry = numbered_as (takes entry) t (touched_as entry touch (store (length p.own)) t q)

  called-longer : core_called retires target 0 t longer ≡ q
  called-longer = called-is longer t w x k then_at ups retires target 0

  q-is : q ≡ with_more (new_own born) (moved p t w x k at ups retires calls)
  q-is = moved-more p t w x k at ups born retires calls

  module _ (valid : is_valid p.rtm.memory.places address 8 ≡ true) where
    entry-is : entry_of q.rtm t touch ≡ entry_if true (has_room_in one.mode (Some touch))
    entry-is = ap (λ (r : RtmParts (CallStack Frame)). entry_of r t touch) (moved-rtm longer t w x k then_at ups retires calls)
        ∙ ap (λ (b : Bool). entry_if b (rtm.has_room_in touch (rtm.thread p.rtm t))) valid
        ∙ ap (λ (o : Option (Transaction (CallStack Frame))). entry_if true (rtm.has_room_in touch o)) (thread-is p t w x k at ups)
        ∙ ap (λ (b : Bool). entry_if true b) (room-mode w.words.mode w x k touch at.tied)

    numbered-is : core_numbered address (length p.own) t (core_called retires target 0 t longer)
        ≡ numbered_with (entry_if true (has_room_in one.mode (Some touch)))
    numbered-is = ap (λ (r : CoreParts). core_numbered address (length p.own) t r) called-longer
        ∙ ap (λ (b : Bool). numbered_as b t (core_touched touch (store (length p.own)) t q)) (took-of (entry_of q.rtm t touch) (length p.own))
        ∙ ap (λ (en : Entry). numbered_with en) entry-is

  unstarted-is : core_unstarted q ≡ moved p t w x k at ups retires calls
  unstarted-is = ap (λ (r : CoreParts). core_unstarted r) q-is ∙ unstarted (new_own born) (moved p t w x k at ups retires calls)

  room-tied : (b : Bool) → length p.own < thread_limit → IsTied (numbered_with (entry_if true b))
  room-tied true room =
      touched-tied q t (moved_own longer t w x k then_at ups retires calls) x k (moved-stands longer t w x k then_at ups retires calls) ups touch
      (store (length p.own))
      (moved-tied longer t w x k then_at ups retires calls (more-tied p t w x k at ups born tied room))
  room-tied false room = subst (λ (r : CoreParts). IsTied (core_aborted Overflow t r)) (sym unstarted-is)
      (aborted-tied (moved p t w x k at ups retires calls) t (moved_own p t w x k at ups retires calls) x k
      (moved-stands p t w x k at ups retires calls) ups Overflow
      (moved-tied p t w x k at ups retires calls tied))

  created-tied-by : (b c : Bool) → nat_lt (length p.own) thread_limit ≡ b → is_valid p.rtm.memory.places address 8 ≡ c
      → IsTied (created_as b c retires target address n argument t p)
  created-tied-by true true e f = subst IsTied (sym (numbered-is f)) (room-tied (has_room_in one.mode (Some touch)) (less-of (length p.own) thread_limit e))
  created-tied-by true false e f = trapped-tied p t w x k at ups tied
  created-tied-by false c e f = called-tied p t w x k at ups retires target 11 tied

  pub created-tied : IsTied (core_created retires target address n argument t p)
  created-tied = created-tied-by (nat_lt (length p.own) thread_limit) (is_valid p.rtm.memory.places address 8) refl refl

  -- where it runs
  module _ (stack : CallStack Frame) (runs : w.thread ≡ Running stack) where
    abbrev effect_at : ℕ → Effect Frame
    effect_at m = record {
      thread = calls (Running stack);
      world = p.world;
      born = Some (new_thread (frames p.program) m n (argument ∷ []));
      touch = Some touch;
      store = store m;
    }

    abbrev effect : Effect Frame
    effect = effect_at (length p.own)

    by-room : (b : Bool) → has_room_in one.mode (Some touch) ≡ b → length p.own < thread_limit
        → state_of (numbered_with (entry_if true b)) ups ≡ where_room b s t one (did s t one retires None effect)
    by-room true e room =
        done-q longer t w x k then_at ups retires calls (calls (Running stack)) (ap calls runs) touch (store (length p.own))
        ∙ ap (λ (z : State). did z t one retires None (record effect { born = None })) (more-meant p t w x k at ups born tied room)
        ∙ did-born s t one retires effect born (worker-is p t w x k at ups)
    by-room false e room = ap (λ (r : CoreParts). state_of (core_aborted Overflow t r) ups) unstarted-is
        ∙ full-q p t w x k at ups retires calls (calls (Running stack)) (ap calls runs) touch (store (length p.own)) e

    abbrev settled_as : Bool → Bool → State
    settled_as b c = settled p.program s t one stack.frame retires None
        (outcomes.created (frames p.program) (seen s one.mode) target stack address n argument b c)

    created-by : (b c : Bool) → nat_lt (length p.own) thread_limit ≡ b → is_valid p.rtm.memory.places address 8 ≡ c
        → state_of (created_as b c retires target address n argument t p) ups ≡ settled_as b c
    created-by true true e f = ap (λ (r : CoreParts). state_of r ups) (numbered-is f)
        ∙ by-room (has_room_in one.mode (Some touch)) refl (less-of (length p.own) thread_limit e)
        ∙ ap (λ (m : ℕ). settled p.program s t one stack.frame retires None (Goes (effect_at m))) (sym (count-is p ups one.mode tied))
    created-by true false e f = trapped-meant p t w x k at ups stack runs
    created-by false c e f = called-meant p t w x k at ups retires target 11 stack runs

    pub created-meant : state_of (core_created retires target address n argument t p) ups
        ≡ acted p.program s t one stack target retires (Create address n argument)
    created-meant = created-by (nat_lt (length p.own) thread_limit) (is_valid p.rtm.memory.places address 8) refl refl
        ∙ ap (λ (m : ℕ). settled_as (nat_lt m thread_limit) (is_valid p.rtm.memory.places address 8)) (sym (count-is p ups one.mode tied))
        ∙ ap (λ (places : List Span). settled_as (nat_lt (length (seen s one.mode).threads) thread_limit) (is_valid places address 8))
        (sym (seen-places one.mode p.rtm.memory))
        ∙ sym (acted-none p.program s t one stack target retires (Create address n argument) one.mode)
