-- Which turns commit: in any state of any hardened program, of the thread whose turn it is, and where it stands.
use Rattle.std.proofs.Common.{ℕ, zero, suc, ◌≡◌, ◌≤◌, ◌⊎◌, ◌∙◌, Bool, true, false, List, [], ◌∷◌, ◌++◌, map, Option, Some, None, slice_get, slice_set, nat_eq, nat_le, refl, ap, sym, subst, inl, inr, arith}
use Rattle.std.specs.Option.{option_map}
use Rattle.std.proofs.lemmas.Bool.{leb-true}
use Rattle.std.proofs.lemmas.Option.{slice_get-map}
use Rattle.ir_core.specs.declared.types.Loc.{Loc}
use Rattle.ir_core.specs.declared.types.Ty.{Ty}
use Rattle.ir_core.specs.declared.types.Width.{Width}
use Rattle.ir_core.specs.declared.values.Side.{Side}
use Rattle.ir_core.specs.declared.instruction.Inst.{Inst}
use Rattle.mem_image.specs.Touches.{Touch, Store}
use Rattle.mem_image.specs.Bytes.{peek}
use Rattle.rtm_core.specs.Footprint.{has_room, seen_through}
use Rattle.inst_meaning.specs.Registers.{get}
use Rattle.inst_meaning.specs.Action.{place_at}
use Rattle.inst_meaning.specs.Operands.{memory_width}
use Rattle.hard_ir.specs.declared.instruction.HVal.{HVal}
use Rattle.ir_core.specs.declared.types.Width.TheVariants.{W64}
use Rattle.tx_runtime.specs.Words.{threshold}
use Rattle.inst_meaning.specs.declared.actions.Action.{Action}
use Rattle.process.specs.declared.state.CallStack.{CallStack}
use Rattle.process.specs.declared.state.Thread.{Thread}
use Rattle.process.specs.declared.state.Thread.TheVariants.{Running, Exiting, Ended}
use Rattle.process.specs.Outcome.{touch_at, Effect, Outcome, Goes, Waits, Faults, Ends}
use Rattle.process.specs.State.{in_frame}
use Rattle.process.specs.Process.{with_born}
use Rattle.hard_ir.specs.declared.instruction.HInst.{HInst}
use Rattle.hard_ir.specs.declared.instruction.HInst.TheVariants.{Cut, Begin, End, Tick, Chk, ChkMem, Mov, Do}
use Rattle.hard_ir.specs.Hardened.{HardParts}
use Rattle.hard_frames.specs.declared.outcome.Stop.{Stop}
use Rattle.hard_frames.specs.declared.state.Frame.{Frame}
use Rattle.hard_frames.specs.Code.{inst_at}
use Rattle.hard_frames.specs.Frames.{passed, action_on}
use Rattle.hard_meaning.specs.State.{Transaction, Mode, Free, Inside, Worker, State, new_worker}
use Rattle.hard_meaning.specs.Aborts.{Status, Mismatch, Locked, Conflict, Overflow, Other, Claim, aborted, aborted_if, spared, is_in_the_way, counted}
use Rattle.hard_meaning.specs.Effects.{with_worker, did, mode_after, transaction_after, has_room_in, where_room}
use Rattle.hard_meaning.specs.Runtime.{begun, cut_if, cut, ticked, closed, outside, where_ends, can_end, ended}
use Rattle.hard_meaning.specs.Turns.{onward, halted, failed, trapped, settled, watched_if, acted_by, agreed, compared, checked, copied, matched, read_back, read_at, read_as, memory_checked, stepped, fetched, left, left_as, exited, turned_by, turned}
use Rattle.hard_meaning.specs.Checks.{is_active, same_word, operand_word}
use Rattle.hard_meaning.specs.Locks.{MutexCall, mutex_call, taken_by, can_watch, watching}
use Rattle.tx_bounds.specs.Commits.{Commits, MayCommit, AtCut, AtEnd, AtMutex, AtExit, IsOuterCall}

-- ---- lists of threads

-- the thread that was set, or the one that was there
pub set-at : {A : Type 0} (xs : List A) (u t : ℕ) (v old new : A) → slice_get xs t ≡ Some old → slice_get (slice_set xs u v) t ≡ Some new
    → ((u ≡ t) × (new ≡ v)) ⊎ (new ≡ old)
set-at [] u t v old new was is = absurd cc
set-at (x ∷ xs) zero zero v old new was is = inl (refl, cc)
set-at (x ∷ xs) zero (suc t) v old new was is = inr cc
set-at (x ∷ xs) (suc u) zero v old new was is = inr cc
set-at (x ∷ xs) (suc u) (suc t) v old new was is = more (set-at xs u t v old new was is)
  where
    more : ((u ≡ t) × (new ≡ v)) ⊎ (new ≡ old) → ((suc u ≡ suc t) × (new ≡ v)) ⊎ (new ≡ old)
    more (inl (same, e)) = inl (ap suc same, e)
    more (inr e) = inr e

set-there : {A : Type 0} (xs : List A) (u t : ℕ) (v old : A) → slice_get xs t ≡ Some old → (new : A) × (slice_get (slice_set xs u v) t ≡ Some new)
set-there [] u t v old was = absurd cc
set-there (x ∷ xs) zero zero v old was = (v, refl)
set-there (x ∷ xs) zero (suc t) v old was = (old, was)
set-there (x ∷ xs) (suc u) zero v old was = (old, was)
set-there (x ∷ xs) (suc u) (suc t) v old was = set-there xs u t v old was

-- threads that were there stand at their places once one is added
born-at : {A : Type 0} (born : Option A) (xs : List A) (t : ℕ) (old new : A) → slice_get xs t ≡ Some old → slice_get (with_born born xs) t ≡ Some new → new ≡ old
born-at None xs t old new was is = cc
born-at (Some x) [] t old new was is = absurd cc
born-at (Some x) (y ∷ xs) zero old new was is = cc
born-at (Some x) (y ∷ xs) (suc t) old new was is = born-at (Some x) xs t old new was is

-- ---- what isn't a commit

pub not-same : (w : Worker) → Commits w w → ⊥
not-same w c = let inside : w.mode ≡ Inside c.tx = c.inside in let outside : w.mode ≡ Free c.plain = c.outside in cc

not-inside : (w v : Worker) (tx : Transaction) → v.mode ≡ Inside tx → Commits w v → ⊥
not-inside w v tx e c = let outside : v.mode ≡ Free c.plain = c.outside in cc

not-outside : (w v : Worker) (plain : Bool) → w.mode ≡ Free plain → Commits w v → ⊥
not-outside w v plain e c = let inside : w.mode ≡ Inside c.tx = c.inside in cc

more-aborts : (status : Status) (w : Worker) → counted status w.aborts ≡ w.aborts → ⊥
more-aborts Mismatch w e = let n : suc w.aborts.explicit ≡ w.aborts.explicit = ap (λ a. a.explicit) e in absurd (omega (arith, n))
more-aborts Locked w e = let n : suc w.aborts.explicit ≡ w.aborts.explicit = ap (λ a. a.explicit) e in absurd (omega (arith, n))
more-aborts Conflict w e = let n : suc w.aborts.conflict ≡ w.aborts.conflict = ap (λ a. a.conflict) e in absurd (omega (arith, n))
more-aborts Overflow w e = let n : suc w.aborts.overflow ≡ w.aborts.overflow = ap (λ a. a.overflow) e in absurd (omega (arith, n))
more-aborts Other w e = let n : suc w.aborts.other ≡ w.aborts.other = ap (λ a. a.other) e in absurd (omega (arith, n))

-- an abort is counted
pub not-aborted : (status : Status) (w : Worker) → Commits w (aborted status w) → ⊥
not-aborted status w c = by_mode w.mode refl c
  where
    by_mode : (mode : Mode) → w.mode ≡ mode → Commits w (aborted status w) → ⊥
    by_mode (Free plain) e c = not-outside w (aborted status w) plain e c
    by_mode (Inside tx) e c = more-aborts status w (rw e at c.kept)

not-spared : (claim : Claim) (w : Worker) → Commits w (spared claim w) → ⊥
not-spared claim w c = by_way (is_in_the_way claim w.mode) c
  where
    by_way : (b : Bool) → Commits w (aborted_if b w) → ⊥
    by_way true c = not-aborted Conflict w c
    by_way false c = not-same w c

-- ---- a turn of a thread

-- thread t stood as `old`, and thread u, which stood as `w`, has its turn; P is what is to be shown of a commit
module _ (h : HardParts) (s : State) (t : ℕ) (old : Worker) (was : slice_get s.workers t ≡ Some old) (u : ℕ) (w : Worker) (stood : slice_get s.workers u ≡ Some w)
    (P : Type 0) where
  -- a commit of thread t comes only where P holds
  abbrev Where : State → Type 0
  Where next = (new : Worker) → slice_get next.workers t ≡ Some new → Commits old new → P

  -- the same of the thread whose turn it is, once it stands so
  abbrev Own : Worker → Type 0
  Own v = u ≡ t → Commits w v → P

  same-worker : u ≡ t → w ≡ old
  same-worker same = one (sym (rw same at stood) ∙ was)
    where
      one : Some w ≡ Some old → w ≡ old
      one e = cc

  own-at : (v new : Worker) → Own v → u ≡ t → new ≡ v → Commits old new → P
  own-at v new own same e c = own same (subst (λ (x : Worker). Commits x v) (sym (same-worker same)) (subst (λ (x : Worker). Commits old x) e c))

  not-old : (new : Worker) → new ≡ old → Commits old new → P
  not-old new e c = absurd (not-same old (subst (λ (x : Worker). Commits old x) e c))

  stays : (next : State) → next.workers ≡ s.workers → Where next
  stays next e new is c = not-old new (one (sym (subst (λ (ws : List Worker). slice_get ws t ≡ Some new) e is) ∙ was)) c
    where
      one : Some new ≡ Some old → new ≡ old
      one e = cc

  goes : (v : Worker) → Own v → Where (with_worker s u v)
  goes v own new is c = by_place (set-at s.workers u t v old new was is)
    where
      by_place : ((u ≡ t) × (new ≡ v)) ⊎ (new ≡ old) → P
      by_place (inl (same, e)) = own-at v new own same e c
      by_place (inr e) = not-old new e c

  -- what others' actions leave of a thread
  spares : (claim : Claim) (born : Option Worker) (v : Worker) → Own v → (new : Worker)
      → slice_get (with_born born (slice_set (map (spared claim) s.workers) u v)) t ≡ Some new → Commits old new → P
  spares claim born v own new is c = by_place (set-at (map (spared claim) s.workers) u t v (spared claim old) there.0 mapped there.1)
    where
      mapped : slice_get (map (spared claim) s.workers) t ≡ Some (spared claim old)
      mapped = slice_get-map (spared claim) s.workers t ∙ ap (option_map (spared claim)) was

      there : (x : Worker) × (slice_get (slice_set (map (spared claim) s.workers) u v) t ≡ Some x)
      there = set-there (map (spared claim) s.workers) u t v (spared claim old) mapped

      found : new ≡ there.0
      found = born-at born (slice_set (map (spared claim) s.workers) u v) t there.0 new there.1 is

      by_place : ((u ≡ t) × (there.0 ≡ v)) ⊎ (there.0 ≡ spared claim old) → P
      by_place (inl (same, e)) = own-at v new own same (found ∙ e) c
      by_place (inr e) = absurd (not-spared claim old (subst (λ (x : Worker). Commits old x) (found ∙ e) c))

  aborts : (status : Status) → Where (with_worker s u (aborted status w))
  aborts status = goes (aborted status w) (λ same c. absurd (not-aborted status w c))

  -- it stays in its mode
  keeps : (v : Worker) → v.mode ≡ w.mode → Where (with_worker s u v)
  keeps v e = goes v (λ same c. let inside : w.mode ≡ Inside c.tx = c.inside in let outside : v.mode ≡ Free c.plain = c.outside in absurd cc)

  halts : (status : Status) (stop : Stop) (mode : Mode) → Where (halted status stop s u w mode)
  halts status stop (Free plain) = stays (record s { stop = Some stop }) refl
  halts status stop (Inside tx) = aborts status

  fails : (frame : Frame) → Where (failed h s u w frame)
  fails frame = halts Mismatch _ w.mode

  traps : (frame : Frame) → Where (trapped h s u w frame)
  traps frame = halts Other _ w.mode

  rooms : (b : Bool) (next : State) → Where next → Where (where_room b s u w next)
  rooms true next is = is
  rooms false next is = aborts Overflow

  -- ---- actions

  mode-stays : (retires : Bool) (touch : Option Touch) (store : Option Store) (thread : Thread Frame) (mode : Mode) → w.mode ≡ mode
      → Own (record w { thread = thread; mode = mode_after retires touch store mode })
  mode-stays retires touch store thread (Free plain) e same c = absurd (not-outside w _ plain e c)
  mode-stays retires touch store thread (Inside tx) e same c = absurd (not-inside w _ (transaction_after retires touch store tx) refl c)

  does : (retires : Bool) (mutex : Option ℕ) (effect : Effect Frame) → Where (did s u w retires mutex effect)
  does retires mutex effect = spares (record { touch = effect.touch; mutex = mutex }) (option_map new_worker effect.born) _
      (mode-stays retires effect.touch effect.store effect.thread w.mode refl)

  settles : (frame : Frame) (retires : Bool) (mutex : Option ℕ) (outcome : Outcome Frame) → Where (settled h s u w frame retires mutex outcome)
  settles frame retires mutex (Goes effect) = rooms (has_room_in w.mode effect.touch) (did s u w retires mutex effect) (does retires mutex effect)
  settles frame retires mutex Waits = stays s refl
  settles frame retires mutex (Faults cause) = traps frame
  settles frame retires mutex (Ends code) = stays (settled h s u w frame retires mutex (Ends code)) refl

  -- ---- ends

  module _ (may : u ≡ t → P) where
    commits : (moved : Worker) (mode : Mode) → w.mode ≡ mode → Where (closed s u mode moved)
    commits moved (Free plain) e = goes (outside moved) (λ same c. may same)
    commits moved (Inside tx) e = goes (record (outside moved) { hits = _ }) (λ same c. may same)

    where-ends : (b : Bool) (next : State) → Where next → Where (where_ends b s u w next)
    where-ends true next is = is
    where-ends false next is = aborts Locked

    ends : (moved : Worker) → Where (ended s u w moved)
    ends moved = where-ends (can_end w.mode) (closed s u w.mode moved) (commits moved w.mode refl)

    exits : (n : ℕ) → Where (exited s u w n)
    exits n = where-ends (can_end w.mode) (left u n (closed s u w.mode (record w { thread = left_as u n }))) (commits (record w { thread = left_as u n }) w.mode refl)

  -- ---- checks and copies

  agrees : (stack : CallStack Frame) (b : Bool) → Where (agreed h s u w stack b)
  agrees stack true = keeps (onward w stack) refl
  agrees stack false = fails stack.frame

  compares : (stack : CallStack Frame) (ty : Ty) (a b : Option ℕ) → Where (compared h s u w stack ty a b)
  compares stack ty (Some a) (Some b) = agrees stack (same_word ty a b)
  compares stack ty (Some a) None = traps stack.frame
  compares stack ty None b = traps stack.frame

  checks : (stack : CallStack Frame) (ty : Ty) (reg : Loc) (active : Bool) → Where (checked h s u w stack ty reg active)
  checks stack ty reg true = compares stack ty (get stack.frame.masters reg.0) (get stack.frame.shadows reg.0)
  checks stack ty reg false = keeps (onward w stack) refl

  copies : (stack : CallStack Frame) (reg : Loc) (o : Option ℕ) → Where (copied h s u w stack reg o)
  copies stack reg (Some n) = keeps _ refl
  copies stack reg None = traps stack.frame

  matches : (stack : CallStack Frame) (touch : Touch) (b : Bool) → Where (matched s u w stack touch b)
  matches stack touch true =
      does false None (record { thread = in_frame stack (passed stack.frame); world = s.world; born = None; touch = Some touch; store = None })
  matches stack touch false = spares (record { touch = Some touch; mutex = None }) None (aborted Mismatch w) (λ same c. absurd (not-aborted Mismatch w c))

  reads-back : (stack : CallStack Frame) (tx : Transaction) (touch : Touch) (n : ℕ) (valid : Bool) → Where (read_back h s u w stack tx touch n valid)
  reads-back stack tx touch n true = rooms (has_room touch tx.footprint) (matched s u w stack touch (nat_eq (peek (seen_through tx.footprint s.memory) touch.address touch.size) n))
      (matches stack touch (nat_eq (peek (seen_through tx.footprint s.memory) touch.address touch.size) n))
  reads-back stack tx touch n false = traps stack.frame

  reads-at : (stack : CallStack Frame) (tx : Transaction) (width : Width) (address n : Option ℕ) → Where (read_at h s u w stack tx width address n)
  reads-at stack tx width (Some address) (Some n) = reads-back stack tx (touch_at (place_at address width) true false) n _
  reads-at stack tx width (Some address) None = traps stack.frame
  reads-at stack tx width None n = traps stack.frame

  reads-as : (stack : CallStack Frame) (tx : Transaction) (ptr val : HVal) (width : Option Width) → Where (read_as h s u w stack tx ptr val width)
  reads-as stack tx ptr val (Some width) = reads-at stack tx width (operand_word h stack.frame W64 ptr) (operand_word h stack.frame width val)
  reads-as stack tx ptr val None = traps stack.frame

  checks-memory : (stack : CallStack Frame) (ty : Ty) (ptr val : HVal) (mode : Mode) → Where (memory_checked h s u w stack ty ptr val mode)
  checks-memory stack ty ptr val (Free plain) = keeps (onward w stack) refl
  checks-memory stack ty ptr val (Inside tx) = reads-as stack tx ptr val (memory_width ty)

  begins : (kept : CallStack Frame) (stack : CallStack Frame) (mode : Mode) → w.mode ≡ mode → Where (with_worker s u (begun kept (onward w stack) mode))
  begins kept stack (Free plain) e = goes _ (λ same c. absurd (not-outside w _ plain e c))
  begins kept stack (Inside tx) e = keeps (onward w stack) refl

  -- ---- actions of mutexes

  watches : (b : Bool) (stack : CallStack Frame) (target : Option (Side × Loc)) (retires : Bool) (call : MutexCall) (tx : Transaction) → (b ≡ false → u ≡ t → P)
      → Where (watched_if b s u w stack target retires call h tx)
  watches true stack target retires call tx may =
      spares (record { touch = None; mutex = None }) None _ (λ same c. absurd (not-inside w _ (transaction_after retires None None (watching call tx)) refl c))
  watches false stack target retires call tx may = ends (may refl) w

  acts : (stack : CallStack Frame) (target : Option (Side × Loc)) (retires : Bool) (action : Action)
      → ((call : MutexCall) (tx : Transaction) → mutex_call action ≡ Some call → w.mode ≡ Inside tx → can_watch call s.world tx ≡ false → u ≡ t → P)
      → (mode : Mode) (call : Option MutexCall) → w.mode ≡ mode → mutex_call action ≡ call → Where (acted_by h s u w stack target retires action mode call)
  acts stack target retires action may (Inside tx) (Some call) inside is = watches (can_watch call s.world tx) stack target retires call tx (may call tx is inside)
  acts stack target retires action may (Inside tx) None inside is = settles stack.frame retires None _
  acts stack target retires action may (Free plain) call inside is = settles stack.frame retires (taken_by call) _

-- ---- a turn

module _ (h : HardParts) (s : State) (t : ℕ) (old : Worker) (was : slice_get s.workers t ≡ Some old) where
  -- whose turn it is, and where that thread may commit
  abbrev MayAt : ℕ → Worker → Type 0
  MayAt u w = (u ≡ t) × MayCommit h s w

  abbrev CommitsIn : ℕ → Worker → State → Type 0
  CommitsIn u w next = (new : Worker) → slice_get next.workers t ≡ Some new → Commits old new → MayAt u w

  module _ (u : ℕ) (w : Worker) (stood : slice_get s.workers u ≡ Some w) where
    cuts : (b : Bool) (stack : CallStack Frame) → w.thread ≡ Running stack → inst_at h stack.frame ≡ Some Cut → nat_le threshold w.counter ≡ b
        → CommitsIn u w (cut_if b s u w (onward w stack))
    cuts true stack on at enough = ends h s t old was u w stood (MayAt u w) (λ same. (same, AtCut stack on at (leb-true threshold w.counter enough))) (onward w stack)
    cuts false stack on at enough = keeps h s t old was u w stood (MayAt u w) (onward w stack) refl

    steps : ((frame : Frame) → inst_at h frame ≡ Some End → IsOuterCall h (inst_at h (passed frame))) → (stack : CallStack Frame) → w.thread ≡ Running stack
        → (inst : HInst) → inst_at h stack.frame ≡ Some inst → CommitsIn u w (stepped h s u w stack inst)
    steps text stack on Cut at = cuts (nat_le threshold w.counter) stack on at refl
    steps text stack on Begin at = begins h s t old was u w stood (MayAt u w) stack stack w.mode refl
    steps text stack on End at = ends h s t old was u w stood (MayAt u w) (λ same. (same, AtEnd stack on at (text stack.frame at))) (onward w stack)
    steps text stack on (Tick work) at = keeps h s t old was u w stood (MayAt u w) (ticked work (onward w stack)) refl
    steps text stack on (Chk when ty reg) at = checks h s t old was u w stood (MayAt u w) stack ty reg _
    steps text stack on (ChkMem ty ptr val) at = checks-memory h s t old was u w stood (MayAt u w) stack ty ptr val w.mode
    steps text stack on (Mov ty reg) at = copies h s t old was u w stood (MayAt u w) stack reg _
    steps text stack on (Do side inst retires) at =
        acts h s t old was u w stood (MayAt u w) stack _ retires (action_on h side stack.frame inst)
        (λ call tx is inside no_watch same. (same, AtMutex stack side inst retires call tx on at is inside no_watch)) w.mode _ refl refl

    fetches : ((frame : Frame) → inst_at h frame ≡ Some End → IsOuterCall h (inst_at h (passed frame))) → (stack : CallStack Frame) → w.thread ≡ Running stack
        → (o : Option HInst) → inst_at h stack.frame ≡ o → CommitsIn u w (fetched h s u w stack o)
    fetches text stack on None at = traps h s t old was u w stood (MayAt u w) stack.frame
    fetches text stack on (Some inst) at = steps text stack on inst at

    pub turns-commit : ((frame : Frame) → inst_at h frame ≡ Some End → IsOuterCall h (inst_at h (passed frame))) → (thread : Thread Frame) → w.thread ≡ thread
        → CommitsIn u w (turned_by h s u w thread)
    turns-commit text (Running stack) on = fetches text stack on (inst_at h stack.frame) refl
    turns-commit text (Exiting n) on = exits h s t old was u w stood (MayAt u w) (λ same. (same, AtExit n on)) n
    turns-commit text Ended on = stays h s t old was u w stood (MayAt u w) s refl
