-- The runtime's words stay steady: each turn, abort and upset keeps what holds of them.
use Rattle.std.proofs.Common.{ℕ, zero, suc, ◌≡◌, ◌≤◌, ◌<◌, ◌⊎◌, ◌∙◌, Bool, true, false, List, [], ◌∷◌, ◌++◌, map, length, Option, Some, None, slice_get, slice_set, nat_eq, nat_le, nat_lt, refl, ap, sym, subst, inl, inr, arith}
use Rattle.std.specs.Option.{option_map}
use Rattle.std.proofs.lemmas.Bool.{ltb-true}
use Rattle.std.proofs.lemmas.Option.{slice_get-map}
use Rattle.ir_core.specs.declared.types.Loc.{Loc}
use Rattle.ir_core.specs.declared.types.Ty.{Ty}
use Rattle.ir_core.specs.declared.types.Width.{Width}
use Rattle.ir_core.specs.declared.types.Width.TheVariants.{W64}
use Rattle.ir_core.specs.declared.values.Side.{Side}
use Rattle.mem_image.specs.Bytes.{peek}
use Rattle.mem_image.specs.Touches.{Touch, Store}
use Rattle.rtm_core.specs.Footprint.{has_room, seen_through}
use Rattle.tx_runtime.specs.Words.{tries, threshold}
use Rattle.inst_meaning.specs.declared.actions.Action.{Action}
use Rattle.inst_meaning.specs.Action.{place_at}
use Rattle.inst_meaning.specs.Operands.{memory_width}
use Rattle.inst_meaning.specs.Registers.{get}
use Rattle.process.specs.declared.state.CallStack.{CallStack}
use Rattle.process.specs.declared.state.Thread.{Thread}
use Rattle.process.specs.declared.state.Thread.TheVariants.{Running, Exiting, Ended}
use Rattle.process.specs.Outcome.{touch_at, effect_of_call, Effect, Outcome, Goes, Waits, Faults, Ends}
use Rattle.process.specs.State.{in_frame, new_thread}
use Rattle.process.specs.Process.{with_born}
use Rattle.src_meaning.specs.State.{main_of}
use Rattle.sched_file.specs.declared.entries.UpsetSpec.{UpsetSpec}
use Rattle.sched_file.specs.Events.{Happening, TurnOf, AbortOf, UpsetBy}
use Rattle.hard_ir.specs.declared.instruction.HVal.{HVal}
use Rattle.hard_ir.specs.declared.instruction.HInst.{HInst}
use Rattle.hard_ir.specs.declared.instruction.HInst.TheVariants.{Cut, Begin, End, Tick, Chk, ChkMem, Mov, Do}
use Rattle.hard_ir.specs.Hardened.{HardParts}
use Rattle.hard_frames.specs.declared.outcome.Aborts.{Aborts}
use Rattle.hard_frames.specs.declared.outcome.Stop.{Stop}
use Rattle.hard_frames.specs.declared.state.Frame.{Frame}
use Rattle.hard_frames.specs.Code.{inst_at}
use Rattle.hard_frames.specs.Frames.{frames, passed, action_on}
use Rattle.hard_meaning.specs.State.{Transaction, Mode, Free, Inside, Worker, State, Upset, Nowhere, OnAnother, InWindow, Struck, new_worker, no_aborts, opening, seen}
use Rattle.hard_meaning.specs.Aborts.{Status, Mismatch, Locked, Conflict, Overflow, Other, Claim, aborted, aborted_if, spared, is_in_the_way, counted}
use Rattle.hard_meaning.specs.Effects.{with_worker, did, mode_after, transaction_after, has_room_in, where_room}
use Rattle.hard_meaning.specs.Runtime.{begun, begun_if, cut_if, cut, ticked, closed, outside, where_ends, can_end, ended}
use Rattle.hard_meaning.specs.Turns.{onward, halted, failed, trapped, settled, watched_if, acted_by, agreed, compared, checked, copied, matched, read_back, read_at, read_as, memory_checked, stepped, fetched, left, left_as, exited, turned_by, turned}
use Rattle.hard_meaning.specs.Checks.{is_active, same_word, operand_word}
use Rattle.hard_meaning.specs.Locks.{MutexCall, Locks, Unlocks, mutex_call, taken_by, can_watch, watching}
use Rattle.hard_meaning.specs.Records.{some_stands, records}
use Rattle.hard_meaning.specs.Runs.{abort_in, happens, happened, unless_stopped, run_from}
use Rattle.hard_meaning.specs.Strikes.{Target, target_of, struck, kind_of, is_in_window, marked, marked_as, struck_as, struck_at, upset_in, noted}
use Rattle.tx_bounds.specs.Steady.{IsTried, IsCalm, Steady, IsSteady, AreSteady}

module _ (h : HardParts) where
  -- ---- one thread

  counted-some : (status : Status) (aborts : Aborts) → counted status aborts ≡ no_aborts → ⊥
  counted-some Mismatch a e = let n : suc a.explicit ≡ 0 = ap (λ x. x.explicit) e in absurd (omega (arith, n))
  counted-some Locked a e = let n : suc a.explicit ≡ 0 = ap (λ x. x.explicit) e in absurd (omega (arith, n))
  counted-some Conflict a e = let n : suc a.conflict ≡ 0 = ap (λ x. x.conflict) e in absurd (omega (arith, n))
  counted-some Overflow a e = let n : suc a.overflow ≡ 0 = ap (λ x. x.overflow) e in absurd (omega (arith, n))
  counted-some Other a e = let n : suc a.other ≡ 0 = ap (λ x. x.other) e in absurd (omega (arith, n))

  aborted-steady : (status : Status) (w : Worker) → IsSteady h w → IsSteady h (aborted status w)
  aborted-steady status w steady = by_mode w.mode refl
    where
      by_mode : (mode : Mode) → w.mode ≡ mode → IsSteady h (aborted status w)
      by_mode (Free plain) e = rw e (rw e at steady)
      by_mode (Inside tx) e =
          let tried : IsTried h (Inside tx) w.attempts = rw e at steady.tried in
          rw e (record { tried = tried.1; calm = λ none. absurd (counted-some status w.aborts none) })

  spared-steady : (claim : Claim) (w : Worker) → IsSteady h w → IsSteady h (spared claim w)
  spared-steady claim w steady = by_way (is_in_the_way claim w.mode)
    where
      by_way : (b : Bool) → IsSteady h (aborted_if b w)
      by_way true = aborted-steady Conflict w steady
      by_way false = steady

  -- outside, with no attempts
  pub fresh-steady : (aborts : Aborts) → Steady h (Free false) 0 aborts
  fresh-steady aborts = record { tried = omega arith; calm = λ none. refl }

  after-steady : (retires : Bool) (touch : Option Touch) (store : Option Store) (mode : Mode) (attempts : ℕ) (aborts : Aborts) → Steady h mode attempts aborts
      → Steady h (mode_after retires touch store mode) attempts aborts
  after-steady retires touch store (Free plain) attempts aborts steady = steady
  after-steady retires touch store (Inside tx) attempts aborts steady = record { tried = steady.tried; calm = steady.calm }

  -- ---- all threads

  set-steady : (workers : List Worker) (u : ℕ) (v : Worker) → AreSteady h workers → IsSteady h v → AreSteady h (slice_set workers u v)
  set-steady [] u v all is t w at = absurd cc
  set-steady (x ∷ xs) zero v all is zero w at = let same : v ≡ w = cc in subst (IsSteady h) same is
  set-steady (x ∷ xs) zero v all is (suc t) w at = all (suc t) w at
  set-steady (x ∷ xs) (suc u) v all is zero w at = all zero w at
  set-steady (x ∷ xs) (suc u) v all is (suc t) w at = set-steady xs u v (λ k. all (suc k)) is t w at

  map-steady : (claim : Claim) (workers : List Worker) → AreSteady h workers → AreSteady h (map (spared claim) workers)
  map-steady claim [] all t w at = absurd cc
  map-steady claim (x ∷ xs) all zero w at = let same : spared claim x ≡ w = cc in subst (IsSteady h) same (spared-steady claim x (all zero x refl))
  map-steady claim (x ∷ xs) all (suc t) w at = map-steady claim xs (λ k. all (suc k)) t w at

  born-steady : (born : Option (Thread Frame)) (workers : List Worker) → AreSteady h workers → AreSteady h (with_born (option_map new_worker born) workers)
  born-steady None workers all t w at = all t w at
  born-steady (Some thread) [] all zero w at = let same : new_worker thread ≡ w = cc in subst (IsSteady h) same (fresh-steady no_aborts)
  born-steady (Some thread) [] all (suc t) w at = absurd cc
  born-steady (Some thread) (x ∷ xs) all zero w at = all zero w at
  born-steady (Some thread) (x ∷ xs) all (suc t) w at = born-steady (Some thread) xs (λ k. all (suc k)) t w at

  -- ---- a turn

  module _ (s : State) (all : AreSteady h s.workers) (u : ℕ) (w : Worker) (is : IsSteady h w) where
    abbrev After : State → Type 0
    After next = AreSteady h next.workers

    goes : (v : Worker) → IsSteady h v → After (with_worker s u v)
    goes v steady = set-steady s.workers u v all steady

    aborts : (status : Status) → After (with_worker s u (aborted status w))
    aborts status = goes (aborted status w) (aborted-steady status w is)

    halts : (status : Status) (stop : Stop) (mode : Mode) → After (halted status stop s u w mode)
    halts status stop (Free plain) = all
    halts status stop (Inside tx) = aborts status

    rooms : (b : Bool) (next : State) → After next → After (where_room b s u w next)
    rooms true next after = after
    rooms false next after = aborts Overflow

    spares : (claim : Claim) (v : Worker) → IsSteady h v → AreSteady h (slice_set (map (spared claim) s.workers) u v)
    spares claim v steady = set-steady (map (spared claim) s.workers) u v (map-steady claim s.workers all) steady

    does : (retires : Bool) (mutex : Option ℕ) (effect : Effect Frame) → After (did s u w retires mutex effect)
    does retires mutex effect =
        born-steady effect.born _ (spares _ (record w { thread = effect.thread; mode = mode_after retires effect.touch effect.store w.mode })
        (after-steady retires effect.touch effect.store w.mode w.attempts w.aborts is))

    settles : (frame : Frame) (retires : Bool) (mutex : Option ℕ) (outcome : Outcome Frame) → After (settled h s u w frame retires mutex outcome)
    settles frame retires mutex (Goes effect) = rooms (has_room_in w.mode effect.touch) (did s u w retires mutex effect) (does retires mutex effect)
    settles frame retires mutex Waits = all
    settles frame retires mutex (Faults cause) = halts Other _ w.mode
    settles frame retires mutex (Ends code) = all

    closes : (moved : Worker) (mode : Mode) → After (closed s u mode moved)
    closes moved (Free plain) = goes (outside moved) (fresh-steady moved.aborts)
    closes moved (Inside tx) = goes (record (outside moved) { hits = tx.struck ++ moved.hits }) (fresh-steady moved.aborts)

    where-ends : (b : Bool) (next : State) → After next → After (where_ends b s u w next)
    where-ends true next after = after
    where-ends false next after = aborts Locked

    ends : (moved : Worker) → After (ended s u w moved)
    ends moved = where-ends (can_end w.mode) (closed s u w.mode moved) (closes moved w.mode)

    exits : (n : ℕ) → After (exited s u w n)
    exits n = where-ends (can_end w.mode) (left u n (closed s u w.mode (record w { thread = left_as u n }))) (closes (record w { thread = left_as u n }) w.mode)

    agrees : (stack : CallStack Frame) (b : Bool) → After (agreed h s u w stack b)
    agrees stack true = goes (onward w stack) is
    agrees stack false = halts Mismatch _ w.mode

    compares : (stack : CallStack Frame) (ty : Ty) (a b : Option ℕ) → After (compared h s u w stack ty a b)
    compares stack ty (Some a) (Some b) = agrees stack (same_word ty a b)
    compares stack ty (Some a) None = halts Other _ w.mode
    compares stack ty None b = halts Other _ w.mode

    checks : (stack : CallStack Frame) (ty : Ty) (reg : Loc) (active : Bool) → After (checked h s u w stack ty reg active)
    checks stack ty reg true = compares stack ty (get stack.frame.masters reg.0) (get stack.frame.shadows reg.0)
    checks stack ty reg false = goes (onward w stack) is

    copies : (stack : CallStack Frame) (reg : Loc) (o : Option ℕ) → After (copied h s u w stack reg o)
    copies stack reg (Some n) = goes _ is
    copies stack reg None = halts Other _ w.mode

    matches : (stack : CallStack Frame) (touch : Touch) (b : Bool) → After (matched s u w stack touch b)
    matches stack touch true =
        does false None (record { thread = in_frame stack (passed stack.frame); world = s.world; born = None; touch = Some touch; store = None })
    matches stack touch false = spares (record { touch = Some touch; mutex = None }) (aborted Mismatch w) (aborted-steady Mismatch w is)

    reads-back : (stack : CallStack Frame) (tx : Transaction) (touch : Touch) (n : ℕ) (valid : Bool) → After (read_back h s u w stack tx touch n valid)
    reads-back stack tx touch n true =
        rooms (has_room touch tx.footprint) (matched s u w stack touch (nat_eq (peek (seen_through tx.footprint s.memory) touch.address touch.size) n))
        (matches stack touch (nat_eq (peek (seen_through tx.footprint s.memory) touch.address touch.size) n))
    reads-back stack tx touch n false = halts Other _ w.mode

    reads-at : (stack : CallStack Frame) (tx : Transaction) (width : Width) (address n : Option ℕ) → After (read_at h s u w stack tx width address n)
    reads-at stack tx width (Some address) (Some n) = reads-back stack tx (touch_at (place_at address width) true false) n _
    reads-at stack tx width (Some address) None = halts Other _ w.mode
    reads-at stack tx width None n = halts Other _ w.mode

    reads-as : (stack : CallStack Frame) (tx : Transaction) (ptr val : HVal) (width : Option Width) → After (read_as h s u w stack tx ptr val width)
    reads-as stack tx ptr val (Some width) = reads-at stack tx width (operand_word h stack.frame W64 ptr) (operand_word h stack.frame width val)
    reads-as stack tx ptr val None = halts Other _ w.mode

    checks-memory : (stack : CallStack Frame) (ty : Ty) (ptr val : HVal) (mode : Mode) → After (memory_checked h s u w stack ty ptr val mode)
    checks-memory stack ty ptr val (Free plain) = goes (onward w stack) is
    checks-memory stack ty ptr val (Inside tx) = reads-as stack tx ptr val (memory_width ty)

    -- ---- begins

    begun-if : (b : Bool) (stack : CallStack Frame) → inst_at h stack.frame ≡ Some Begin → w.mode ≡ Free false → nat_lt w.attempts tries ≡ b
        → IsSteady h (begun_if b stack (onward w stack))
    begun-if true stack at outside few = record { tried = (at, ltb-true w.attempts tries few); calm = λ none. rw outside at (is.calm none) }
    begun-if false stack at outside many = record { tried = omega arith; calm = λ none. never (rw outside at (is.calm none)) }
      where
        never : w.attempts ≡ 0 → ⊥
        never zeroes = let few : nat_lt w.attempts tries ≡ true = rw zeroes refl in cc

    begun-from : (mode : Mode) → w.mode ≡ mode → (stack : CallStack Frame) → inst_at h stack.frame ≡ Some Begin → IsSteady h (begun stack (onward w stack) mode)
    begun-from (Free true) e stack at = is
    begun-from (Free false) e stack at = begun-if (nat_lt w.attempts tries) stack at e refl
    begun-from (Inside tx) e stack at = is

    -- ---- actions and steps

    watches : (b : Bool) (stack : CallStack Frame) (target : Option (Side × Loc)) (retires : Bool) (call : MutexCall) (tx : Transaction) → w.mode ≡ Inside tx
        → After (watched_if b s u w stack target retires call h tx)
    watches true stack target retires call tx e =
        spares (record { touch = None; mutex = None })
        (record w {
          thread = (effect_of_call (frames h) (seen s w.mode) target stack 0).thread;
          mode = mode_after retires None None (Inside (watching call tx));
        }) (watched-steady call)
      where
        watched-steady : (call : MutexCall) → Steady h (mode_after retires None None (Inside (watching call tx))) w.attempts w.aborts
        watched-steady (Locks address) = let inside : Steady h (Inside tx) w.attempts w.aborts = rw e at is in record { tried = inside.tried; calm = inside.calm }
        watched-steady (Unlocks address) = let inside : Steady h (Inside tx) w.attempts w.aborts = rw e at is in record { tried = inside.tried; calm = inside.calm }
    watches false stack target retires call tx e = ends w

    acts : (stack : CallStack Frame) (target : Option (Side × Loc)) (retires : Bool) (action : Action) (mode : Mode) (call : Option MutexCall) → w.mode ≡ mode
        → After (acted_by h s u w stack target retires action mode call)
    acts stack target retires action (Inside tx) (Some call) e = watches (can_watch call s.world tx) stack target retires call tx e
    acts stack target retires action (Inside tx) None e = settles stack.frame retires None _
    acts stack target retires action (Free plain) call e = settles stack.frame retires (taken_by call) _

    cuts : (b : Bool) (moved : Worker) → IsSteady h moved → After (cut_if b s u w moved)
    cuts true moved steady = ends moved
    cuts false moved steady = goes moved steady

    steps : (stack : CallStack Frame) (inst : HInst) → inst_at h stack.frame ≡ Some inst → After (stepped h s u w stack inst)
    steps stack Cut at = cuts (nat_le threshold w.counter) (onward w stack) is
    steps stack Begin at = goes (begun stack (onward w stack) w.mode) (begun-from w.mode refl stack at)
    steps stack End at = ends (onward w stack)
    steps stack (Tick work) at = goes (ticked work (onward w stack)) is
    steps stack (Chk when ty reg) at = checks stack ty reg _
    steps stack (ChkMem ty ptr val) at = checks-memory stack ty ptr val w.mode
    steps stack (Mov ty reg) at = copies stack reg _
    steps stack (Do side inst retires) at = acts stack _ retires (action_on h side stack.frame inst) w.mode _ refl

    fetches : (stack : CallStack Frame) (o : Option HInst) → inst_at h stack.frame ≡ o → After (fetched h s u w stack o)
    fetches stack None at = halts Other _ w.mode
    fetches stack (Some inst) at = steps stack inst at

    turns-by : (thread : Thread Frame) → After (turned_by h s u w thread)
    turns-by (Running stack) = fetches stack (inst_at h stack.frame) refl
    turns-by (Exiting n) = exits n
    turns-by Ended = all

    -- ---- upsets

    marked-steady : (kind : Upset) (k : ℕ) (thread : Thread Frame) (mode : Mode) → Steady h mode w.attempts w.aborts
        → IsSteady h (marked_as kind k (record w { thread = thread; mode = mode }))
    marked-steady Nowhere k thread mode steady = steady
    marked-steady OnAnother k thread mode steady = steady
    marked-steady InWindow k thread mode steady = steady
    marked-steady Struck k thread (Free plain) steady = steady
    marked-steady Struck k thread (Inside tx) steady = record { tried = steady.tried; calm = steady.calm }

    strikes : (upset : UpsetSpec) → upset.tid.0 ≡ u → (o : Option Target) → After (struck_at h s upset w o)
    strikes upset same None = all
    strikes upset same (Some to) = set-steady s.workers upset.tid.0 _ all (marked-steady kind (length s.upsets) (struck upset to) w.mode is)
      where
        kind : Upset
        kind = kind_of (some_stands (records s)) (is_in_window h w.mode to.frame to.register)

  -- ---- events

  module _ (s : State) (all : AreSteady h s.workers) where
    turned-steady : (u : ℕ) (o : Option Worker) → slice_get s.workers u ≡ o → AreSteady h (turned h s u o).workers
    turned-steady u None at = all
    turned-steady u (Some w) at = turns-by s all u w (all u w at) w.thread

    abort-steady : (u : ℕ) (o : Option Worker) → slice_get s.workers u ≡ o → AreSteady h (abort_in s u o).workers
    abort-steady u None at = all
    abort-steady u (Some w) at = aborts s all u w (all u w at) Other

    upset-steady : (upset : UpsetSpec) (o : Option Worker) → slice_get s.workers upset.tid.0 ≡ o → AreSteady h (upset_in h s upset o).workers
    upset-steady upset None at = all
    upset-steady upset (Some w) at = strikes s all upset.tid.0 w (all upset.tid.0 w at) upset refl (target_of h upset w.thread)

    event-steady : (event : Happening) → AreSteady h (happens h s event).workers
    event-steady (TurnOf thread) = turned-steady thread.0 (slice_get s.workers thread.0) refl
    event-steady (AbortOf thread) = abort-steady thread.0 (slice_get s.workers thread.0) refl
    event-steady (UpsetBy upset) = upset-steady upset (slice_get s.workers upset.tid.0) refl

    happened-steady : (event : Happening) (o : Option Stop) → AreSteady h (unless_stopped o s (happens h s event)).workers
    happened-steady event None = event-steady event
    happened-steady event (Some stop) = all

  run-steady : (events : List Happening) (s : State) → AreSteady h s.workers → AreSteady h (run_from h s events).workers
  run-steady [] s all = all
  run-steady (event ∷ events) s all = run-steady events (happened h s event) (happened-steady s all event s.stop)

  first-steady : (thread : Thread Frame) → AreSteady h (new_worker thread ∷ [])
  first-steady thread zero w at = let same : new_worker thread ≡ w = cc in subst (IsSteady h) same (fresh-steady no_aborts)
  first-steady thread (suc t) w at = absurd cc

  -- at any moment of any run
  pub runs-steady : (arguments : List ℕ) (events : List Happening) → AreSteady h (run_from h (opening h arguments) events).workers
  runs-steady arguments events = run-steady events (opening h arguments) (first-steady (new_thread (frames h) 0 (main_of h.heads) []))
