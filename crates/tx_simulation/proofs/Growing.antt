-- The upsets of a run only grow: a turn and an abort leave them as they are, and an upset joins those that came before it.
use Rattle.std.proofs.Common.{ℕ, ◌≡◌, ◌∙◌, Bool, true, false, ◌||◌, List, [], ◌∷◌, ◌++◌, Option, Some, None, slice_get, refl, ap, sym, append-nil, append_assoc}
use Rattle.std.specs.List.{list_any}
use Rattle.std.proofs.lemmas.List.Folds.{list_any-append}
use Rattle.ir_core.specs.declared.types.Loc.{Loc}
use Rattle.ir_core.specs.declared.types.Ty.{Ty}
use Rattle.ir_core.specs.declared.types.Width.{Width}
use Rattle.ir_core.specs.declared.values.Side.{Side}
use Rattle.mem_image.specs.Touches.{Touch}
use Rattle.inst_meaning.specs.declared.actions.Action.{Action}
use Rattle.process.specs.declared.state.CallStack.{CallStack}
use Rattle.process.specs.declared.state.Thread.{Thread}
use Rattle.process.specs.declared.state.Thread.TheVariants.{Running, Exiting, Ended}
use Rattle.process.specs.Outcome.{Outcome, Goes, Waits, Faults, Ends}
use Rattle.sched_file.specs.declared.entries.UpsetSpec.{UpsetSpec}
use Rattle.sched_file.specs.Events.{Happening, TurnOf, AbortOf, UpsetBy}
use Rattle.hard_ir.specs.declared.instruction.HVal.{HVal}
use Rattle.hard_ir.specs.declared.instruction.HInst.{HInst}
use Rattle.hard_ir.specs.declared.instruction.HInst.TheVariants.{Cut, Begin, End, Tick, Chk, ChkMem, Mov, Do}
use Rattle.hard_ir.specs.Hardened.{HardParts}
use Rattle.hard_frames.specs.declared.outcome.Stop.{Stop}
use Rattle.hard_frames.specs.declared.state.Frame.{Frame}
use Rattle.hard_meaning.specs.State.{Transaction, Mode, Free, Inside, Worker, Upset, Nowhere, State}
use Rattle.hard_meaning.specs.Aborts.{Status}
use Rattle.hard_meaning.specs.Effects.{did, has_room_in, where_room}
use Rattle.hard_meaning.specs.Locks.{MutexCall}
use Rattle.hard_meaning.specs.Runs.{abort_in, happens, unless_stopped, happened, run_from}
use Rattle.hard_meaning.specs.Runtime.{can_end, where_ends, closed, ended, cut_if}
use Rattle.hard_meaning.specs.Strikes.{Target, struck_at, upset_in}
use Rattle.hard_meaning.specs.Turns.{halted, failed, trapped, settled, watched_if, acted_by, agreed, compared, checked, copied, matched, read_back, read_at, read_as, memory_checked, stepped, fetched, turned_by, turned, turn_of}
use Rattle.tx_simulation.proofs.Holds.{is_broken}

-- ---- a turn

room-upsets : (b : Bool) (s : State) (t : ℕ) (w : Worker) (next : State) → next.upsets ≡ s.upsets → (where_room b s t w next).upsets ≡ s.upsets
room-upsets true s t w next e = e
room-upsets false s t w next e = refl

ends-upsets : (b : Bool) (s : State) (t : ℕ) (w : Worker) (next : State) → next.upsets ≡ s.upsets → (where_ends b s t w next).upsets ≡ s.upsets
ends-upsets true s t w next e = e
ends-upsets false s t w next e = refl

closed-upsets : (s : State) (t : ℕ) (mode : Mode) (w : Worker) → (closed s t mode w).upsets ≡ s.upsets
closed-upsets s t (Free plain) w = refl
closed-upsets s t (Inside tx) w = refl

ended-upsets : (s : State) (t : ℕ) (w moved : Worker) → (ended s t w moved).upsets ≡ s.upsets
ended-upsets s t w moved = ends-upsets (can_end w.mode) s t w (closed s t w.mode moved) (closed-upsets s t w.mode moved)

cut-upsets : (b : Bool) (s : State) (t : ℕ) (w moved : Worker) → (cut_if b s t w moved).upsets ≡ s.upsets
cut-upsets true s t w moved = ended-upsets s t w moved
cut-upsets false s t w moved = refl

halted-upsets : (status : Status) (stop : Stop) (s : State) (t : ℕ) (w : Worker) (mode : Mode) → (halted status stop s t w mode).upsets ≡ s.upsets
halted-upsets status stop s t w (Free plain) = refl
halted-upsets status stop s t w (Inside tx) = refl

module _ (h : HardParts) (s : State) (t : ℕ) (w : Worker) where
  failed-upsets : (frame : Frame) → (failed h s t w frame).upsets ≡ s.upsets
  failed-upsets frame = search halted-upsets

  trapped-upsets : (frame : Frame) → (trapped h s t w frame).upsets ≡ s.upsets
  trapped-upsets frame = search halted-upsets

  settled-upsets : (frame : Frame) (retires : Bool) (mutex : Option ℕ) (outcome : Outcome Frame) → (settled h s t w frame retires mutex outcome).upsets ≡ s.upsets
  settled-upsets frame retires mutex (Goes effect) = room-upsets (has_room_in w.mode effect.touch) s t w (did s t w retires mutex effect) refl
  settled-upsets frame retires mutex Waits = refl
  settled-upsets frame retires mutex (Faults cause) = trapped-upsets frame
  settled-upsets frame retires mutex (Ends code) = refl

  watched-upsets : (b : Bool) (stack : CallStack Frame) (target : Option (Side × Loc)) (retires : Bool) (call : MutexCall) (tx : Transaction)
      → (watched_if b s t w stack target retires call h tx).upsets ≡ s.upsets
  watched-upsets true stack target retires call tx = refl
  watched-upsets false stack target retires call tx = ended-upsets s t w w

  acted-upsets : (stack : CallStack Frame) (target : Option (Side × Loc)) (retires : Bool) (action : Action) (mode : Mode) (call : Option MutexCall)
      → (acted_by h s t w stack target retires action mode call).upsets ≡ s.upsets
  acted-upsets stack target retires action (Inside tx) (Some call) = search watched-upsets
  acted-upsets stack target retires action (Inside tx) None = search settled-upsets
  acted-upsets stack target retires action (Free plain) call = search settled-upsets

  agreed-upsets : (stack : CallStack Frame) (b : Bool) → (agreed h s t w stack b).upsets ≡ s.upsets
  agreed-upsets stack true = refl
  agreed-upsets stack false = failed-upsets stack.frame

  compared-upsets : (stack : CallStack Frame) (ty : Ty) (a b : Option ℕ) → (compared h s t w stack ty a b).upsets ≡ s.upsets
  compared-upsets stack ty (Some a) (Some b) = search agreed-upsets
  compared-upsets stack ty (Some a) None = trapped-upsets stack.frame
  compared-upsets stack ty None b = trapped-upsets stack.frame

  checked-upsets : (stack : CallStack Frame) (ty : Ty) (reg : Loc) (active : Bool) → (checked h s t w stack ty reg active).upsets ≡ s.upsets
  checked-upsets stack ty reg true = search compared-upsets
  checked-upsets stack ty reg false = refl

  copied-upsets : (stack : CallStack Frame) (reg : Loc) (o : Option ℕ) → (copied h s t w stack reg o).upsets ≡ s.upsets
  copied-upsets stack reg (Some n) = refl
  copied-upsets stack reg None = trapped-upsets stack.frame

  matched-upsets : (stack : CallStack Frame) (touch : Touch) (b : Bool) → (matched s t w stack touch b).upsets ≡ s.upsets
  matched-upsets stack touch true = refl
  matched-upsets stack touch false = refl

  back-upsets : (stack : CallStack Frame) (tx : Transaction) (touch : Touch) (n : ℕ) (valid : Bool) → (read_back h s t w stack tx touch n valid).upsets ≡ s.upsets
  back-upsets stack tx touch n true = search (room-upsets, matched-upsets)
  back-upsets stack tx touch n false = trapped-upsets stack.frame

  read-upsets : (stack : CallStack Frame) (tx : Transaction) (width : Width) (address n : Option ℕ) → (read_at h s t w stack tx width address n).upsets ≡ s.upsets
  read-upsets stack tx width (Some address) (Some n) = search back-upsets
  read-upsets stack tx width (Some address) None = trapped-upsets stack.frame
  read-upsets stack tx width None n = trapped-upsets stack.frame

  read-as-upsets : (stack : CallStack Frame) (tx : Transaction) (ptr val : HVal) (width : Option Width) → (read_as h s t w stack tx ptr val width).upsets ≡ s.upsets
  read-as-upsets stack tx ptr val (Some width) = search read-upsets
  read-as-upsets stack tx ptr val None = trapped-upsets stack.frame

  memory-upsets : (stack : CallStack Frame) (ty : Ty) (ptr val : HVal) (mode : Mode) → (memory_checked h s t w stack ty ptr val mode).upsets ≡ s.upsets
  memory-upsets stack ty ptr val (Free plain) = refl
  memory-upsets stack ty ptr val (Inside tx) = search read-as-upsets

  stepped-upsets : (stack : CallStack Frame) (inst : HInst) → (stepped h s t w stack inst).upsets ≡ s.upsets
  stepped-upsets stack Cut = search cut-upsets
  stepped-upsets stack Begin = refl
  stepped-upsets stack End = search ended-upsets
  stepped-upsets stack (Tick work) = refl
  stepped-upsets stack (Chk when ty reg) = search checked-upsets
  stepped-upsets stack (ChkMem ty ptr val) = memory-upsets stack ty ptr val w.mode
  stepped-upsets stack (Mov ty reg) = search copied-upsets
  stepped-upsets stack (Do side inst retires) = search acted-upsets

  fetched-upsets : (stack : CallStack Frame) (inst : Option HInst) → (fetched h s t w stack inst).upsets ≡ s.upsets
  fetched-upsets stack None = trapped-upsets stack.frame
  fetched-upsets stack (Some inst) = stepped-upsets stack inst

  turned-upsets : (thread : Thread Frame) → (turned_by h s t w thread).upsets ≡ s.upsets
  turned-upsets (Running stack) = search fetched-upsets
  turned-upsets (Exiting n) = search (ends-upsets, closed-upsets)
  turned-upsets Ended = refl

-- a turn strikes nothing
pub turn-upsets : (h : HardParts) (s : State) (t : ℕ) → (turn_of h s t).upsets ≡ s.upsets
turn-upsets h s t = by_worker (slice_get s.workers t)
  where
    by_worker : (o : Option Worker) → (turned h s t o).upsets ≡ s.upsets
    by_worker None = refl
    by_worker (Some w) = turned-upsets h s t w w.thread

-- ---- aborts and upsets

pub abort-upsets : (s : State) (t : ℕ) (o : Option Worker) → (abort_in s t o).upsets ≡ s.upsets
abort-upsets s t None = refl
abort-upsets s t (Some w) = refl

-- one upset joins the others
pub record Grows (before after : State) : Type 0 where
  pub more : List Upset
  pub is : after.upsets ≡ before.upsets ++ more

struck-grows : (h : HardParts) (s : State) (upset : UpsetSpec) (w : Worker) (o : Option Target) → Grows s (struck_at h s upset w o)
struck-grows h s upset w None = record { more = Nowhere ∷ []; is = refl }
struck-grows h s upset w (Some to) = record { more = _; is = refl }

upset-grows : (h : HardParts) (s : State) (upset : UpsetSpec) (o : Option Worker) → Grows s (upset_in h s upset o)
upset-grows h s upset None = record { more = Nowhere ∷ []; is = refl }
upset-grows h s upset (Some w) = struck-grows h s upset w _

same-grows : (before after : State) → after.upsets ≡ before.upsets → Grows before after
same-grows before after e = record { more = []; is = e ∙ sym (append-nil before.upsets) }

happens-grows : (h : HardParts) (s : State) (event : Happening) → Grows s (happens h s event)
happens-grows h s (TurnOf thread) = same-grows s (turn_of h s thread.0) (turn-upsets h s thread.0)
happens-grows h s (AbortOf thread) = same-grows s (abort_in s thread.0 (slice_get s.workers thread.0)) (abort-upsets s thread.0 (slice_get s.workers thread.0))
happens-grows h s (UpsetBy upset) = upset-grows h s upset (slice_get s.workers upset.tid.0)

-- whatever happens, those that came before stay
pub event-grows : (h : HardParts) (s : State) (event : Happening) → Grows s (happened h s event)
event-grows h s event = by_stop s.stop (happens-grows h s event)
  where
    by_stop : (o : Option Stop) → Grows s (happens h s event) → Grows s (unless_stopped o s (happens h s event))
    by_stop None grows = grows
    by_stop (Some stop) grows = same-grows s s refl

any-front : (xs ys : List Upset) → list_any is_broken xs ≡ true → list_any is_broken (xs ++ ys) ≡ true
any-front xs ys e = list_any-append is_broken xs ys ∙ ap (λ (b : Bool). b || list_any is_broken ys) e

-- and so does one that the theorem doesn't speak of
pub stays-broken : (h : HardParts) (s : State) (event : Happening) → list_any is_broken s.upsets ≡ true → list_any is_broken (happened h s event).upsets ≡ true
stays-broken h s event e =
    let grows = event-grows h s event in
    ap (list_any is_broken) grows.is ∙ any-front s.upsets grows.more e

pub run-grows : (h : HardParts) (s : State) (events : List Happening) → Grows s (run_from h s events)
run-grows h s [] = same-grows s s refl
run-grows h s (event ∷ events) =
    let first = event-grows h s event in
    let rest = run-grows h (happened h s event) events in
    record { more = first.more ++ rest.more; is = rest.is ∙ ap (λ (xs : List Upset). xs ++ rest.more) first.is ∙ append_assoc s.upsets first.more rest.more }

pub run-broken : (h : HardParts) (s : State) (events : List Happening) → list_any is_broken s.upsets ≡ true → list_any is_broken (run_from h s events).upsets ≡ true
run-broken h s events e =
    let grows = run-grows h s events in
    ap (list_any is_broken) grows.is ∙ any-front s.upsets grows.more e
