-- A turn of a thread: one hardened instruction, or its end (LLVM Language Reference, 'Instruction Reference'; Intel 64 and IA-32
-- Architectures Software Developer's Manual, volume 1, 'Programming with Intel Transactional Synchronization Extensions').
--
-- Choices: a `Do` takes its action on the registers of its side and does it as a step of the source does, in memory as the thread sees it.
-- A check that fails, and an undefined action, abort a thread inside, and stop the machine where the thread is outside. A call that must
-- wait changes nothing and keeps its place. An external inside, which only a changed text has, is done as outside but for mutexes;
-- what it stores goes through the transaction. A thread whose function has returned ends its transaction and then itself, in one turn.
use Rattle.std.specs.Prelude.{ℕ, suc, zero, ◌%◌, ◌^◌, nat_eq, Bool, true, false, [], ◌∷◌, ◌++◌, map, Option, Some, None, slice_get, slice_set}
use Rattle.ir_core.specs.declared.types.Loc.{Loc}
use Rattle.ir_core.specs.declared.types.Ty.{Ty}
use Rattle.ir_core.specs.declared.types.Width.{Width}
use Rattle.ir_core.specs.declared.types.Width.TheVariants.{W64}
use Rattle.ir_core.specs.declared.values.Side.{Side}
use Rattle.ir_core.specs.declared.values.Side.TheVariants.{S}
use Rattle.ir_layout.specs.Memory.{is_valid}
use Rattle.mem_image.specs.Bytes.{peek}
use Rattle.mem_image.specs.Touches.{Touch}
use Rattle.rtm_core.specs.Footprint.{has_room, seen_through}
use Rattle.inst_meaning.specs.declared.actions.Action.{Action}
use Rattle.inst_meaning.specs.Action.{place_at}
use Rattle.inst_meaning.specs.Operands.{memory_width}
use Rattle.inst_meaning.specs.Registers.{get}
use Rattle.process.specs.declared.state.CallStack.{CallStack}
use Rattle.process.specs.declared.state.Thread.{Thread}
use Rattle.process.specs.declared.state.Thread.TheVariants.{Running, Exiting, Ended}
use Rattle.process.specs.Outcome.{Outcome, Goes, Waits, Faults, Ends, touch_at, outcome_of, effect_of_call}
use Rattle.process.specs.State.{in_frame}
use Rattle.hard_ir.specs.declared.instruction.HVal.{HVal}
use Rattle.hard_ir.specs.declared.instruction.HInst.{HInst}
use Rattle.hard_ir.specs.declared.instruction.HInst.TheVariants.{Cut, Begin, End as EndTransaction, Tick, Chk, ChkMem, Mov, Do}
use Rattle.hard_ir.specs.Hardened.{HardParts}
use Rattle.hard_frames.specs.declared.outcome.Stop.{Stop}
use Rattle.hard_frames.specs.declared.outcome.Stop.TheVariants.{End, Fail, Trap}
use Rattle.hard_frames.specs.declared.state.Frame.{Frame}
use Rattle.hard_frames.specs.Code.{inst_at}
use Rattle.hard_frames.specs.Frames.{frames, passed, resulted, action_on, destination_on}
use Rattle.hard_frames.specs.Places.{place_text}
use Rattle.hard_meaning.specs.State.{Transaction, Mode, Free, Inside, Worker, State, is_inside, seen}
use Rattle.hard_meaning.specs.Aborts.{Status, Mismatch, Other, aborted, spared}
use Rattle.hard_meaning.specs.Effects.{with_worker, turns_after, did, where_room, tried}
use Rattle.hard_meaning.specs.Runtime.{begun, ticked, closed, can_end, where_ends, ended, cut}
use Rattle.hard_meaning.specs.Locks.{MutexCall, mutex_call, taken_by, can_watch, watching}
use Rattle.hard_meaning.specs.Checks.{is_active, same_word, operand_word}

-- ---- a thread by itself

-- its frame becomes this one
abbrev pub in_place : Worker → CallStack Frame → Frame → Worker
in_place w stack frame = record w { thread = in_frame stack frame }

-- it goes on to its next instruction
abbrev pub onward : Worker → CallStack Frame → Worker
onward w stack = in_place w stack (passed stack.frame)

-- ---- checks that fail, and what is undefined

abbrev pub halted : Status → Stop → State → ℕ → Worker → Mode → State
halted status stop s t w (Free plain) = record s { stop = Some stop }
halted status stop s t w (Inside tx) = with_worker s t (aborted status w)

abbrev pub failed : HardParts → State → ℕ → Worker → Frame → State
failed h s t w frame = halted Mismatch (Fail (record { 0 = t }) (place_text h frame)) s t w w.mode

abbrev pub trapped : HardParts → State → ℕ → Worker → Frame → State
trapped h s t w frame = halted Other (Trap (record { 0 = t }) (place_text h frame)) s t w w.mode

-- ---- actions

-- an action has come to this
abbrev pub settled : HardParts → State → ℕ → Worker → Frame → Bool → Option ℕ → Outcome Frame → State
settled h s t w frame retires mutex (Goes effect) = tried s t w retires mutex effect
settled h s t w frame retires mutex Waits = s
settled h s t w frame retires mutex (Faults cause) = trapped h s t w frame
settled h s t w frame retires mutex (Ends code) = record s { turns = turns_after w.mode retires t s.turns; stop = Some (End code) }

-- a call of a mutex inside: done by watching, with the answer 0; or the transaction ends, and the call keeps its place
abbrev pub watched_if : Bool → State → ℕ → Worker → CallStack Frame → Option (Side × Loc) → Bool → MutexCall → HardParts → Transaction → State
watched_if true s t w stack target retires call h tx =
    did s t (record w { mode = Inside (watching call tx) }) retires None (effect_of_call (frames h) (seen s w.mode) target stack 0)
watched_if false s t w stack target retires call h tx = ended s t w w

abbrev pub acted_by : HardParts → State → ℕ → Worker → CallStack Frame → Option (Side × Loc) → Bool → Action → Mode → Option MutexCall → State
acted_by h s t w stack target retires action (Inside tx) (Some call) =
    watched_if (can_watch call s.world tx) s t w stack target retires call h tx
acted_by h s t w stack target retires action (Inside tx) None =
    settled h s t w stack.frame retires None (outcome_of (frames h) (seen s w.mode) t target stack action)
acted_by h s t w stack target retires action (Free plain) call =
    settled h s t w stack.frame retires (taken_by call) (outcome_of (frames h) (seen s w.mode) t target stack action)

abbrev pub acted : HardParts → State → ℕ → Worker → CallStack Frame → Option (Side × Loc) → Bool → Action → State
acted h s t w stack target retires action = acted_by h s t w stack target retires action w.mode (mutex_call action)

-- ---- checks and copies

abbrev pub agreed : HardParts → State → ℕ → Worker → CallStack Frame → Bool → State
agreed h s t w stack true = with_worker s t (onward w stack)
agreed h s t w stack false = failed h s t w stack.frame

abbrev pub compared : HardParts → State → ℕ → Worker → CallStack Frame → Ty → Option ℕ → Option ℕ → State
compared h s t w stack ty (Some a) (Some b) = agreed h s t w stack (same_word ty a b)
compared h s t w stack ty (Some a) None = trapped h s t w stack.frame
compared h s t w stack ty None b = trapped h s t w stack.frame

abbrev pub checked : HardParts → State → ℕ → Worker → CallStack Frame → Ty → Loc → Bool → State
checked h s t w stack ty reg true = compared h s t w stack ty (get stack.frame.masters reg.0) (get stack.frame.shadows reg.0)
checked h s t w stack ty reg false = with_worker s t (onward w stack)

-- the shadow of a register becomes its master
abbrev pub copied : HardParts → State → ℕ → Worker → CallStack Frame → Loc → Option ℕ → State
copied h s t w stack reg (Some n) = with_worker s t (in_place w stack (resulted (Some (S, reg)) n stack.frame))
copied h s t w stack reg None = trapped h s t w stack.frame

-- ---- checks of memory, inside

-- a word was read: the thread goes on where it is the one that is asked for, and else is aborted, after those in the way of its access
abbrev pub matched : State → ℕ → Worker → CallStack Frame → Touch → Bool → State
matched s t w stack touch true =
    did s t w false None (record { thread = in_frame stack (passed stack.frame); world = s.world; born = None; touch = Some touch; store = None })
matched s t w stack touch false =
    record s { workers = slice_set (map (spared (record { touch = Some touch; mutex = None })) s.workers) t (aborted Mismatch w) }

abbrev pub read_back : HardParts → State → ℕ → Worker → CallStack Frame → Transaction → Touch → ℕ → Bool → State
read_back h s t w stack tx touch n true = where_room (has_room touch tx.footprint) s t w
    (matched s t w stack touch (nat_eq (peek (seen_through tx.footprint s.memory) touch.address touch.size) n))
read_back h s t w stack tx touch n false = trapped h s t w stack.frame

abbrev pub read_at : HardParts → State → ℕ → Worker → CallStack Frame → Transaction → Width → Option ℕ → Option ℕ → State
read_at h s t w stack tx width (Some address) (Some n) =
    let touch = touch_at (place_at address width) true false in
    read_back h s t w stack tx touch n (is_valid s.memory.places touch.address touch.size)
read_at h s t w stack tx width (Some address) None = trapped h s t w stack.frame
read_at h s t w stack tx width None n = trapped h s t w stack.frame

abbrev pub read_as : HardParts → State → ℕ → Worker → CallStack Frame → Transaction → HVal → HVal → Option Width → State
read_as h s t w stack tx ptr val (Some width) =
    read_at h s t w stack tx width (operand_word h stack.frame W64 ptr) (operand_word h stack.frame width val)
read_as h s t w stack tx ptr val None = trapped h s t w stack.frame

abbrev pub memory_checked : HardParts → State → ℕ → Worker → CallStack Frame → Ty → HVal → HVal → Mode → State
memory_checked h s t w stack ty ptr val (Free plain) = with_worker s t (onward w stack)
memory_checked h s t w stack ty ptr val (Inside tx) = read_as h s t w stack tx ptr val (memory_width ty)

-- ---- turns

abbrev pub stepped : HardParts → State → ℕ → Worker → CallStack Frame → HInst → State
stepped h s t w stack Cut = cut s t w (onward w stack)
stepped h s t w stack Begin = with_worker s t (begun stack (onward w stack) w.mode)
stepped h s t w stack EndTransaction = ended s t w (onward w stack)
stepped h s t w stack (Tick work) = with_worker s t (ticked work (onward w stack))
stepped h s t w stack (Chk when ty reg) = checked h s t w stack ty reg (is_active when (is_inside w.mode))
stepped h s t w stack (ChkMem ty ptr val) = memory_checked h s t w stack ty ptr val w.mode
stepped h s t w stack (Mov ty reg) = copied h s t w stack reg (get stack.frame.masters reg.0)
stepped h s t w stack (Do side inst retires) =
    acted h s t w stack (destination_on side inst) retires (action_on h side stack.frame inst)

abbrev pub fetched : HardParts → State → ℕ → Worker → CallStack Frame → Option HInst → State
fetched h s t w stack None = trapped h s t w stack.frame
fetched h s t w stack (Some inst) = stepped h s t w stack inst

-- a thread has ended, which is a turn of the source; with thread 0 the program has
abbrev pub left_as : ℕ → ℕ → Thread Frame
left_as zero n = Exiting n
left_as (suc t) n = Ended

abbrev pub stop_with : ℕ → ℕ → Option Stop
stop_with zero n = Some (End (n % 2 ^ 32))
stop_with (suc t) n = None

abbrev pub left : ℕ → ℕ → State → State
left t n s = record s { turns = s.turns ++ t ∷ []; stop = stop_with t n }

abbrev pub exited : State → ℕ → Worker → ℕ → State
exited s t w n = where_ends (can_end w.mode) s t w (left t n (closed s t w.mode (record w { thread = left_as t n })))

abbrev pub turned_by : HardParts → State → ℕ → Worker → Thread Frame → State
turned_by h s t w (Running stack) = fetched h s t w stack (inst_at h stack.frame)
turned_by h s t w (Exiting n) = exited s t w n
turned_by h s t w Ended = s

-- a turn of the thread with a number: one that was never made does nothing
abbrev pub turned : HardParts → State → ℕ → Option Worker → State
turned h s t None = s
turned h s t (Some w) = turned_by h s t w w.thread

abbrev pub turn_of : HardParts → State → ℕ → State
turn_of h s t = turned h s t (slice_get s.workers t)
