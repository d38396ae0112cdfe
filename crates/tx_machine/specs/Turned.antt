-- Turns of threads, as the code does them: actions that take more than a thread, checks of memory, a thread's end, and one instruction.
use Rattle.std.specs.Prelude.{ℕ, zero, suc, ◌-◌, ◌%◌, ◌^◌, nat_eq, nat_lt, ◌&&◌, Bool, true, false, List, [], ◌∷◌, ◌++◌, Option, Some, None, length, take, replicate, slice_get, slice_set}
use Rattle.std.specs.Option.{option_map, option_map_or, is_none}
use Rattle.ir_core.specs.declared.types.Loc.{Loc}
use Rattle.ir_core.specs.declared.types.Ty.{Ty}
use Rattle.ir_core.specs.declared.types.Width.{Width}
use Rattle.ir_core.specs.declared.types.Width.TheVariants.{W64}
use Rattle.ir_core.specs.declared.values.Side.{Side}
use Rattle.ir_layout.specs.Memory.{is_valid, thread_limit, layout_of}
use Rattle.mem_image.specs.Accesses.{bytes}
use Rattle.mem_image.specs.Opening.{opening}
use Rattle.ir_core.specs.declared.instruction.Inst.{Inst}
use Rattle.inst_meaning.specs.declared.actions.Action.{Action}
use Rattle.inst_meaning.specs.declared.actions.Action.TheVariants.{Assign, Reserve, Read, Write, Update, Pass, Jump, Call, Ask, Create, Join, Exit, Return, Fault}
use Rattle.inst_meaning.specs.declared.actions.Place.{Place}
use Rattle.inst_meaning.specs.declared.actions.Request.{Request}
use Rattle.inst_meaning.specs.Action.{place_at}
use Rattle.inst_meaning.specs.Operands.{memory_width}
use Rattle.inst_meaning.specs.World.{owner_of, opening_world}
use Rattle.process.specs.declared.state.Thread.{Thread}
use Rattle.process.specs.declared.state.Thread.TheVariants.{Running, Exiting, Ended}
use Rattle.process.specs.State.{new_thread}
use Rattle.src_meaning.specs.State.{main_of}
use Rattle.hard_ir.specs.declared.instruction.HVal.{HVal}
use Rattle.hard_ir.specs.declared.instruction.HInst.{HInst}
use Rattle.hard_ir.specs.declared.instruction.HInst.TheVariants.{Cut, Begin, End as EndTransaction, Tick, Chk, ChkMem, Mov, Do}
use Rattle.hard_ir.specs.Hardened.{HardParts}
use Rattle.hard_frames.specs.declared.outcome.Stop.TheVariants.{End}
use Rattle.hard_frames.specs.declared.state.Frame.{Frame}
use Rattle.hard_frames.specs.Code.{inst_at}
use Rattle.hard_frames.specs.Frames.{frames, action_on, destination_on, operand_word}
use Rattle.elide.specs.Watches.{WatchParts, nothing_watched, watch_of, can_lock, once_locked, can_unlock, once_unlocked}
use Rattle.rtm_core.specs.declared.Got.{Got}
use Rattle.rtm_core.specs.declared.Got.TheVariants as gots
use Rattle.rtm_core.specs.Transactions.{entry_of, word_seen}
use Rattle.rtm_core.specs.Calls.{reading, writing, got_of}
use Rattle.hard_meaning.specs.Aborts.{Mismatch, Overflow, Other}
use Rattle.hard_meaning.specs.Locks.{MutexCall, Locks, Unlocks, mutex_request}
use Rattle.tx_machine.specs.Own.{OwnParts, new_own, once_passed, once_ticked, called_thread}
use Rattle.tx_machine.specs.Core.{CoreParts, with_own, is_open, core_aborted, core_trapped, core_begun, core_closed, can_close, core_ended, core_cut, core_checked, core_copied, core_told, core_touched, took, core_alone, core_asked}

-- ---- calls that are done

-- a call of a thread is done, with this result
abbrev pub once_called : Option (Side × Loc) → ℕ → ℕ → CoreParts → CoreParts
once_called target n t p = with_own t (λ w. record w { thread = called_thread p.program target n w.thread }) p

-- and its turn is told
abbrev pub core_called : Bool → Option (Side × Loc) → ℕ → ℕ → CoreParts → CoreParts
core_called retires target n t p = once_called target n t (core_told retires t p)

-- ---- threads that are made

-- a thread stands after the others
abbrev pub core_started : ℕ → ℕ → CoreParts → CoreParts
core_started n argument p = record p { own = p.own ++ new_own (new_thread (frames p.program) (length p.own) n (argument ∷ [])) ∷ [] }

-- and doesn't
abbrev pub core_unstarted : CoreParts → CoreParts
core_unstarted p = record p { own = take (length p.own - 1) p.own }

-- its number is stored, where the lists of the thread that makes it take that
abbrev pub numbered_as : Bool → ℕ → CoreParts → CoreParts
numbered_as true t p = p
numbered_as false t p = core_aborted Overflow t (core_unstarted p)

abbrev pub core_numbered : ℕ → ℕ → ℕ → CoreParts → CoreParts
core_numbered address number t p = numbered_as (took (got_of (entry_of p.rtm t (writing address 8)) number)) t
    (core_touched (writing address 8) (Some (record { address = address; size = 8; word = number })) t p)

-- there is room for a thread, and a place for its number; or not
abbrev pub created_as : Bool → Bool → Bool → Option (Side × Loc) → ℕ → ℕ → ℕ → ℕ → CoreParts → CoreParts
created_as true true retires target address n argument t p =
    core_numbered address (length p.own) t (core_called retires target 0 t (core_started n argument p))
created_as true false retires target address n argument t p = core_trapped t p
created_as false valid retires target address n argument t p = core_called retires target 11 t p

abbrev pub core_created : Bool → Option (Side × Loc) → ℕ → ℕ → ℕ → ℕ → CoreParts → CoreParts
core_created retires target address n argument t p =
    created_as (nat_lt (length p.own) thread_limit) (is_valid p.rtm.memory.places address 8) retires target address n argument t p

-- ---- threads that are waited for

abbrev pub has_ended : Thread Frame → Bool
has_ended (Running stack) = false
has_ended (Exiting n) = false
has_ended Ended = true

-- whether a thread has ended that was made
abbrev pub ended_at : CoreParts → ℕ → Option Bool
ended_at p other = option_map (λ (w : OwnParts). has_ended w.thread) (slice_get p.own other)

abbrev pub awaited_as : Option Bool → Bool → Option (Side × Loc) → ℕ → CoreParts → CoreParts
awaited_as None retires target t p = core_trapped t p
awaited_as (Some false) retires target t p = p
awaited_as (Some true) retires target t p = core_called retires target 0 t p

abbrev pub core_awaited : Bool → Option (Side × Loc) → ℕ → ℕ → CoreParts → CoreParts
core_awaited retires target other t p = awaited_as (ended_at p other) retires target t p

-- ---- the program's end

-- a turn is told at once outside, and inside it is lost
abbrev pub told_outside : Bool → Bool → ℕ → CoreParts → CoreParts
told_outside true retires t p = p
told_outside false retires t p = core_told retires t p

abbrev pub core_left : Bool → ℕ → ℕ → CoreParts → CoreParts
core_left retires code t p = record (told_outside (is_open p t) retires t p) { stop = Some (End (code % 2 ^ 32)) }

-- ---- mutexes that are watched, inside

abbrev pub can_watch_in : MutexCall → ℕ → CoreParts → Bool
can_watch_in (Locks address) t p = is_none (owner_of p.world.owners address) && can_lock (watch_of p.watches t) address
can_watch_in (Unlocks address) t p = can_unlock (watch_of p.watches t) address

abbrev pub once_watching : MutexCall → WatchParts → WatchParts
once_watching (Locks address) k = once_locked k address
once_watching (Unlocks address) k = once_unlocked k address

abbrev pub watching_at : MutexCall → ℕ → CoreParts → CoreParts
watching_at call t p = record p { watches = slice_set p.watches t (once_watching call (watch_of p.watches t)) }

-- it is watched, and the call is done; or the transaction ends, and the call keeps its place
abbrev pub watched_as : Bool → MutexCall → Bool → Option (Side × Loc) → ℕ → CoreParts → CoreParts
watched_as true call retires target t p = watching_at call t (core_called retires target 0 t p)
watched_as false call retires target t p = core_closed t p

abbrev pub core_watched : MutexCall → Bool → Option (Side × Loc) → ℕ → CoreParts → CoreParts
core_watched call retires target t p = watched_as (can_watch_in call t p) call retires target t p

-- a mutex is asked for inside by watching it; else the environment is asked
abbrev pub requested_as : Bool → Option MutexCall → Bool → Option (Side × Loc) → Request → ℕ → CoreParts → CoreParts
requested_as true (Some call) retires target request t p = core_watched call retires target t p
requested_as true None retires target request t p = core_asked retires target request t p
requested_as false call retires target request t p = core_asked retires target request t p

abbrev pub core_request : Bool → Option (Side × Loc) → Request → ℕ → CoreParts → CoreParts
core_request retires target request t p = requested_as (is_open p t) (mutex_request request) retires target request t p

-- ---- checks of memory, inside

-- what is compared: a place and a word, where there are both
abbrev pub sought_at : Width → Option ℕ → Option ℕ → Option (Place × ℕ)
sought_at width (Some address) (Some n) = Some (place_at address width, n)
sought_at width (Some address) None = None
sought_at width None n = None

abbrev pub sought_as : Option Width → HardParts → Frame → HVal → HVal → Option (Place × ℕ)
sought_as (Some width) h frame ptr val = sought_at width (operand_word h frame W64 ptr) (operand_word h frame width val)
sought_as None h frame ptr val = None

abbrev pub sought_in : HardParts → Thread Frame → Ty → HVal → HVal → Option (Place × ℕ)
sought_in h (Running stack) ty ptr val = sought_as (memory_width ty) h stack.frame ptr val
sought_in h (Exiting n) ty ptr val = None
sought_in h Ended ty ptr val = None

abbrev pub sought : CoreParts → ℕ → Ty → HVal → HVal → Option (Place × ℕ)
sought p t ty ptr val = option_map_or (λ (w : OwnParts). sought_in p.program w.thread ty ptr val) (slice_get p.own t) None

-- a word was read: the thread goes on where it is the one that is asked for, and else is aborted
abbrev pub met_as : Bool → ℕ → CoreParts → CoreParts
met_as true t p = p
met_as false t p = core_aborted Mismatch t p

abbrev pub found_as : Got → ℕ → ℕ → CoreParts → CoreParts
found_as (gots.Value n) word t p = met_as (nat_eq n word) t p
found_as gots.Trap word t p = core_aborted Other t p
found_as gots.Overflow word t p = core_aborted Overflow t p

abbrev pub core_matched : Place → ℕ → ℕ → CoreParts → CoreParts
core_matched place word t p =
    found_as (got_of (entry_of p.rtm t (reading place.address (bytes place.size))) (word_seen p.rtm t place.address (bytes place.size))) word t
    (core_touched (reading place.address (bytes place.size)) None t p)

abbrev pub seeking : Option (Place × ℕ) → ℕ → CoreParts → CoreParts
seeking None t p = core_trapped t p
seeking (Some (place, word)) t p = core_matched place word t (with_own t once_passed p)

abbrev pub memory_checked_as : Bool → Ty → HVal → HVal → ℕ → CoreParts → CoreParts
memory_checked_as true ty ptr val t p = seeking (sought p t ty ptr val) t p
memory_checked_as false ty ptr val t p = with_own t once_passed p

abbrev pub core_memory_checked : Ty → HVal → HVal → ℕ → CoreParts → CoreParts
core_memory_checked ty ptr val t p = memory_checked_as (is_open p t) ty ptr val t p

-- ---- a thread's end

-- a thread has ended; with thread 0 the program has
abbrev pub gone_as : ℕ → ℕ → CoreParts → CoreParts
gone_as zero n p = record p { stop = Some (End (n % 2 ^ 32)) }
gone_as (suc t) n p = with_own (suc t) (λ w. record w { thread = Ended }) p

abbrev pub gone_if : Bool → ℕ → ℕ → CoreParts → CoreParts
gone_if true t n p = gone_as t n p
gone_if false t n p = p

-- its turn waits with those of its transaction, which ends
abbrev pub core_exited : ℕ → ℕ → CoreParts → CoreParts
core_exited n t p = gone_if (can_close p t) t n (core_closed t (core_told true t p))

-- ---- actions and instructions

abbrev pub core_acted : Bool → Option (Side × Loc) → Action → ℕ → CoreParts → CoreParts
core_acted retires target (Assign n) t p = core_alone retires target (Assign n) t p
core_acted retires target (Reserve size) t p = core_alone retires target (Reserve size) t p
core_acted retires target (Read place atomic) t p = core_alone retires target (Read place atomic) t p
core_acted retires target (Write place n atomic) t p = core_alone retires target (Write place n atomic) t p
core_acted retires target (Update place update) t p = core_alone retires target (Update place update) t p
core_acted retires target Pass t p = core_alone retires target Pass t p
core_acted retires target (Jump label) t p = core_alone retires target (Jump label) t p
core_acted retires target (Call n words) t p = core_alone retires target (Call n words) t p
core_acted retires target (Ask request) t p = core_request retires target request t p
core_acted retires target (Create address n argument) t p = core_created retires target address n argument t p
core_acted retires target (Join other) t p = core_awaited retires target other t p
core_acted retires target (Exit code) t p = core_left retires code t p
core_acted retires target (Return n) t p = core_alone retires target (Return n) t p
core_acted retires target (Fault cause) t p = core_alone retires target (Fault cause) t p

-- what an instruction asks for on a side, where the thread runs
abbrev pub action_in : HardParts → Side → Inst → Thread Frame → Option Action
action_in h side inst (Running stack) = Some (action_on h side stack.frame inst)
action_in h side inst (Exiting n) = None
action_in h side inst Ended = None

abbrev pub action_at : CoreParts → ℕ → Side → Inst → Option Action
action_at p t side inst = option_map_or (λ (w : OwnParts). action_in p.program side inst w.thread) (slice_get p.own t) None

abbrev pub done_as : Option Action → Bool → Option (Side × Loc) → ℕ → CoreParts → CoreParts
done_as None retires target t p = p
done_as (Some action) retires target t p = core_acted retires target action t p

abbrev pub core_done_by : Side → Inst → Bool → ℕ → CoreParts → CoreParts
core_done_by side inst retires t p = done_as (action_at p t side inst) retires (destination_on side inst) t p

abbrev pub core_stepped_at : HInst → ℕ → CoreParts → CoreParts
core_stepped_at Cut t p = core_cut t p
core_stepped_at Begin t p = core_begun t p
core_stepped_at EndTransaction t p = core_ended t p
core_stepped_at (Tick work) t p = with_own t (once_ticked work) p
core_stepped_at (Chk when ty reg) t p = core_checked when ty reg t p
core_stepped_at (ChkMem ty ptr val) t p = core_memory_checked ty ptr val t p
core_stepped_at (Mov ty reg) t p = core_copied reg t p
core_stepped_at (Do side inst retires) t p = core_done_by side inst retires t p

-- the instruction at the place of a thread that runs
abbrev pub inst_of : HardParts → Thread Frame → Option HInst
inst_of h (Running stack) = inst_at h stack.frame
inst_of h (Exiting n) = None
inst_of h Ended = None

abbrev pub inst_in : CoreParts → ℕ → Option HInst
inst_in p t = option_map_or (λ (w : OwnParts). inst_of p.program w.thread) (slice_get p.own t) None

abbrev pub run_as : Option HInst → ℕ → CoreParts → CoreParts
run_as None t p = core_trapped t p
run_as (Some inst) t p = core_stepped_at inst t p

abbrev pub core_run : ℕ → CoreParts → CoreParts
core_run t p = run_as (inst_in p t) t p

abbrev pub turned_as : Thread Frame → ℕ → CoreParts → CoreParts
turned_as (Running stack) t p = core_run t p
turned_as (Exiting n) t p = core_exited n t p
turned_as Ended t p = p

-- a turn of the thread with a number: one that was never made does nothing
abbrev pub core_turn : ℕ → CoreParts → CoreParts
core_turn t p = option_map_or (λ (w : OwnParts). turned_as w.thread t p) (slice_get p.own t) p

-- ---- the opening

-- thread 0 stands at the entry of `main`, outside transactions
abbrev pub core_opening : HardParts → List ℕ → CoreParts
core_opening h arguments = record {
  program = h;
  rtm = record { memory = opening (layout_of h.heads) h.heads.globals; threads = replicate thread_limit None };
  watches = replicate thread_limit nothing_watched;
  own = new_own (new_thread (frames h) 0 (main_of h.heads) []) ∷ [];
  world = opening_world arguments;
  turns = [];
  stop = None;
}
