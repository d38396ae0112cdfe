-- All that runs, part by part, and what the machine's steps do to it, as the code does them.
use Rattle.std.specs.Prelude.{ℕ, zero, suc, nat_eq, ◌&&◌, ◌+◌, ◌-◌, ◌<◌, ◌^◌, ◌≡◌, OnSome, Bool, true, false, not, List, [], ◌++◌, Option, Some, None, length, take, replicate, slice_get, slice_set}
use Rattle.std.specs.Option.{option_map, option_map_or, is_some}
use Rattle.ir_core.specs.declared.types.Ty.{Ty}
use Rattle.ir_core.specs.declared.types.Loc.{Loc}
use Rattle.ir_core.specs.declared.values.Side.{Side}
use Rattle.mem_image.specs.Accesses.{bytes}
use Rattle.inst_meaning.specs.Accesses.{updated}
use Rattle.inst_meaning.specs.declared.actions.Action.{Action}
use Rattle.inst_meaning.specs.declared.actions.Action.TheVariants.{Assign, Reserve, Read, Write, Update, Pass, Jump, Call, Ask, Create, Join, Exit, Return, Fault}
use Rattle.inst_meaning.specs.declared.actions.Cause.{Cause}
use Rattle.inst_meaning.specs.declared.actions.Request.{Request}
use Rattle.inst_meaning.specs.declared.actions.Reply.{Reply}
use Rattle.inst_meaning.specs.declared.actions.Reply.TheVariants.{Answers, Waits, Refuses}
use Rattle.inst_meaning.specs.World.{WorldParts}
use Rattle.process.specs.declared.state.CallStack.{CallStack}
use Rattle.process.specs.declared.state.Thread.{Thread}
use Rattle.process.specs.declared.state.Thread.TheVariants.{Running, Exiting, Ended}
use Rattle.process.specs.code.Threads.{CanPassAt}
use Rattle.hard_ir.specs.declared.instruction.When.{When}
use Rattle.hard_ir.specs.Hardened.{HardParts}
use Rattle.hard_frames.specs.declared.outcome.Stop.{Stop}
use Rattle.hard_frames.specs.declared.outcome.Stop.TheVariants.{Fail, Trap}
use Rattle.hard_frames.specs.declared.state.Frame.{Frame}
use Rattle.hard_frames.specs.Places.{place_text}
use Rattle.line_sets.specs.Sets.{has}
use Rattle.elide.specs.Watches.{WatchParts, nothing_watched, watch_of, is_some_held}
use Rattle.tx_runtime.specs.Words.{cuts}
use Rattle.mem_image.specs.Touches.{Touch, Store}
use Rattle.rtm_core.specs.Transactions.{Transaction, RtmParts, Entry, thread, begun, committed, aborted, entry_of, after, aborts_at, seen_by, word_seen}
use Rattle.rtm_core.specs.declared.Got.{Got}
use Rattle.rtm_core.specs.declared.Got.TheVariants as gots
use Rattle.rtm_core.specs.Calls.{conflict_aborts, reading, writing, updating, got_of}
use Rattle.hard_meaning.specs.Aborts.{Status, Mismatch, Locked, Conflict, Overflow, Other}
use Rattle.hard_meaning.specs.Checks.{is_active}
use Rattle.hard_meaning.specs.Locks.{mutex_request, taken_by}
use Rattle.tx_machine.specs.Resolved.{resolved}
use Rattle.tx_machine.specs.Undone.{own_all, watches_all}
use Rattle.tx_machine.specs.Own.{OwnParts, once_passed, once_begun, kept_thread, once_ended, once_committed, once_pending, once_unpending, once_undone, compared_in, copied_in, copied_thread, failure_in, moved_thread, reply_in, world_in, asked_thread}

pub record CoreParts : Type 0 where
  pub program : HardParts
  pub rtm : RtmParts (CallStack Frame)
  pub watches : List WatchParts
  pub own : List OwnParts
  pub world : WorldParts
  pub turns : List ℕ
  pub stop : Option Stop

-- ---- one thread

-- a thread that was made becomes another
abbrev pub own_with : ℕ → (OwnParts → OwnParts) → List OwnParts → List OwnParts
own_with t f ws = option_map_or (λ w. slice_set ws t (f w)) (slice_get ws t) ws

abbrev pub with_own : ℕ → (OwnParts → OwnParts) → CoreParts → CoreParts
with_own t f p = record p { own = own_with t f p.own }

abbrev pub is_open : CoreParts → ℕ → Bool
is_open p t = is_some (thread p.rtm t)

-- its place has another after it
abbrev pub CanPassIn : CoreParts → ℕ → Type 0
CanPassIn p t = CanPassAt (λ frame. frame.index + 1 < 2 ^ 64) (option_map (λ (w : OwnParts). w.thread) (slice_get p.own t))

-- ---- aborts

abbrev pub aborted_as : Option (Transaction (CallStack Frame)) → Status → ℕ → CoreParts → CoreParts
aborted_as None status t p = p
aborted_as (Some tx) status t p = record p {
  rtm = aborted p.rtm t;
  watches = slice_set p.watches t nothing_watched;
  own = own_with t (once_undone status tx.kept) p.own;
}

abbrev pub core_aborted : Status → ℕ → CoreParts → CoreParts
core_aborted status t p = aborted_as (thread p.rtm t) status t p

-- the place of a thread
abbrev pub place_of : HardParts → Thread Frame → List ℕ
place_of h (Running stack) = place_text h stack.frame
place_of h (Exiting n) = []
place_of h Ended = []

abbrev pub place_in : CoreParts → ℕ → List ℕ
place_in p t = option_map_or (λ (w : OwnParts). place_of p.program w.thread) (slice_get p.own t) []

abbrev pub halted_if : Bool → Status → Stop → ℕ → CoreParts → CoreParts
halted_if true status stop t p = core_aborted status t p
halted_if false status stop t p = record p { stop = Some stop }

abbrev pub core_failed : ℕ → CoreParts → CoreParts
core_failed t p = halted_if (is_open p t) Mismatch (Fail (record { 0 = t }) (place_in p t)) t p

abbrev pub core_trapped : ℕ → CoreParts → CoreParts
core_trapped t p = halted_if (is_open p t) Other (Trap (record { 0 = t }) (place_in p t)) t p

-- ---- begin, end and cut

abbrev pub begun_with : Option (CallStack Frame) → ℕ → CoreParts → CoreParts
begun_with None t p = with_own t once_begun p
begun_with (Some kept) t p = record p {
  rtm = begun p.rtm t kept;
  watches = slice_set p.watches t nothing_watched;
  own = own_with t once_begun p.own;
}

abbrev pub kept_in : CoreParts → ℕ → Option (CallStack Frame)
kept_in p t = option_map_or (λ (w : OwnParts). kept_thread w.thread w) (slice_get p.own t) None

-- where a transaction begins, none is open
abbrev pub BeginsOutside : CoreParts → ℕ → Type 0
BeginsOutside p t = OnSome (kept_in p t) (is_open p t ≡ false)

abbrev pub core_begun : ℕ → CoreParts → CoreParts
core_begun t p = begun_with (kept_in p t) t p

abbrev pub pending_in : CoreParts → ℕ → ℕ
pending_in p t = option_map_or (λ (w : OwnParts). w.pending) (slice_get p.own t) 0

-- a transaction commits, unless it holds a mutex; then it is aborted
abbrev pub closed_if : Bool → ℕ → CoreParts → CoreParts
closed_if true t p = core_aborted Locked t p
closed_if false t p = record p {
  rtm = committed p.rtm t;
  watches = slice_set p.watches t nothing_watched;
  own = own_with t once_committed p.own;
  turns = p.turns ++ replicate (pending_in p t) t;
}

abbrev pub is_holding : CoreParts → ℕ → Bool
is_holding p t = is_some_held (watch_of p.watches t).held

abbrev pub closed_by : Bool → ℕ → CoreParts → CoreParts
closed_by true t p = closed_if (is_holding p t) t p
closed_by false t p = with_own t once_ended p

abbrev pub core_closed : ℕ → CoreParts → CoreParts
core_closed t p = closed_by (is_open p t) t p

-- whether it goes on from there
abbrev pub can_if : Bool → Bool → Bool
can_if true holds = not holds
can_if false holds = true

abbrev pub can_close : CoreParts → ℕ → Bool
can_close p t = can_if (is_open p t) (is_holding p t)

abbrev pub passed_if : Bool → ℕ → CoreParts → CoreParts
passed_if true t p = with_own t once_passed p
passed_if false t p = p

abbrev pub core_ended : ℕ → CoreParts → CoreParts
core_ended t p = passed_if (can_close p t) t (core_closed t p)

abbrev pub cuts_in : CoreParts → ℕ → Bool
cuts_in p t = option_map_or (λ (w : OwnParts). cuts w.words) (slice_get p.own t) false

abbrev pub cut_as : Bool → ℕ → CoreParts → CoreParts
cut_as true t p = core_ended t p
cut_as false t p = with_own t once_passed p

abbrev pub core_cut : ℕ → CoreParts → CoreParts
core_cut t p = cut_as (cuts_in p t) t p

-- ---- checks and copies of registers

abbrev pub agreed_as : Option Bool → ℕ → CoreParts → CoreParts
agreed_as None t p = core_trapped t p
agreed_as (Some true) t p = with_own t once_passed p
agreed_as (Some false) t p = core_failed t p

abbrev pub compared_at : CoreParts → ℕ → Ty → Loc → Option Bool
compared_at p t ty reg = option_map_or (λ (w : OwnParts). compared_in w.thread ty reg) (slice_get p.own t) None

abbrev pub checked_as : Bool → ℕ → Ty → Loc → CoreParts → CoreParts
checked_as true t ty reg p = agreed_as (compared_at p t ty reg) t p
checked_as false t ty reg p = with_own t once_passed p

abbrev pub core_checked : When → Ty → Loc → ℕ → CoreParts → CoreParts
core_checked when ty reg t p = checked_as (is_active when (is_open p t)) t ty reg p

abbrev pub copied_at : CoreParts → ℕ → Loc → Option ℕ
copied_at p t reg = option_map_or (λ (w : OwnParts). copied_in w.thread reg) (slice_get p.own t) None

-- a thread whose master has no word stays
abbrev pub once_copied_at : Loc → ℕ → CoreParts → CoreParts
once_copied_at reg t p = with_own t (λ w. record w { thread = copied_thread w.thread reg }) p

abbrev pub copied_as : Bool → Loc → ℕ → CoreParts → CoreParts
copied_as true reg t p = once_copied_at reg t p
copied_as false reg t p = core_trapped t p

abbrev pub core_copied : Loc → ℕ → CoreParts → CoreParts
core_copied reg t p = copied_as (is_some (copied_at p t reg)) reg t p

-- ---- accesses

-- an access has come to this: it isn't valid, a list is full, or it is done, and aborts others
abbrev pub touched_as : Entry → Touch → Option Store → ℕ → CoreParts → CoreParts
touched_as entry touch store t p = record p {
  rtm = after entry p.rtm t touch store;
  watches = watches_all (conflict_aborts (aborts_at entry p.rtm t touch)) p.watches;
  own = own_all (conflict_aborts (aborts_at entry p.rtm t touch)) p.own;
}

abbrev pub core_touched : Touch → Option Store → ℕ → CoreParts → CoreParts
core_touched touch store t p = touched_as (entry_of p.rtm t touch) touch store t p

-- ---- actions of a thread alone

-- why a thread can't do an action without memory, where it can't
abbrev pub failure_simply : CoreParts → ℕ → Action → Option Cause
failure_simply p t action = option_map_or (λ (w : OwnParts). failure_in p.program t w.thread action) (slice_get p.own t) None

-- and why not any action
abbrev pub failure_at : CoreParts → ℕ → Action → Option Cause
failure_at p t action = failure_simply p t (resolved (seen_by p.rtm t) action)

-- the thread moves on by what an action is without memory
abbrev pub core_moved : Option (Side × Loc) → Action → ℕ → CoreParts → CoreParts
core_moved target action t p = with_own t (λ w. record w { thread = moved_thread p.program t target action w.thread }) p

abbrev pub core_done : Option (Side × Loc) → Action → ℕ → CoreParts → CoreParts
core_done target action t p = core_moved target (resolved (seen_by p.rtm t) action) t p

-- a turn is told, where it retires an instruction of the source: outside at once, inside it waits
abbrev pub told_as : Bool → ℕ → CoreParts → CoreParts
told_as true t p = with_own t once_pending p
told_as false t p = record p { turns = p.turns ++ replicate 1 t }

abbrev pub core_told : Bool → ℕ → CoreParts → CoreParts
core_told true t p = told_as (is_open p t) t p
core_told false t p = p

-- and struck out again
abbrev pub untold_as : Bool → ℕ → CoreParts → CoreParts
untold_as true t p = with_own t once_unpending p
untold_as false t p = record p { turns = take (length p.turns - 1) p.turns }

abbrev pub core_untold : Bool → ℕ → CoreParts → CoreParts
core_untold true t p = untold_as (is_open p t) t p
core_untold false t p = p

-- what an action does to memory
abbrev pub core_accessed : Action → ℕ → CoreParts → CoreParts
core_accessed (Read place atomic) t p = core_touched (reading place.address (bytes place.size)) None t p
core_accessed (Write place n atomic) t p =
    core_touched (writing place.address (bytes place.size)) (Some (record { address = place.address; size = bytes place.size; word = n })) t p
core_accessed (Update place update) t p = core_touched (updating place.address (bytes place.size))
    (Some (record { address = place.address; size = bytes place.size; word = updated update (word_seen p.rtm t place.address (bytes place.size)) })) t p
core_accessed (Assign n) t p = p
core_accessed (Reserve n) t p = p
core_accessed Pass t p = p
core_accessed (Jump label) t p = p
core_accessed (Call n words) t p = p
core_accessed (Ask request) t p = p
core_accessed (Create address n argument) t p = p
core_accessed (Join other) t p = p
core_accessed (Exit code) t p = p
core_accessed (Return n) t p = p
core_accessed (Fault cause) t p = p

-- whether the lists take it
abbrev pub took : Got → Bool
took (gots.Value n) = true
took gots.Trap = true
took gots.Overflow = false

abbrev pub room_for : Action → ℕ → CoreParts → Bool
room_for (Read place atomic) t p =
    took (got_of (entry_of p.rtm t (reading place.address (bytes place.size))) (word_seen p.rtm t place.address (bytes place.size)))
room_for (Write place n atomic) t p = took (got_of (entry_of p.rtm t (writing place.address (bytes place.size))) n)
room_for (Update place update) t p =
    took (got_of (entry_of p.rtm t (updating place.address (bytes place.size))) (word_seen p.rtm t place.address (bytes place.size)))
room_for (Assign n) t p = true
room_for (Reserve n) t p = true
room_for Pass t p = true
room_for (Jump label) t p = true
room_for (Call n words) t p = true
room_for (Ask request) t p = true
room_for (Create address n argument) t p = true
room_for (Join other) t p = true
room_for (Exit code) t p = true
room_for (Return n) t p = true
room_for (Fault cause) t p = true

-- where they do, it is done; else the thread is aborted
abbrev pub finished_as : Bool → ℕ → CoreParts → CoreParts
finished_as true t p = p
finished_as false t p = core_aborted Overflow t p

abbrev pub core_finished : Action → ℕ → CoreParts → CoreParts
core_finished action t p = finished_as (room_for action t p) t (core_accessed action t p)

-- an action of a thread alone: it can't be done, or is done
abbrev pub alone_as : Option Cause → Bool → Option (Side × Loc) → Action → ℕ → CoreParts → CoreParts
alone_as (Some cause) retires target action t p = core_trapped t p
alone_as None retires target action t p = core_finished action t (core_done target action t (core_told retires t p))

abbrev pub core_alone : Bool → Option (Side × Loc) → Action → ℕ → CoreParts → CoreParts
core_alone retires target action t p = alone_as (failure_at (core_told retires t p) t action) retires target action t p

-- ---- mutexes that others take

-- a thread that watches the mutex, other than the one that takes it, is aborted
abbrev pub watcher_if : Bool → ℕ → CoreParts → CoreParts
watcher_if true u p = core_aborted Conflict u p
watcher_if false u p = p

abbrev pub watches_other : CoreParts → ℕ → ℕ → ℕ → Bool
watches_other p t address u = not (nat_eq u t) && has (watch_of p.watches u).watched address

-- so are the first so many threads
abbrev pub watchers_aborted : ℕ → ℕ → ℕ → CoreParts → CoreParts
watchers_aborted zero t address p = p
watchers_aborted (suc u) t address p = watcher_if (watches_other (watchers_aborted u t address p) t address u) u (watchers_aborted u t address p)

abbrev pub core_taken : ℕ → ℕ → CoreParts → CoreParts
core_taken address t p = watchers_aborted (length p.own) t address p

-- ---- requests to the environment

-- what it replies to a thread
abbrev pub reply_at : CoreParts → ℕ → Request → Reply
reply_at p t request = option_map_or (λ (w : OwnParts). reply_in request t p.world w.thread) (slice_get p.own t) Waits

abbrev pub world_at : CoreParts → ℕ → Request → WorldParts
world_at p t request = option_map_or (λ (w : OwnParts). world_in request t p.world w.thread) (slice_get p.own t) p.world

-- a thread has asked
abbrev pub core_requested : Option (Side × Loc) → Request → ℕ → CoreParts → CoreParts
core_requested target request t p = record p {
  own = own_with t (λ w. record w { thread = asked_thread p.program target request t p.world w.thread }) p.own;
  world = world_at p t request;
}

-- the mutex that it takes, if any, is taken from those that watch it
abbrev pub taken_as : Option ℕ → ℕ → CoreParts → CoreParts
taken_as None t p = p
taken_as (Some address) t p = core_taken address t p

abbrev pub core_taking : Request → ℕ → CoreParts → CoreParts
core_taking request t p = taken_as (taken_by (mutex_request request)) t p

-- a request is answered, must wait, or can't be made
abbrev pub replied_as : Reply → Bool → Option (Side × Loc) → Request → ℕ → CoreParts → CoreParts
replied_as (Answers n) retires target request t p = core_taking request t (core_requested target request t (core_told retires t p))
replied_as Waits retires target request t p = p
replied_as (Refuses cause) retires target request t p = core_trapped t p

abbrev pub core_asked : Bool → Option (Side × Loc) → Request → ℕ → CoreParts → CoreParts
core_asked retires target request t p = replied_as (reply_at (core_told retires t p) t request) retires target request t p
