-- A thread as the code keeps it: beside its frames and the runtime's words, how many transactions it has begun, and what belongs to the open
-- one: how many turns wait for it to commit, and the numbers of the upsets that struck since it began.
--
-- Choices: what a transaction kept and touched stands in memory under transactions, and what it watches and holds with lock elision. What belongs to a transaction
-- has no meaning while none is open. A thread has aborted fewer transactions of each cause than it has begun, so no count runs over.
use Rattle.std.specs.Prelude.{ℕ, suc, ◌≤◌, ◌<◌, ◌+◌, ◌-◌, ◌^◌, Bool, List, [], ◌++◌, Option, Some, None}
use Rattle.ir_core.specs.declared.types.Ty.{Ty}
use Rattle.ir_core.specs.declared.types.Loc.{Loc}
use Rattle.ir_core.specs.declared.values.Side.{Side}
use Rattle.ir_core.specs.declared.values.Side.TheVariants.{S}
use Rattle.inst_meaning.specs.declared.actions.Action.{Action}
use Rattle.inst_meaning.specs.declared.actions.Cause.{Cause}
use Rattle.inst_meaning.specs.declared.actions.Request.{Request}
use Rattle.inst_meaning.specs.declared.actions.Reply.{Reply}
use Rattle.inst_meaning.specs.declared.actions.Reply.TheVariants.{Waits}
use Rattle.inst_meaning.specs.World.{WorldParts, asked_of}
use Rattle.inst_meaning.specs.Registers.{get}
use Rattle.process.specs.State.{in_frame}
use Rattle.process.specs.Outcome.{failure, thread_after, called}
use Rattle.process.specs.code.Moves.{where_done, answered}
use Rattle.hard_ir.specs.Hardened.{HardParts}
use Rattle.hard_frames.specs.Frames.{frames, passed, resulted}
use Rattle.hard_meaning.specs.Checks.{same_word}
use Rattle.process.specs.declared.state.CallStack.{CallStack}
use Rattle.process.specs.declared.state.Thread.{Thread}
use Rattle.process.specs.declared.state.Thread.TheVariants.{Running, Exiting, Ended}
use Rattle.hard_frames.specs.declared.outcome.Aborts.{Aborts}
use Rattle.hard_frames.specs.declared.state.Frame.{Frame}
use Rattle.tx_runtime.specs.declared.words.Act.{Act}
use Rattle.tx_runtime.specs.declared.words.Act.TheVariants.{Nothing, Xbegin, Xend}
use Rattle.tx_runtime.specs.declared.words.Mode as runtime
use Rattle.tx_runtime.specs.declared.words.Mode.TheVariants.{Out, In, Plain}
use Rattle.tx_runtime.specs.Words.{WordsParts, opening_words, at_stake, begin_act, begun, ended, ticked, undone}
use Rattle.hard_meaning.specs.Aborts as meaning
use Rattle.hard_meaning.specs.State.{no_aborts}
use Rattle.tx_machine.specs.declared.workers.Status.{Status}
use Rattle.tx_machine.specs.declared.workers.Status.TheVariants.{Mismatch, Locked, Conflict, Overflow, Other}

-- the numbers of upsets that struck since its transaction began, and of those that no abort can undo, the last first
pub record MarksParts : Type 0 where
  pub struck : List ℕ
  pub hits : List ℕ

pub record OwnParts : Type 0 where
  pub thread : Thread Frame
  pub words : WordsParts
  pub aborts : Aborts
  pub begun : ℕ
  pub pending : ℕ
  pub struck : List ℕ
  pub hits : List ℕ

-- a count of aborts, and the transaction that may yet abort, are among those that were begun; these are so few that no sum over threads runs over
pub record AreCounted (w : OwnParts) : Type 0 where
  pub explicit : w.aborts.explicit + at_stake w.words.mode ≤ w.begun
  pub conflict : w.aborts.conflict + at_stake w.words.mode ≤ w.begun
  pub overflow : w.aborts.overflow + at_stake w.words.mode ≤ w.begun
  pub other : w.aborts.other + at_stake w.words.mode ≤ w.begun
  pub few : w.begun < 2 ^ 56

-- ---- causes of aborts

abbrev pub meant : Status → meaning.Status
meant Mismatch = meaning.Mismatch
meant Locked = meaning.Locked
meant Conflict = meaning.Conflict
meant Overflow = meaning.Overflow
meant Other = meaning.Other

-- ---- what happens to one thread

abbrev pub new_own : Thread Frame → OwnParts
new_own thread = record { thread = thread; words = opening_words; aborts = no_aborts; begun = 0; pending = 0; struck = []; hits = [] }

-- its thread passes its instruction
abbrev pub passed_thread : Thread Frame → Thread Frame
passed_thread (Running stack) = in_frame stack (passed stack.frame)
passed_thread (Exiting n) = Exiting n
passed_thread Ended = Ended

abbrev pub once_passed : OwnParts → OwnParts
once_passed w = record w { thread = passed_thread w.thread }

-- it begins a transaction, where the runtime says so, and keeps its frames for that
abbrev pub begun_as : Act → OwnParts → OwnParts
begun_as Nothing w = record w { words = begun w.words }
begun_as Xbegin w = record w { words = begun w.words; begun = suc w.begun; pending = 0; struck = [] }
begun_as Xend w = record w { words = begun w.words }

abbrev pub begun_thread : Thread Frame → OwnParts → OwnParts
begun_thread (Running stack) w = once_passed (begun_as (begin_act w.words) w)
begun_thread (Exiting n) w = w
begun_thread Ended w = w

abbrev pub once_begun : OwnParts → OwnParts
once_begun w = begun_thread w.thread w

abbrev pub kept_by : Act → CallStack Frame → Option (CallStack Frame)
kept_by Nothing stack = None
kept_by Xbegin stack = Some stack
kept_by Xend stack = None

abbrev pub kept_thread : Thread Frame → OwnParts → Option (CallStack Frame)
kept_thread (Running stack) w = kept_by (begin_act w.words) stack
kept_thread (Exiting n) w = None
kept_thread Ended w = None

-- work is counted
abbrev pub once_ticked : ℕ → OwnParts → OwnParts
once_ticked work w = once_passed (record w { words = ticked work w.words })

-- its transaction commits, or it has none: it is outside
abbrev pub once_ended : OwnParts → OwnParts
once_ended w = record w { words = ended w.words }

abbrev pub once_committed : OwnParts → OwnParts
once_committed w = record w { words = ended w.words; struck = []; hits = w.struck ++ w.hits }

-- a turn more waits for its transaction to commit
abbrev pub once_pending : OwnParts → OwnParts
once_pending w = record w { pending = suc w.pending }

abbrev pub once_unpending : OwnParts → OwnParts
once_unpending w = record w { pending = w.pending - 1 }

-- ---- checks and copies

-- whether both sides have the same word of a type, where both have one
abbrev pub compared_words : Ty → Option ℕ → Option ℕ → Option Bool
compared_words ty (Some a) (Some b) = Some (same_word ty a b)
compared_words ty (Some a) None = None
compared_words ty None b = None

abbrev pub compared_in : Thread Frame → Ty → Loc → Option Bool
compared_in (Running stack) ty reg = compared_words ty (get stack.frame.masters reg.0) (get stack.frame.shadows reg.0)
compared_in (Exiting n) ty reg = None
compared_in Ended ty reg = None

-- the shadow of a register becomes its master, where that has a word
abbrev pub once_copied : Option ℕ → Loc → Frame → Frame
once_copied (Some n) reg frame = resulted (Some (S, reg)) n frame
once_copied None reg frame = frame

abbrev pub copied_in : Thread Frame → Loc → Option ℕ
copied_in (Running stack) reg = get stack.frame.masters reg.0
copied_in (Exiting n) reg = None
copied_in Ended reg = None

abbrev pub copied_thread : Thread Frame → Loc → Thread Frame
copied_thread (Running stack) reg = in_frame stack (once_copied (get stack.frame.masters reg.0) reg stack.frame)
copied_thread (Exiting n) reg = Exiting n
copied_thread Ended reg = Ended

-- its transaction is aborted, and these frames run again; a thread that isn't inside is not aborted
abbrev pub undone_in : runtime.Mode → meaning.Status → CallStack Frame → OwnParts → OwnParts
undone_in Out status kept w = w
undone_in Plain status kept w = w
undone_in In status kept w = record w { thread = Running kept; words = undone w.words; aborts = meaning.counted status w.aborts }

abbrev pub once_undone : meaning.Status → CallStack Frame → OwnParts → OwnParts
once_undone status kept w = undone_in w.words.mode status kept w

-- ---- actions without memory

abbrev pub stack_of : Thread Frame → Option (CallStack Frame)
stack_of (Running stack) = Some stack
stack_of (Exiting n) = None
stack_of Ended = None

-- why a thread can't do an action, where it can't
abbrev pub failure_in : HardParts → ℕ → Thread Frame → Action → Option Cause
failure_in h t (Running stack) action = failure (frames h) [] t stack action
failure_in h t (Exiting n) action = None
failure_in h t Ended action = None

-- and what it is otherwise
abbrev pub moved_thread : HardParts → ℕ → Option (Side × Loc) → Action → Thread Frame → Thread Frame
moved_thread h t target action (Running stack) =
    where_done (failure (frames h) [] t stack action) (thread_after (frames h) target stack action 0) (Running stack)
moved_thread h t target action (Exiting n) = Exiting n
moved_thread h t target action Ended = Ended

-- ---- requests to the environment

abbrev pub reply_in : Request → ℕ → WorldParts → Thread Frame → Reply
reply_in request t world (Running stack) = (asked_of request t world).1
reply_in request t world (Exiting n) = Waits
reply_in request t world Ended = Waits

abbrev pub world_in : Request → ℕ → WorldParts → Thread Frame → WorldParts
world_in request t world (Running stack) = (asked_of request t world).0
world_in request t world (Exiting n) = world
world_in request t world Ended = world

abbrev pub asked_thread : HardParts → Option (Side × Loc) → Request → ℕ → WorldParts → Thread Frame → Thread Frame
asked_thread h target request t world (Running stack) = in_frame stack (answered (frames h) target (asked_of request t world).1 stack.frame)
asked_thread h target request t world (Exiting n) = Exiting n
asked_thread h target request t world Ended = Ended

-- a call is done, with this result
abbrev pub called_thread : HardParts → Option (Side × Loc) → ℕ → Thread Frame → Thread Frame
called_thread h target n (Running stack) = called (frames h) target stack n
called_thread h target n (Exiting k) = Exiting k
called_thread h target n Ended = Ended
