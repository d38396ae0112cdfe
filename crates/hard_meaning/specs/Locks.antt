-- Calls that lock and unlock a mutex inside a transaction, where they are done by watching: the mutex stays free, and whoever takes it
-- aborts the transaction.
--
-- Choices: what is watched and held changes as lock elision's own table says. A transaction can lock one that has no owner and that it doesn't hold, and unlock one that it holds.
-- A call that can't be done so ends the transaction, keeps its place, and is done outside at a later turn.
use Rattle.std.specs.Prelude.{ℕ, Bool, not, ◌&&◌, ◌∷◌, Option, Some, None}
use Rattle.std.specs.Option.{is_none}
use Rattle.line_sets.specs.Sets.{has, with_member, takes}
pub use Rattle.elide.specs.Watches.{watch_limit, without}
use Rattle.inst_meaning.specs.declared.actions.Action.{Action}
use Rattle.inst_meaning.specs.declared.actions.Action.TheVariants.{Assign, Reserve, Read, Write, Update, Pass, Jump, Call, Ask, Create, Join, Exit, Return, Fault}
use Rattle.inst_meaning.specs.declared.actions.Request.{Request}
use Rattle.inst_meaning.specs.declared.actions.Request.TheVariants.{Lock, Unlock, Put, Output, Allocate, Free as FreeMemory, Argument}
use Rattle.inst_meaning.specs.World.{WorldParts, owner_of}
use Rattle.hard_meaning.specs.State.{Transaction}

pub data MutexCall : Type 0 where
  Locks : ℕ → MutexCall
  Unlocks : ℕ → MutexCall

abbrev pub mutex_request : Request → Option MutexCall
mutex_request (Lock address) = Some (Locks address)
mutex_request (Unlock address) = Some (Unlocks address)
mutex_request (Put n) = None
mutex_request (Output n) = None
mutex_request (Allocate size) = None
mutex_request FreeMemory = None
mutex_request (Argument n) = None

-- the call of a mutex that an action is
abbrev pub mutex_call : Action → Option MutexCall
mutex_call (Assign n) = None
mutex_call (Reserve size) = None
mutex_call (Read place atomic) = None
mutex_call (Write place n atomic) = None
mutex_call (Update place update) = None
mutex_call Pass = None
mutex_call (Jump label) = None
mutex_call (Call n words) = None
mutex_call (Ask request) = mutex_request request
mutex_call (Create address n argument) = None
mutex_call (Join other) = None
mutex_call (Exit code) = None
mutex_call (Return n) = None
mutex_call (Fault cause) = None

-- the mutex that a call takes where it is done
abbrev pub taken_by : Option MutexCall → Option ℕ
taken_by None = None
taken_by (Some (Locks address)) = Some address
taken_by (Some (Unlocks address)) = None

-- ---- inside

-- it can be done by watching
abbrev pub can_watch : MutexCall → WorldParts → Transaction → Bool
can_watch (Locks address) world tx =
    is_none (owner_of world.owners address) && (not (has tx.held address) && takes watch_limit tx.watched address)
can_watch (Unlocks address) world tx = has tx.held address

-- and then it watches the mutex, and holds it or no longer
abbrev pub watching : MutexCall → Transaction → Transaction
watching (Locks address) tx = record tx { watched = with_member tx.watched address; held = address ∷ tx.held }
watching (Unlocks address) tx = record tx { held = without tx.held address }
