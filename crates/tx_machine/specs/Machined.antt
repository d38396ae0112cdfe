-- A machine with its program, as contracts see it; and what its parts show of its state.
use Rattle.std.specs.Prelude.{ℕ, true, false, Option, Some, None, slice_get}
use Rattle.std.specs.Option.{option_map, option_and_then}
use Rattle.process.specs.declared.state.CallStack.{CallStack}
use Rattle.hard_ir.specs.Hardened.{HardParts}
use Rattle.hard_frames.specs.declared.outcome.Stop.{Stop}
use Rattle.hard_frames.specs.declared.state.Frame.{Frame}
use Rattle.elide.specs.Watches.{WatchParts}
use Rattle.rtm_core.specs.Transactions.{Transaction}
use Rattle.tx_runtime.specs.declared.words.Mode as runtime
use Rattle.tx_runtime.specs.declared.words.Mode.TheVariants.{Out, In, Plain}
use Rattle.tx_runtime.specs.Words.{WordsParts}
use Rattle.hard_meaning.specs.State.{Mode, Free, Inside, Worker, State}
use Rattle.tx_machine.specs.declared.machine.Flow.{Flow}
use Rattle.tx_machine.specs.declared.machine.Flow.TheVariants.{Going, Stopped}

pub record Machined : Type 0 where
  pub program : HardParts
  pub state : State

-- whether it goes on
abbrev pub flow_of : Option Stop → Flow
flow_of None = Going
flow_of (Some stop) = Stopped

-- ---- what the parts show

-- the transaction that a mode has, by what it kept and touched
abbrev pub open_in : Mode → Option (Transaction (CallStack Frame))
open_in (Free plain) = None
open_in (Inside tx) = Some (record { kept = tx.kept; footprint = tx.footprint })

abbrev pub open_at : State → ℕ → Option (Transaction (CallStack Frame))
open_at s t = option_and_then (λ (w : Worker). open_in w.mode) (slice_get s.workers t)

-- the runtime's words of a thread
abbrev pub mode_word : Mode → runtime.Mode
mode_word (Free false) = Out
mode_word (Free true) = Plain
mode_word (Inside tx) = In

abbrev pub words_of : Worker → WordsParts
words_of w = record { mode = mode_word w.mode; attempts = w.attempts; counter = w.counter }

abbrev pub words_at : State → ℕ → Option WordsParts
words_at s t = option_map words_of (slice_get s.workers t)

-- the mutexes that a transaction watches and holds
abbrev pub watched_in : Mode → Option WatchParts
watched_in (Free plain) = None
watched_in (Inside tx) = Some (record { watched = tx.watched; held = tx.held })

abbrev pub watched_at : State → ℕ → Option WatchParts
watched_at s t = option_and_then (λ (w : Worker). watched_in w.mode) (slice_get s.workers t)
