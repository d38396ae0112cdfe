-- Threads as the machine's definitions see them, out of what three parts of the code keep: the threads by themselves, their transactions in
-- memory under transactions, and what they watch and hold.
use Rattle.std.specs.Prelude.{Bool, true, false, List, [], ◌∷◌, Option, Some, None}
use Rattle.process.specs.declared.state.CallStack.{CallStack}
use Rattle.tx_runtime.specs.declared.words.Mode as runtime
use Rattle.tx_runtime.specs.declared.words.Mode.TheVariants.{Out, In, Plain}
use Rattle.hard_frames.specs.declared.state.Frame.{Frame}
use Rattle.elide.specs.Watches.{WatchParts}
use Rattle.rtm_core.specs.Transactions.{Transaction}
use Rattle.hard_meaning.specs.State.{Mode, Free, Inside, Worker}
use Rattle.tx_machine.specs.Own.{OwnParts}

-- the mode of a thread; a thread inside has a transaction
abbrev pub mode_with : runtime.Mode → OwnParts → Option (Transaction (CallStack Frame)) → WatchParts → Mode
mode_with Out w x k = Free false
mode_with Plain w x k = Free true
mode_with In w None k = Free false
mode_with In w (Some x) k =
    Inside (record { kept = x.kept; footprint = x.footprint; pending = w.pending; struck = w.struck; watched = k.watched; held = k.held })

abbrev pub joined_one : OwnParts → Option (Transaction (CallStack Frame)) → WatchParts → Worker
joined_one w x k = record {
  thread = w.thread;
  mode = mode_with w.words.mode w x k;
  attempts = w.words.attempts;
  counter = w.words.counter;
  hits = w.hits;
  aborts = w.aborts;
}

abbrev pub joined : List OwnParts → List (Option (Transaction (CallStack Frame))) → List WatchParts → List Worker
joined [] xs ks = []
joined (w ∷ ws) [] ks = []
joined (w ∷ ws) (x ∷ xs) [] = []
joined (w ∷ ws) (x ∷ xs) (k ∷ ks) = joined_one w x k ∷ joined ws xs ks

-- a thread has a transaction exactly where the runtime says that it is inside
abbrev pub is_in : runtime.Mode → Bool
is_in Out = false
is_in Plain = false
is_in In = true
