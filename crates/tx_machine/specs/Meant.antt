-- The state that the code's parts stand for, with the upsets as they came; and what always holds of the parts.
use Rattle.std.specs.Prelude.{ℕ, ◌≤◌, ◌≡◌, false, List, [], ◌∷◌, Option, Some, length, slice_get}
use Rattle.std.specs.Option.{is_some}
use Rattle.ir_layout.specs.Memory.{thread_limit}
use Rattle.process.specs.declared.state.CallStack.{CallStack}
use Rattle.hard_frames.specs.declared.state.Frame.{Frame}
use Rattle.elide.specs.Watches.{WatchParts}
use Rattle.rtm_core.specs.Transactions.{Transaction}
use Rattle.hard_meaning.specs.State.{Upset, State}
use Rattle.tx_machine.specs.Own.{OwnParts}
use Rattle.tx_machine.specs.Joined.{joined, is_in}
use Rattle.tx_machine.specs.Core.{CoreParts}

abbrev pub state_of : CoreParts → List Upset → State
state_of p upsets = record {
  memory = p.rtm.memory;
  workers = joined p.own p.rtm.threads p.watches;
  world = p.world;
  turns = p.turns;
  stop = p.stop;
  upsets = upsets;
}

-- a thread has a transaction exactly where the runtime says that it is inside; one that wasn't made has none
abbrev pub AreTied : List OwnParts → List (Option (Transaction (CallStack Frame))) → Type 0
AreTied [] [] = Unit {0}
AreTied [] (x ∷ xs) = (is_some x ≡ false) × AreTied [] xs
AreTied (w ∷ ws) [] = ⊥
AreTied (w ∷ ws) (x ∷ xs) = (is_some x ≡ is_in w.words.mode) × AreTied ws xs

-- there is room for each thread that may be made
pub record IsTied (p : CoreParts) : Type 0 where
  pub threads : length p.rtm.threads ≡ thread_limit
  pub watches : length p.watches ≡ thread_limit
  pub own : length p.own ≤ thread_limit
  pub tied : AreTied p.own p.rtm.threads

-- a thread that was made, with its transaction and what it watches
pub record StandsAt (p : CoreParts) (t : ℕ) (w : OwnParts) (x : Option (Transaction (CallStack Frame))) (k : WatchParts) : Type 0 where
  pub made : slice_get p.own t ≡ Some w
  pub open_there : slice_get p.rtm.threads t ≡ Some x
  pub watching : slice_get p.watches t ≡ Some k
  pub tied : is_some x ≡ is_in w.words.mode
