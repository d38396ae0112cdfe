-- The opening is that of the definitions, and is tied.
use Rattle.std.proofs.Common.{ℕ, zero, suc, ◌≡◌, List, [], Option, None, refl, arith}
use Rattle.std.specs.Prelude.{replicate}
use Rattle.std.proofs.lemmas.List.{length-replicate}
use Rattle.ir_layout.specs.Memory.{thread_limit}
use Rattle.process.specs.declared.state.CallStack.{CallStack}
use Rattle.hard_ir.specs.Hardened.{HardParts}
use Rattle.hard_frames.specs.declared.state.Frame.{Frame}
use Rattle.elide.specs.Watches.{nothing_watched}
use Rattle.rtm_core.specs.Transactions.{Transaction}
use Rattle.hard_meaning.specs.State.{opening}
use Rattle.tx_machine.specs.Turned.{core_opening}
use Rattle.tx_machine.specs.Meant.{state_of, AreTied, IsTied}

none-tied : (n : ℕ) → AreTied [] (replicate n None)
none-tied zero = tt
none-tied (suc n) = (refl, none-tied n)

pub opening-tied : (h : HardParts) (arguments : List ℕ) → IsTied (core_opening h arguments)
opening-tied h arguments = record {
  threads = length-replicate {A = Option (Transaction (CallStack Frame))} thread_limit None;
  watches = length-replicate thread_limit nothing_watched;
  own = omega arith;
  tied = (refl, none-tied 63);
}

pub opening-meant : (h : HardParts) (arguments : List ℕ) → state_of (core_opening h arguments) [] ≡ opening h arguments
opening-meant h arguments = refl
