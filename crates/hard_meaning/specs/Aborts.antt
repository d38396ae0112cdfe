-- Aborts: a thread inside a transaction takes back its frames, and what the transaction did is forgotten (Intel 64 and IA-32 Architectures
-- Software Developer's Manual, volume 1, 'RTM Abort Status Definition').
--
-- Choices: an abort is a function of one thread. A thread that isn't inside is not aborted. Another thread's action aborts each
-- transaction that stands in its way, with one status, so that their order shows in nothing.
use Rattle.std.specs.Prelude.{ℕ, suc, Bool, true, false, ◌||◌, List, Option, Some, None}
use Rattle.mem_image.specs.Touches.{Touch}
use Rattle.line_sets.specs.Sets.{has}
use Rattle.rtm_core.specs.Footprint.{Footprint, conflicts}
use Rattle.process.specs.declared.state.Thread.TheVariants.{Running}
use Rattle.hard_frames.specs.declared.outcome.Aborts.{Aborts}
use Rattle.hard_meaning.specs.State.{Mode, Free, Inside, Worker}

-- a check failed (XABORT 1); a transaction ended with a mutex held that it only watches (XABORT 2); another thread's action; a list was
-- full; anything else
pub data Status : Type 0 where
  Mismatch : Status
  Locked : Status
  Conflict : Status
  Overflow : Status
  Other : Status

-- the status as the processor would give it
abbrev pub status_word : Status → ℕ
status_word Mismatch = 16777217
status_word Locked = 33554433
status_word Conflict = 6
status_word Overflow = 8
status_word Other = 0

abbrev pub counted : Status → Aborts → Aborts
counted Mismatch n = record n { explicit = suc n.explicit }
counted Locked n = record n { explicit = suc n.explicit }
counted Conflict n = record n { conflict = suc n.conflict }
counted Overflow n = record n { overflow = suc n.overflow }
counted Other n = record n { other = suc n.other }

abbrev pub aborted_from : Status → Worker → Mode → Worker
aborted_from status w (Free plain) = w
aborted_from status w (Inside tx) =
    record w { thread = Running tx.kept; mode = Free false; attempts = suc w.attempts; aborts = counted status w.aborts }

abbrev pub aborted : Status → Worker → Worker
aborted status w = aborted_from status w w.mode

-- ---- what aborts others

-- what an action wants of others: an access to memory, and a mutex that it takes
pub record Claim : Type 0 where
  pub touch : Option Touch
  pub mutex : Option ℕ

abbrev pub meets_touch : Option Touch → Footprint → Bool
meets_touch None footprint = false
meets_touch (Some touch) footprint = conflicts touch footprint

abbrev pub meets_mutex : Option ℕ → List ℕ → Bool
meets_mutex None watched = false
meets_mutex (Some address) watched = has watched address

-- a thread's transaction stands in the way of another's action
abbrev pub is_in_the_way : Claim → Mode → Bool
is_in_the_way claim (Free plain) = false
is_in_the_way claim (Inside tx) = meets_touch claim.touch tx.footprint || meets_mutex claim.mutex tx.watched

abbrev pub aborted_if : Bool → Worker → Worker
aborted_if true w = aborted Conflict w
aborted_if false w = w

-- what another thread's action leaves of a thread
abbrev pub spared : Claim → Worker → Worker
spared claim w = aborted_if (is_in_the_way claim w.mode) w
