-- The events of a schedule, in order.
use Rattle.std.specs.Prelude.{ℕ, zero, suc, ◌≤◌, ◌+◌, ◌*◌, ◌/◌, ◌%◌, ◌^◌, List, [], ◌∷◌, ◌++◌, map, replicate}
use Rattle.std.specs.List.{flat_map, range_with_len}
use Rattle.ir_core.specs.declared.types.Tid.{Tid}
use Rattle.sched_file.specs.declared.entries.UpsetSpec.{UpsetSpec}
use Rattle.sched_file.specs.declared.entries.Line.{Line}
use Rattle.sched_file.specs.declared.entries.Line.TheVariants as entries

-- one event: a turn of a thread, an abort of its transaction, or an upset
pub data Happening : Type 0 where
  TurnOf : Tid → Happening
  AbortOf : Tid → Happening
  UpsetBy : UpsetSpec → Happening

-- a turn of the thread with this number
abbrev pub turn_of : ℕ → Happening
turn_of thread = TurnOf (record { 0 = thread })

-- so many times a turn of each of the threads from 0 on, in order
unfoldable pub round_turns : ℕ → ℕ → List Happening
round_turns threads zero = []
round_turns threads (suc rounds) = map turn_of (range_with_len 0 threads) ++ round_turns threads rounds

-- the number behind x in a mix
abbrev pub mixed : ℕ → ℕ
mixed x = (6364136223846793005 * x + 1442695040888963407) % 2 ^ 64

-- So many turns of a mix: before each, the next number is drawn, and its upper 31 bits say which thread has the turn.
unfoldable pub mix_turns : ℕ → ℕ → ℕ → List Happening
mix_turns threads x zero = []
mix_turns threads x (suc turns) = turn_of ((mixed x / 2 ^ 33) % threads) ∷ mix_turns threads (mixed x) turns

-- the events of one entry
unfoldable pub events_in : Line → List Happening
events_in (entries.Turn thread turns) = replicate turns (TurnOf thread)
events_in (entries.Round threads rounds) = round_turns threads rounds
events_in (entries.Mix threads seed turns) = mix_turns threads seed turns
events_in (entries.Abort thread) = AbortOf thread ∷ []
events_in (entries.Upset upset) = UpsetBy upset ∷ []

-- the events of the entries, one entry after the other
unfoldable pub events_of : List Line → List Happening
events_of lines = flat_map events_in lines

-- an entry speaks of one thread at least
abbrev pub HasThread : Line → Type 0
HasThread (entries.Turn thread turns) = Unit {0}
HasThread (entries.Round threads rounds) = 1 ≤ threads
HasThread (entries.Mix threads seed turns) = 1 ≤ threads
HasThread (entries.Abort thread) = Unit {0}
HasThread (entries.Upset upset) = Unit {0}
