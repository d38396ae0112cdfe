-- The turns of one entry that are left, and the entries of which they can be.
use Rattle.std.specs.Prelude.{◌≤◌, ◌-◌, List, ◌++◌, map, replicate}
use Rattle.std.specs.List.{range_with_len}
use Rattle.sched_file.specs.declared.drawing.Pending.{Pending}
use Rattle.sched_file.specs.declared.drawing.Pending.TheVariants as pending
use Rattle.sched_file.specs.Events.{Happening, TurnOf, turn_of, round_turns, mix_turns}

unfoldable pub turns_left : Pending → List Happening
turns_left (pending.Same thread turns) = replicate turns (TurnOf thread)
turns_left (pending.Rounds threads next rounds) = map turn_of (range_with_len next (threads - next)) ++ round_turns threads rounds
turns_left (pending.Mixed threads x turns) = mix_turns threads x turns

-- there is a thread, and the next one is one of them
abbrev pub IsReady : Pending → Type 0
IsReady (pending.Same thread turns) = Unit {0}
IsReady (pending.Rounds threads next rounds) = (1 ≤ threads) × (next ≤ threads)
IsReady (pending.Mixed threads x turns) = 1 ≤ threads
