-- What is said of a line, by what was read of it.
use Rattle.std.specs.Prelude.{ℕ, ◌-◌, ◌≤◌, ◌==◌, Result, Ok, Err, if◌then◌else◌}
use Rattle.ir_parse_parts.specs.declared.stops.Stop.{Stop}
use Rattle.ir_parse_parts.specs.declared.stops.Stop.TheVariants as stops
use Rattle.ir_parse_parts.specs.declared.stops.LineError.{LineError}
use Rattle.ir_parse_parts.specs.declared.stops.LineError.TheVariants as lines

-- reading stopped at one of so many tokens, or behind them
abbrev pub StopsWithin : {A : Type 0} → Result A Stop → ℕ → Type 0
StopsWithin (Err (stops.Unfit left)) fitting = left ≤ fitting
StopsWithin read fitting = Unit {0}

-- the answer by what was read of so many of a line's tokens
abbrev pub answer : {A : Type 0} → Result A Stop → ℕ → ℕ → Result A LineError
answer (Ok v) fitting tokens = if fitting == tokens then Ok v else Err (lines.Unfit fitting)
answer (Err (stops.Unfit left)) fitting tokens = Err (lines.Unfit (fitting - left))
answer (Err stops.NoMemory) fitting tokens = Err lines.NoMemory
