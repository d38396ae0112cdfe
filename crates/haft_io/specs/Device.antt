-- What the calls of a device do to the bytes left in it or written to it, and to its counts of faults.
use Rattle.std.specs.Prelude.{◌≡◌, ◌≤◌, ◌<◌, ℕ, ◌+◌, ◌-◌, ◌^◌, min, Option, Some, List, [], ◌++◌, length, take}
use Rattle.std.specs.Option.{option_map}
use Rattle.haft_io.specs.declared.device.Which.{Which}
use Rattle.haft_io.specs.declared.device.Which.TheVariants.{First, Second}

-- the file that isn't this one
abbrev pub other : Which → Which
other First = Second
other Second = First

-- of two values, the one for this file
abbrev pub of_file : {A : Type 0} → A → A → Which → A
of_file first second First = first
of_file first second Second = second

-- a count after one more: a count is kept in a u64, and stands still at its last value
abbrev pub counted : ℕ → ℕ
counted count = min (count + 1) (2 ^ 64 - 1)

-- a count rose: it is greater now than before, or stands at its last value
abbrev pub Rose : ℕ → ℕ → Type 0
Rose before now = counted before ≤ now

-- these bytes were the next ones left, and those behind them are left now, told where they were
abbrev pub Takes : Option (List ℕ) → List ℕ → Option (List ℕ) → Type 0
Takes old bytes new = old ≡ option_map (λ rest. bytes ++ rest) new

-- no byte is left, told where they were told before
abbrev pub emptied : Option (List ℕ) → Option (List ℕ)
emptied left = option_map (λ _. []) left

-- these bytes were appended, where the sink tells now; one that didn't tell before doesn't tell now
pub record Puts (old : Option (List ℕ)) (bytes : List ℕ) (new : Option (List ℕ)) : Type 0 where
  pub appended : (now : List ℕ) → new ≡ Some now → option_map (λ before. before ++ bytes) old ≡ Some now

-- a proper prefix of these bytes was appended
pub record PutsPart (old : Option (List ℕ)) (bytes : List ℕ) (new : Option (List ℕ)) : Type 0 where
  pub count : ℕ
  pub short : count < length bytes
  pub front : Puts old (take count bytes) new
