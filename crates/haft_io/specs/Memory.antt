-- The devices in memory as contracts see them, and what their calls do.
use Rattle.std.specs.Prelude.{◌+◌, ◌==◌, ℕ, Bool, Option, Some, None, List, ◌++◌, length, drop, nat_le, if◌then◌else◌}
use Rattle.std.specs.List.{list_any}
use Rattle.haft_io.specs.Device.{counted, of_file}
use Rattle.haft_io.specs.declared.device.Which.{Which}
use Rattle.haft_io.specs.declared.device.Which.TheVariants.{First, Second}

-- whether this number is in the list
abbrev pub is_listed : List ℕ → ℕ → Bool
is_listed numbers number = list_any (λ n. n == number) numbers

-- two files whose bytes are in memory: what is left of each
pub record CleanFiles : Type 0 where
  pub first : List ℕ
  pub second : List ℕ

-- the same, where some reads fail
pub record FaultyFiles : Type 0 where
  pub files : CleanFiles
  -- the numbers, from 1, of the reads that fail
  pub fail : List ℕ
  -- the number of the last read; where it stands still it is past any number that `fail`, of u32, can name
  pub reads : ℕ
  pub first_faults : ℕ
  pub second_faults : ℕ

-- what is left of a file
abbrev pub left_in : CleanFiles → Which → List ℕ
left_in files which = of_file files.first files.second which

-- the faults of a file
abbrev pub faults_in : FaultyFiles → Which → ℕ
faults_in inputs which = of_file inputs.first_faults inputs.second_faults which

-- the files once n more bytes of one are read
abbrev pub read_on : CleanFiles → Which → ℕ → CleanFiles
read_on files First n = record files { first = drop n files.first }
read_on files Second n = record files { second = drop n files.second }

-- the faults after a read of this file failed
abbrev pub fault_in : FaultyFiles → Which → FaultyFiles
fault_in inputs First = record inputs { first_faults = counted inputs.first_faults }
fault_in inputs Second = record inputs { second_faults = counted inputs.second_faults }

-- bytes written to memory, where some writes fail
pub record FaultyWritten : Type 0 where
  pub bytes : List ℕ
  -- how many bytes there is room for in all
  pub room : ℕ
  -- how many bytes one write takes at most
  pub step : ℕ
  -- the numbers, from 1, of the writes that fail
  pub fail : List ℕ
  -- the number of the last write
  pub writes : ℕ
  pub faults : ℕ

-- bytes written to memory, told until some don't fit the room
pub record CleanWritten : Type 0 where
  pub told : Option (List ℕ)
  pub room : ℕ
  pub step : ℕ

-- what a sink with this room tells after these bytes are written
abbrev pub told_after : ℕ → Option (List ℕ) → List ℕ → Option (List ℕ)
told_after room None bytes = None
told_after room (Some before) bytes =
    (if nat_le (length before + length bytes) room then Some (before ++ bytes) else None)
