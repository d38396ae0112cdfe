-- How a report is come by, and what is written of it. Private contracts cite this.
use Rattle.std.specs.Prelude.{ℕ, ◌≡◌, ◌≤◌, ◌<◌, ◌⊎◌, List, Option, Some, Result, Ok, Err, IsTrue, length}
use Rattle.std.specs.Option.{ForSome}
use Rattle.std.specs.declared.alloc.Global.{Global}
use Rattle.std.specs.declared.vec.Vec.{Vec}
use Rattle.haft_io.specs.declared.device.Which.{Which}
use Rattle.haft_io.specs.declared.device.Which.TheVariants.{First}
use Rattle.haft_io.specs.Device.{Rose, Puts, PutsPart, emptied}
use Rattle.ir_parse_top.specs.declared.errors.ParseError.{ParseError}
use Rattle.ir_parse_top.specs.declared.errors.ParseError.TheVariants as parse
use Rattle.ir_check.specs.declared.fault.CheckError.{CheckError}
use Rattle.ir_check.specs.declared.fault.CheckError.TheVariants as check
use Rattle.sched_file.specs.declared.parsing.SchedError.{SchedError}
use Rattle.sched_file.specs.declared.parsing.SchedError.TheVariants as schedule
use Rattle.haft_cli.specs.declared.refusal.Refusal.{Refusal}
use Rattle.haft_cli.specs.declared.refusal.Refusal.TheVariants.{Long, TextWord, TextByte, Module, Schedule}
use Rattle.haft_cli.specs.declared.refusal.Stopped.{Stopped}
use Rattle.haft_cli.specs.declared.refusal.Stopped.TheVariants as stopped
use Rattle.haft_cli.specs.declared.top.Status.{Status}
use Rattle.haft_cli.specs.declared.top.Status.TheVariants as status
use Rattle.haft_cli.specs.Refusals.{line_of}
use Rattle.haft_cli.specs.Table.{Refused, Row}
use Rattle.haft_cli.specs.Answers.{Decides, reads, limit}
use Rattle.haft_cli.specs.Outcome.{Files, Holds, Outcome}

-- a reason that comes from the texts of the files: a refusal of which this holds, or that memory ran out
abbrev pub Refuses : (Refusal → Type 0) → Stopped → Type 0
Refuses P (stopped.Refused refusal) = P refusal
Refuses P stopped.ReadFault = ⊥
Refuses P stopped.NoMemory = Unit {0}

-- ---- one file

-- the bytes were taken from a file: all of one that is read, which isn't too long
pub record TakesFile (row : Row) (which : Which) (old new : Files) (bytes : List ℕ) : Type 0 where
  pub held : IsTrue (reads row which) → Holds (old.left which) bytes
  pub within : length bytes ≤ limit
  pub ended : IsTrue (reads row which) → new.left which ≡ emptied (old.left which)

-- why none were
abbrev pub StopsAt : Row → Which → Files → Files → Stopped → Type 0
StopsAt row which old new (stopped.Refused refusal) =
    IsTrue (reads row which) × (refusal ≡ Long which) × ForSome (old.left which) (λ rest. limit < length rest)
StopsAt row which old new stopped.ReadFault = IsTrue (reads row which) × Rose (old.faults which) (new.faults which)
StopsAt row which old new stopped.NoMemory = Unit {0}

-- ---- a row of the table

-- a read failed of a file that decides the answer, where what the first one held is known
pub record FailsAt (row : Row) (old new : Files) : Type 0 where
  pub which : Which
  pub is_read : IsTrue (reads row which)
  pub rose : Rose (old.faults which) (new.faults which)
  pub decides : (first : List ℕ) → (IsTrue (reads row First) → old.left First ≡ Some first) → Decides row first which

-- why there is no report
abbrev pub Stops : Row → Files → Files → Stopped → Type 0
Stops row old new (stopped.Refused refusal) = Outcome row old new (Refused refusal)
Stops row old new stopped.ReadFault = FailsAt row old new
Stops row old new stopped.NoMemory = Unit {0}

-- ---- what is written

-- these bytes were written, or a proper prefix of them
abbrev pub WritesOrFails : List ℕ → Status → Status → Option (List ℕ) → Option (List ℕ) → Type 0 → Type 0
WritesOrFails bytes wanted answer before after rose =
    ((answer ≡ wanted) × Puts before bytes after) ⊎ ((answer ≡ status.WriteFault) × rose × PutsPart before bytes after)

-- what is written of a report, or of the reason why there is none
abbrev pub Tells : Result (Vec ℕ Global) Stopped → Status → Option (List ℕ) → Option (List ℕ) → Type 0 → Type 0
Tells (Ok text) answer before after rose = WritesOrFails text.items status.Done answer before after rose
Tells (Err (stopped.Refused refusal)) answer before after rose =
    WritesOrFails (line_of refusal) status.Refused answer before after rose ⊎ (answer ≡ status.NoMemory)
Tells (Err stopped.ReadFault) answer before after rose = answer ≡ status.ReadFault
Tells (Err stopped.NoMemory) answer before after rose = answer ≡ status.NoMemory

-- ---- errors of the readers

-- an error in reading a module, in checking it or in reading a schedule, as a reason why there is no report
abbrev pub of_parse : ParseError → Stopped
of_parse (parse.Refused line word) = stopped.Refused (TextWord line word)
of_parse (parse.BadByte line column) = stopped.Refused (TextByte line column)
of_parse parse.NoMemory = stopped.NoMemory

abbrev pub of_check : CheckError → Stopped
of_check (check.Fault kind at name) = stopped.Refused (Module kind at name)
of_check check.NoMemory = stopped.NoMemory

abbrev pub of_schedule : SchedError → Stopped
of_schedule (schedule.Refused line) = stopped.Refused (Schedule line)
of_schedule schedule.NoMemory = stopped.NoMemory
