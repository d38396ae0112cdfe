-- How a call for a row of the table ends: what became of the files, and what was written.
use Rattle.std.specs.Prelude.{ℕ, ◌≡◌, ◌≤◌, List, Option, Some, IsTrue, length}
use Rattle.std.specs.Option.{ForSome}
use Rattle.haft_io.specs.declared.device.Which.{Which}
use Rattle.haft_io.specs.declared.device.Which.TheVariants.{First, Second}
use Rattle.haft_io.specs.Device.{Rose, Puts, PutsPart, emptied, of_file}
use Rattle.ir_core.specs.Module.{ModuleParts}
use Rattle.sched_file.specs.Schedule.{ScheduleParts, IsSchedule}
use Rattle.haft_cli.specs.declared.command.Command.{Command}
use Rattle.haft_cli.specs.declared.command.Command.TheVariants.{Run}
use Rattle.haft_cli.specs.declared.refusal.Refusal.{Refusal}
use Rattle.haft_cli.specs.declared.top.Status.{Status}
use Rattle.haft_cli.specs.declared.top.Status.TheVariants as status
use Rattle.haft_cli.specs.Refusals.{line_of}
use Rattle.haft_cli.specs.Table.{Checks, Answer, Report, Refused, Row}
use Rattle.haft_cli.specs.Answers.{Answers, Decides, reads, limit}

-- what the inputs show of the files: the bytes that are left of each, where they are known, and how many of its reads have failed
pub record Files : Type 0 where
  pub left : Which → Option (List ℕ)
  pub faults : Which → ℕ

abbrev pub files : (Which → Option (List ℕ)) → (Which → ℕ) → Files
files left faults = record { left = left; faults = faults }

-- a file is as it was
pub record IsKept (which : Which) (old new : Files) : Type 0 where
  pub left : new.left which ≡ old.left which
  pub faults : new.faults which ≡ old.faults which

-- the files that the row doesn't read are as they were
abbrev pub KeepsUnread : Row → Files → Files → Type 0
KeepsUnread row old new = (which : Which) → (IsTrue (reads row which) → ⊥) → IsKept which old new

-- the bytes are what is left of a file, where that is known
abbrev pub Holds : Option (List ℕ) → List ℕ → Type 0
Holds left bytes = ForSome left (λ rest. bytes ≡ rest)

-- the outcome of a call: for files that held these bytes this is the answer; a file that decides it was read to its end, unless it is too
-- long, and one that doesn't is as it was
pub record Outcome (row : Row) (old new : Files) (answer : Answer) : Type 0 where
  pub first : List ℕ
  pub second : List ℕ
  pub held : (which : Which) → IsTrue (reads row which) → Holds (old.left which) (of_file first second which)
  pub answers : Answers row first second answer
  pub ended : (which : Which) → Decides row first which → length (of_file first second which) ≤ limit → new.left which ≡ emptied (old.left which)
  pub kept : (which : Which) → (Decides row first which → ⊥) → IsKept which old new

-- the bytes of an answer, and its status once they are written
abbrev pub bytes_of : Answer → List ℕ
bytes_of (Report text) = text
bytes_of (Refused refusal) = line_of refusal

abbrev pub status_of : Answer → Status
status_of (Report text) = status.Done
status_of (Refused refusal) = status.Refused

-- the answer was written whole, or a proper prefix of it
pub record WritesAnswer (row : Row) (old new : Files) (answer : Answer) (before after : Option (List ℕ)) : Type 0 where
  pub outcome : Outcome row old new answer
  pub written : Puts before (bytes_of answer) after

pub record WritesPart (row : Row) (old new : Files) (before after : Option (List ℕ)) : Type 0 where
  pub answer : Answer
  pub outcome : Outcome row old new answer
  pub written : PutsPart before (bytes_of answer) after

-- what each status says of the answer
abbrev pub Ends : Row → Files → Files → Status → Option (List ℕ) → Option (List ℕ) → Type 0
Ends row old new status.Done before after = (text : List ℕ) × WritesAnswer row old new (Report text) before after
Ends row old new status.Refused before after = (refusal : Refusal) × WritesAnswer row old new (Refused refusal) before after
Ends row old new status.WriteFault before after = WritesPart row old new before after
Ends row old new status.Usage before after = ⊥
Ends row old new status.ReadFault before after = Unit {0}
Ends row old new status.NoMemory before after = Unit {0}

-- statuses with which nothing is written
abbrev pub IsQuiet : Status → Type 0
IsQuiet status.Usage = Unit {0}
IsQuiet status.ReadFault = Unit {0}
IsQuiet status.NoMemory = Unit {0}
IsQuiet status.Done = ⊥
IsQuiet status.Refused = ⊥
IsQuiet status.WriteFault = ⊥

-- a read of a file failed that the row reads
pub record FailsToRead (row : Row) (old new : Which → ℕ) : Type 0 where
  pub which : Which
  pub is_read : IsTrue (reads row which)
  pub rose : Rose (old which) (new which)

-- ---- calls whose files are known

-- the files that decide the answer hold these bytes
abbrev pub AreKnown : Row → (Which → Option (List ℕ)) → List ℕ → List ℕ → Type 0
AreKnown row left first second = (which : Which) → Decides row first which → left which ≡ Some (of_file first second which)

-- no read of them failed
abbrev pub AreCalm : Row → List ℕ → (Which → ℕ) → (Which → ℕ) → Type 0
AreCalm row first old new = (which : Which) → Decides row first which → Rose (old which) (new which) → ⊥

-- the words ask for a run, the first file holds the text of an accepted module, and the second a schedule
pub record AsksRun (asked : Option Command) (left : Which → Option (List ℕ)) (m : ModuleParts) (s : ScheduleParts) : Type 0 where
  pub command : asked ≡ Some Run
  pub first : List ℕ
  pub second : List ℕ
  pub first_known : left First ≡ Some first
  pub second_known : left Second ≡ Some second
  pub checks : Checks first m
  pub schedule_read : IsSchedule second s.args s.lines
