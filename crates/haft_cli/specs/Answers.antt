-- The answer of any row of the table to files with these bytes: the first refusal that holds, or what the row says.
--
-- Choices: the order is the length of the first file, that of the second, the form of the first, that of the second, and then the row's own
-- answer. A file that isn't read is neither too long nor unfit, whatever it holds.
use Rattle.std.specs.Prelude.{ℕ, ◌≡◌, ◌<◌, ◌≤◌, List, Bool, IsTrue, length}
use Rattle.haft_io.specs.declared.device.Which.{Which}
use Rattle.haft_io.specs.declared.device.Which.TheVariants.{First, Second}
use Rattle.haft_io.specs.Device.{of_file}
use Rattle.haft_cli.specs.declared.refusal.Refusal.{Refusal}
use Rattle.haft_cli.specs.declared.refusal.Refusal.TheVariants.{Long}
use Rattle.haft_cli.specs.Table.{Form, Value, is_read, Stands, IsUnfit, Answer, Refused, Row}

-- a file that is read has at most this many bytes
abbrev pub limit : ℕ
limit = 4194304

-- a file is too long, or isn't
abbrev pub IsLong : Form → List ℕ → Type 0
IsLong form text = IsTrue (is_read form) × (limit < length text)

abbrev pub IsWithin : Form → List ℕ → Type 0
IsWithin form text = IsTrue (is_read form) → length text ≤ limit

-- one of the texts is refused for its form, the first before the second
pub data AreUnfit (one two : Form) (first second : List ℕ) (refusal : Refusal) : Type 0 where
  InFirst : IsUnfit one first refusal → AreUnfit one two first second refusal
  InSecond : (value : Value one) → Stands one first value → IsUnfit two second refusal → AreUnfit one two first second refusal

-- what the row answers to texts, whatever their lengths
pub data Works (row : Row) (first second : List ℕ) (answer : Answer) : Type 0 where
  Unfit : (refusal : Refusal) → AreUnfit row.first row.second first second refusal → answer ≡ Refused refusal → Works row first second answer
  Fit : (one : Value row.first) (two : Value row.second) → Stands row.first first one → Stands row.second second two
      → answer ≡ row.answer one two → Works row first second answer

-- what it answers to files
pub data Answers (row : Row) (first second : List ℕ) (answer : Answer) : Type 0 where
  LongFirst : IsLong row.first first → answer ≡ Refused (Long First) → Answers row first second answer
  LongSecond : IsWithin row.first first → IsLong row.second second → answer ≡ Refused (Long Second) → Answers row first second answer
  Within : IsWithin row.first first → IsWithin row.second second → Works row first second answer → Answers row first second answer

-- whether the row reads a file
abbrev pub reads : Row → Which → Bool
reads row which = is_read (of_file row.first row.second which)

-- a file decides the answer where it is read; the second one only where the first isn't too long
abbrev pub Decides : Row → List ℕ → Which → Type 0
Decides row first First = IsTrue (is_read row.first)
Decides row first Second = IsTrue (is_read row.second) × IsWithin row.first first
