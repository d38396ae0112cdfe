-- The schedule that a text stands for, or its first unfit line.
use Rattle.std.specs.Prelude.{ℕ, ◌≡◌, ◌+◌, ◌^◌, ◌≤◌, List, [], ◌∷◌, ◌++◌, length, codes}
use Rattle.ir_core.specs.Lines.{lines_of}
use Rattle.sched_file.specs.declared.entries.Line.{Line}
use Rattle.sched_file.specs.Fields.{rows_of}
use Rattle.sched_file.specs.Entries.{IsNumber, IsEntry}
use Rattle.sched_file.specs.Events.{events_of}

-- what contracts see of a schedule: its arguments, and an entry for each line that isn't passed over and gives no arguments
pub record ScheduleParts : Type 0 where
  pub args : List ℕ
  pub lines : List Line

-- the relation holds between the items of two lists, place by place
abbrev pub Pairwise : {A B : Type 0} → (A → B → Type 0) → List A → List B → Type 0
Pairwise R [] [] = Unit {0}
Pairwise R [] (y ∷ ys) = ⊥
Pairwise R (x ∷ xs) [] = ⊥
Pairwise R (x ∷ xs) (y ∷ ys) = R x y × Pairwise R xs ys

-- `args` and from 0 to 64 numbers
pub record AreArgs (fields : List (List ℕ)) (args : List ℕ) : Type 0 where
  pub numbers : List (List ℕ)
  pub whole : fields ≡ codes "args" ∷ numbers
  pub values : Pairwise (IsNumber (2 ^ 64)) numbers args
  pub few : length args ≤ 64

-- What the fields of the lines that aren't passed over say: all are entries, or the first gives the arguments and the others are entries.
pub data Means (rows : List (List (List ℕ))) (args : List ℕ) (lines : List Line) : Type 0 where
  Without : args ≡ [] → Pairwise IsEntry rows lines → Means rows args lines
  With : (first : List (List ℕ)) (others : List (List (List ℕ))) → rows ≡ first ∷ others → AreArgs first args → Pairwise IsEntry others lines → Means rows args lines

-- The lines of a text are a schedule with these arguments and entries, of at most 4,194,304 events.
pub record AreSchedule (text : List (List ℕ)) (args : List ℕ) (lines : List Line) : Type 0 where
  pub means : Means (rows_of text) args lines
  pub few : length (events_of lines) ≤ 4194304

-- the text is a schedule with these arguments and entries
abbrev pub IsSchedule : List ℕ → List ℕ → List Line → Type 0
IsSchedule bytes args lines = AreSchedule (lines_of bytes) args lines

-- The line with this number, from 1 on, is the first unfit line of the text: the lines before it are a schedule, and with it they are none.
pub record UnfitLine (bytes : List ℕ) (number : ℕ) : Type 0 where
  pub earlier : List (List ℕ)
  pub line : List ℕ
  pub later : List (List ℕ)
  pub parts : lines_of bytes ≡ earlier ++ line ∷ later
  pub place : number ≡ length earlier + 1
  pub args : List ℕ
  pub lines : List Line
  pub before : AreSchedule earlier args lines
  pub unfit : (args : List ℕ) (lines : List Line) → AreSchedule (earlier ++ line ∷ []) args lines → ⊥

-- a text is a schedule, or has a first unfit line
pub data Verdict (bytes : List ℕ) : Type 0 where
  Fits : (args : List ℕ) (lines : List Line) → IsSchedule bytes args lines → Verdict bytes
  Refused : (number : ℕ) → UnfitLine bytes number → Verdict bytes
