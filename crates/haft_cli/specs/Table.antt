-- The table of commands: for each, in which form it reads its files, and its answer.
--
-- Choices: a row is a function of what stands in the files. When files are refused before that, and in which order, is said once for all
-- rows (`Answers`). A command that reads no file, or another kind of text, takes a form for it.
use Rattle.std.specs.Prelude.{ℕ, ◌≡◌, ◌++◌, List, Bool, true, false, map, codes, length}
use Rattle.std.specs.List.{sum}
use Rattle.std.specs.Fmt.{decimal}
use Rattle.ir_core.specs.Module.{ModuleParts, FuncParts}
use Rattle.ir_parse_top.specs.Text.{Text, Unfit, BadWord, BadByte, Fault as LineFault}
use Rattle.ir_check.specs.Faults.{Fault, IsFault, IsAccepted}
use Rattle.sched_file.specs.Schedule.{ScheduleParts, IsSchedule, UnfitLine}
use Rattle.sched_file.specs.Events.{events_of}
use Rattle.hard_ir.specs.Hardened.{harden}
use Rattle.hard_meaning.specs.Runs.{RunParts, run_on}
use Rattle.haft_run.specs.Report.{report_of}
use Rattle.haft_run.specs.SourceReport.{src_report_of}
use Rattle.race_watch.specs.Watching.{watch_of}
use Rattle.haft_cli.specs.declared.command.Command.{Command}
use Rattle.haft_cli.specs.declared.command.Command.TheVariants.{Check, Run, Src}
use Rattle.haft_cli.specs.declared.refusal.Refusal.{Refusal}
use Rattle.haft_cli.specs.declared.refusal.Refusal.TheVariants.{TextWord, TextByte, Module, Schedule}

-- ---- forms of files

-- how a command reads a file: not at all, as the text of a module, or as a schedule
pub data Form : Type 0 where
  Unread : Form
  ModuleText : Form
  ScheduleText : Form

-- what stands in a file of a form
abbrev pub Value : Form → Type 0
Value Unread = Unit {0}
Value ModuleText = ModuleParts
Value ScheduleText = ScheduleParts

-- whether the file is read
abbrev pub is_read : Form → Bool
is_read Unread = false
is_read ModuleText = true
is_read ScheduleText = true

-- the text stands for an accepted module
pub record Checks (text : List ℕ) (m : ModuleParts) : Type 0 where
  pub module_read : Text text m
  pub accepted : IsAccepted m

-- the refusal of a line that fits no form
abbrev pub line_refusal : ℕ → LineFault → Refusal
line_refusal line (BadWord word) = TextWord line word
line_refusal line (BadByte column) = TextByte line column

-- a text of a module is refused: for its first line that fits no form, or for the fault of its module
pub data IsNoModule (text : List ℕ) (refusal : Refusal) : Type 0 where
  ForLine : (line : ℕ) (fault : LineFault) → Unfit text line fault → refusal ≡ line_refusal line fault → IsNoModule text refusal
  ForModule : (m : ModuleParts) (fault : Fault) → Text text m → IsFault m fault
      → refusal ≡ Module fault.kind fault.at fault.name → IsNoModule text refusal

-- a text is refused as a schedule: for its first unfit line
pub data IsNoSchedule (text : List ℕ) (refusal : Refusal) : Type 0 where
  ForEntry : (line : ℕ) → UnfitLine text line → refusal ≡ Schedule line → IsNoSchedule text refusal

-- the text has the form, and stands for the value
abbrev pub Stands : (form : Form) → List ℕ → Value form → Type 0
Stands Unread text value = Unit {0}
Stands ModuleText text m = Checks text m
Stands ScheduleText text s = IsSchedule text s.args s.lines

-- the text doesn't have the form, and is refused for it
abbrev pub IsUnfit : Form → List ℕ → Refusal → Type 0
IsUnfit Unread text refusal = ⊥
IsUnfit ModuleText text refusal = IsNoModule text refusal
IsUnfit ScheduleText text refusal = IsNoSchedule text refusal

-- ---- reports

-- how many blocks a module has, and how many instructions, phis counted
abbrev pub block_count : ModuleParts → ℕ
block_count m = sum (map (λ f. length f.blocks) m.funcs)

abbrev pub insts_in : FuncParts → ℕ
insts_in f = sum (map (λ block. length block.insts) f.blocks)

abbrev pub inst_count : ModuleParts → ℕ
inst_count m = sum (map insts_in m.funcs)

-- `accepted`, and the counts of functions, blocks and instructions
abbrev pub check_report : ModuleParts → List ℕ
check_report m = codes "accepted " ++ decimal (length m.funcs) ++ codes " " ++ decimal (block_count m) ++ codes " " ++ decimal (inst_count m) ++ codes "\n"

-- the run of a module, hardened, on a schedule, and its report
abbrev pub result_on : ModuleParts → ScheduleParts → RunParts
result_on m s = run_on (harden m) s.args (events_of s.lines)

abbrev pub run_report : ModuleParts → ScheduleParts → List ℕ
run_report m s = report_of (result_on m s)

-- the report of a module's watch on a schedule
abbrev pub watch_report : ModuleParts → ScheduleParts → List ℕ
watch_report m s = src_report_of (watch_of m s)

-- ---- the table

-- what a command answers: its report, or a refusal
pub data Answer : Type 0 where
  Report : List ℕ → Answer
  Refused : Refusal → Answer

-- a row of the table: the form of each file, and the answer to what stands in them
pub record Row : Type 0 where
  pub first : Form
  pub second : Form
  pub answer : Value first → Value second → Answer

abbrev pub row_of : Command → Row
row_of Check = record { first = ModuleText; second = Unread; answer = λ m _. Report (check_report m) }
row_of Run = record { first = ModuleText; second = ScheduleText; answer = λ m s. Report (run_report m s) }
row_of Src = record { first = ModuleText; second = ScheduleText; answer = λ m s. Report (watch_report m s) }
