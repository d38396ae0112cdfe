-- The lines of refusals.
use Rattle.std.specs.Prelude.{ℕ, ◌++◌, List, [], Option, Some, None, codes}
use Rattle.std.specs.Fmt.{decimal}
use Rattle.haft_io.specs.declared.device.Which.{Which}
use Rattle.haft_io.specs.declared.device.Which.TheVariants.{First, Second}
use Rattle.ir_layout.specs.declared.limits.LimitKind.{LimitKind}
use Rattle.ir_layout.specs.declared.limits.LimitKind.TheVariants.{Globals, TypeSize, TypeDepth, Params, Registers}
use Rattle.ir_check.specs.declared.fault.Kind.{Kind}
use Rattle.ir_check.specs.declared.fault.Kind.TheVariants.{DuplicateName, UnknownName, Limit, BadTerminator, BadCall, TypeMismatch, NoMain, EntryHasPredecessor, PhiMismatch, UseBeforeDef}
use Rattle.haft_cli.specs.declared.refusal.Refusal.{Refusal}
use Rattle.haft_cli.specs.declared.refusal.Refusal.TheVariants.{Long, TextWord, TextByte, Module, Schedule}

-- the word of a file
abbrev pub which_word : Which → List ℕ
which_word First = codes "first"
which_word Second = codes "second"

-- the word of a limit
abbrev pub limit_word : LimitKind → List ℕ
limit_word Globals = codes "Limit.Globals"
limit_word TypeSize = codes "Limit.TypeSize"
limit_word TypeDepth = codes "Limit.TypeDepth"
limit_word Params = codes "Limit.Params"
limit_word Registers = codes "Limit.Registers"

-- the word of a kind of faults
abbrev pub kind_word : Kind → List ℕ
kind_word DuplicateName = codes "DuplicateName"
kind_word UnknownName = codes "UnknownName"
kind_word (Limit limit) = limit_word limit
kind_word BadTerminator = codes "BadTerminator"
kind_word BadCall = codes "BadCall"
kind_word TypeMismatch = codes "TypeMismatch"
kind_word NoMain = codes "NoMain"
kind_word EntryHasPredecessor = codes "EntryHasPredecessor"
kind_word PhiMismatch = codes "PhiMismatch"
kind_word UseBeforeDef = codes "UseBeforeDef"

-- the name that a fault reports, after a blank
abbrev pub name_part : Option (List ℕ) → List ℕ
name_part None = []
name_part (Some name) = codes " " ++ name

-- `refused long`, and which file
abbrev pub long_line : Which → List ℕ
long_line which = codes "refused long " ++ which_word which ++ codes "\n"

-- `refused text`, a line's number, and what is wrong with the line
abbrev pub text_line : ℕ → List ℕ → List ℕ → List ℕ
text_line line before word = codes "refused text " ++ decimal line ++ before ++ word ++ codes "\n"

-- `refused module`, the kind of the fault, its place, and a name where one is reported
abbrev pub module_line : Kind → List ℕ → Option (List ℕ) → List ℕ
module_line kind at name = codes "refused module " ++ kind_word kind ++ codes " " ++ at ++ name_part name ++ codes "\n"

-- the line of a refusal
abbrev pub line_of : Refusal → List ℕ
line_of (Long which) = long_line which
line_of (TextWord line word) = text_line line (codes " ") word
line_of (TextByte line column) = text_line line (codes " byte ") (decimal column)
line_of (Module kind at name) = module_line kind at name
line_of (Schedule line) = codes "refused schedule " ++ decimal line ++ codes "\n"
