-- What is told of a module that isn't accepted, and which modules are accepted (LLVM Language Reference, 'Well-Formedness',
-- 'Module Structure'; the limits and the externals are the tool's own).
--
-- Choices: the fault is of the first kind, in the order of `Kind`, of which there is one, and of that kind at the first place. At one
-- place a limit is the first in the order of `LimitKind`, and a name the first that is written.
use Rattle.std.specs.Prelude.{ℕ, ◌≡◌, Bool, List, Option, Some, None, if◌then◌else◌}
use Rattle.std.specs.Option.{option_map, option_or}
use Rattle.ir_core.specs.declared.types.Loc.{Loc}
use Rattle.ir_core.specs.Module.{ModuleParts}
use Rattle.ir_flow.specs.Uses.{AllAssigned}
use Rattle.ir_layout.specs.declared.limits.LimitKind.{LimitKind}
use Rattle.ir_lines.specs.Lines.{Line, first_break, lines_of}
use Rattle.ir_lines.specs.declared.site.Site.{Site}
use Rattle.ir_lines.specs.declared.site.Site.TheVariants.{Inst, Module}
use Rattle.ir_lines.specs.declared.site.Named.{Named}
use Rattle.ir_lines.specs.declared.site.Named.TheVariants as names
use Rattle.ir_names.specs.Names.{duplicate, unknown}
use Rattle.ir_calls.specs.Calls.{calls_keep}
use Rattle.ir_types.specs.Types.{types_keep}
use Rattle.ir_check.specs.Places.{site_text, named_text}
use Rattle.ir_check.specs.CodeLimits.{broken_limit}
use Rattle.ir_check.specs.Blocks.{terminators_keep, entries_keep}
use Rattle.ir_check.specs.Functions.{has_main}
use Rattle.ir_check.specs.Flows.{OfAll, PhisFit, UnfitPhi, UnassignedUse}
use Rattle.ir_check.specs.declared.fault.Kind.{Kind}
use Rattle.ir_check.specs.declared.fault.Kind.TheVariants.{DuplicateName, UnknownName, Limit, BadTerminator, BadCall, TypeMismatch, NoMain, EntryHasPredecessor, PhiMismatch, UseBeforeDef}
use Rattle.ir_check.specs.declared.fault.CheckError.{CheckError}
use Rattle.ir_check.specs.declared.fault.CheckError.TheVariants as errors

pub record Fault : Type 0 where
  pub kind : Kind
  pub at : List ℕ
  pub name : Option (List ℕ)

-- ---- what each kind tells of a module

abbrev pub fault_at : ModuleParts → Kind → Site → Fault
fault_at m kind site = record { kind = kind; at = site_text m site; name = None }

abbrev pub fault_with : ModuleParts → Kind → Site × Named → Fault
fault_with m kind told = record { kind = kind; at = site_text m told.0; name = Some (named_text m told.1) }

-- of the first line that breaks a rule
abbrev pub rule_fault : ModuleParts → Kind → (Line → Bool) → Option Fault
rule_fault m kind keeps = option_map (fault_at m kind) (first_break keeps (lines_of m))

abbrev pub duplicate_fault : ModuleParts → Option Fault
duplicate_fault m = option_map (fault_with m DuplicateName) (duplicate m)

abbrev pub unknown_fault : ModuleParts → Option Fault
unknown_fault m = option_map (fault_with m UnknownName) (unknown m)

abbrev pub limit_told : LimitKind × List ℕ → Fault
limit_told limit = record { kind = Limit limit.0; at = limit.1; name = None }

abbrev pub limit_fault : ModuleParts → Option Fault
limit_fault m = option_map limit_told (broken_limit m)

abbrev pub main_fault : ModuleParts → Option Fault
main_fault m = if has_main m then None else Some (fault_at m NoMain Module)

-- the kinds that look at one line after another, in their order
abbrev pub shape_fault : ModuleParts → Option Fault
shape_fault m = option_or (main_fault m) (rule_fault m EntryHasPredecessor entries_keep)

abbrev pub code_fault : ModuleParts → Option Fault
code_fault m =
    option_or (rule_fault m BadTerminator terminators_keep)
    (option_or (rule_fault m BadCall (calls_keep m))
    (option_or (rule_fault m TypeMismatch (types_keep m))
    (shape_fault m)))

abbrev pub line_fault : ModuleParts → Option Fault
line_fault m = option_or (duplicate_fault m) (option_or (unknown_fault m) (option_or (limit_fault m) (code_fault m)))

-- ---- faults and acceptance

-- the fault of a module: of one of these kinds, else of its phis, else of its uses
pub data IsFault (m : ModuleParts) (fault : Fault) : Type 0 where
  OfLines : line_fault m ≡ Some fault → IsFault m fault
  OfPhis : line_fault m ≡ None → (n block inst : ℕ) → UnfitPhi m.funcs n block inst → fault ≡ fault_at m PhiMismatch (Inst n block inst) → IsFault m fault
  OfUses : line_fault m ≡ None → OfAll PhisFit m.funcs → (n block inst : ℕ) (reg : Loc) → UnassignedUse m.funcs n block inst reg → fault ≡ fault_with m UseBeforeDef (Inst n block inst, names.Loc n reg) → IsFault m fault

-- no kind of fault is found
pub record IsAccepted (m : ModuleParts) : Type 0 where
  pub lines : line_fault m ≡ None
  pub phis : OfAll PhisFit m.funcs
  pub uses : OfAll AllAssigned m.funcs

-- ---- errors

-- an error says what is told; want of memory says nothing
abbrev pub Tells : Option Fault → CheckError → Type 0
Tells told (errors.Fault kind at name) = told ≡ Some (record { kind = kind; at = at; name = name })
Tells told errors.NoMemory = Unit {0}

abbrev pub Refuses : ModuleParts → CheckError → Type 0
Refuses m (errors.Fault kind at name) = IsFault m (record { kind = kind; at = at; name = name })
Refuses m errors.NoMemory = Unit {0}

-- of phis and uses alone
pub data IsFlowFault (m : ModuleParts) (fault : Fault) : Type 0 where
  OfPhi : (n block inst : ℕ) → UnfitPhi m.funcs n block inst → fault ≡ fault_at m PhiMismatch (Inst n block inst) → IsFlowFault m fault
  OfUse : OfAll PhisFit m.funcs → (n block inst : ℕ) (reg : Loc) → UnassignedUse m.funcs n block inst reg → fault ≡ fault_with m UseBeforeDef (Inst n block inst, names.Loc n reg) → IsFlowFault m fault

abbrev pub TellsFlow : ModuleParts → CheckError → Type 0
TellsFlow m (errors.Fault kind at name) = IsFlowFault m (record { kind = kind; at = at; name = name })
TellsFlow m errors.NoMemory = Unit {0}
