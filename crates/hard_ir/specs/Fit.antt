-- When a hardened module fits: what is asked of an accepted module holds of it, with the master and the shadow of a register as two
-- registers of one name and of one type (LLVM Language Reference, 'Well-Formedness', 'Module Structure', 'Instruction Reference').
-- That a register is assigned before it is read isn't asked.
--
-- Choices: parameters are masters. A register is known where its own side defines it; a label shares its name with both sides. The type
-- of a name is that of its first definition, on either side. What a `cmpxchg` on T gives has the type `{ T, i1 }`, which keeps
-- its limits where T does. To the rules for ordinary lines, a line that does no instruction of the source is a `fence`.
use Rattle.std.specs.Prelude.{ℕ, ◌+◌, ◌≡◌, Bool, true, false, not, ◌&&◌, ◌||◌, List, [], ◌∷◌, ◌++◌, map, length, nat_eq, Option, Some, None, is_none, if◌then◌else◌}
use Rattle.std.specs.List.{flat_map, filter_map, list_all, list_any, cons_option, zip}
use Rattle.std.specs.Option.{option_map, option_map_or}
use Rattle.ir_core.specs.declared.types.Ty.{Ty}
use Rattle.ir_core.specs.declared.types.Ty.TheOpen.{Ty-F}
use Rattle.ir_core.specs.declared.types.Ty.TheVariants as types
use Rattle.ir_core.specs.declared.types.Ty.TheViews.{out-Ty}
use Rattle.ir_core.specs.declared.types.TypeId.{TypeId}
use Rattle.ir_core.specs.declared.types.Loc.{Loc}
use Rattle.ir_core.specs.declared.types.Width.TheVariants.{W1}
use Rattle.ir_core.specs.declared.values.Val.{Val}
use Rattle.ir_core.specs.declared.values.Val.TheVariants as values
use Rattle.ir_core.specs.declared.values.Side.{Side}
use Rattle.ir_core.specs.declared.values.Side.TheVariants.{M, S}
use Rattle.ir_core.specs.declared.instruction.Inst.{Inst}
use Rattle.ir_core.specs.declared.instruction.Inst.TheVariants as insts
use Rattle.ir_core.specs.declared.instruction.Block.{Block}
use Rattle.ir_core.specs.Module.{ModuleParts, FuncParts}
use Rattle.ir_layout.specs.Limits.{limit_among, first_limit}
use Rattle.ir_layout.specs.WrittenTypes.{types_in_val}
use Rattle.ir_layout.specs.declared.limits.LimitKind.{LimitKind}
use Rattle.ir_numbering.specs.Places.{places_of_ty, places_of_val, places_of_inst}
use Rattle.ir_core.specs.Instructions.{result_of}
use Rattle.ir_numbering.specs.declared.places.Place.{Place}
use Rattle.ir_numbering.specs.declared.places.Place.TheVariants.{Local}
use Rattle.ir_lines.specs.Lines.{Line, TypeLine, GlobalLine, DeclareLine, HeadLine, BlockLine, InstLine}
use Rattle.ir_lines.specs.SameTypes.{same_ty}
use Rattle.ir_lines.specs.declared.site.Named.{Named}
use Rattle.ir_lines.specs.declared.site.Named.TheVariants as names
use Rattle.ir_names.specs.Names.{same_name, defined_in, mentions_in, name_at}
use Rattle.ir_calls.specs.Calls.{calls_keep, are_plain}
use Rattle.ir_types.specs.Firsts.{first_of}
use Rattle.ir_types.specs.Meanings.{Meaning, Label, Register, Pair, param_meaning, result_of as meaning_of_result}
use Rattle.ir_types.specs.Types.{types_keep, inst_fits, operand_fits, is_register_of, is_pair_of}
use Rattle.ir_check.specs.Blocks.{terminators_keep, entries_keep}
use Rattle.ir_core.specs.Instructions.{is_phi}
use Rattle.ir_check.specs.CodeLimits.{limit_in}
use Rattle.ir_check.specs.Flows.{OfAll, PhisFit}
use Rattle.ir_check.specs.Functions.{has_main}
use Rattle.hard_ir.specs.declared.instruction.HVal.{HVal}
use Rattle.hard_ir.specs.declared.instruction.HVal.TheVariants as operands
use Rattle.hard_ir.specs.declared.instruction.HInst.{HInst}
use Rattle.hard_ir.specs.declared.instruction.HInst.TheVariants.{Chk, ChkMem, Mov, Do}
use Rattle.hard_ir.specs.declared.instruction.HBlock.{HBlock}
use Rattle.hard_ir.specs.Hardened.{HardParts}
use Rattle.hard_ir.specs.Image.{pair_of}

-- ---- lines in order

-- a function's head and its blocks
abbrev pub HardFunc : Type 0
HardFunc = FuncParts × List HBlock

abbrev pub hard_funcs : HardParts → List HardFunc
hard_funcs h = zip h.heads.funcs h.funcs

-- A type, a global, a declare or a function's head; a block, one of its phis, and another of its instructions. The latter know their
-- function and its number, the block's number and their own, phis counted.
pub data HardLine : Type 0 where
  OuterLine : Line → HardLine
  HBlockLine : ℕ → HardFunc → ℕ → HBlock → HardLine
  HPhiLine : ℕ → HardFunc → ℕ → ℕ → Side × Inst → HardLine
  HInstLine : ℕ → HardFunc → ℕ → ℕ → HInst → HardLine

abbrev pub phi_lines : ℕ → HardFunc → ℕ → ℕ → List (Side × Inst) → List HardLine
phi_lines n f b i [] = []
phi_lines n f b i (phi ∷ phis) = HPhiLine n f b i phi ∷ phi_lines n f b (i + 1) phis

abbrev pub inst_lines : ℕ → HardFunc → ℕ → ℕ → List HInst → List HardLine
inst_lines n f b i [] = []
inst_lines n f b i (inst ∷ list) = HInstLine n f b i inst ∷ inst_lines n f b (i + 1) list

abbrev pub block_lines : ℕ → HardFunc → ℕ → HBlock → List HardLine
block_lines n f b block = HBlockLine n f b block ∷ phi_lines n f b 0 block.phis ++ inst_lines n f b (length block.phis) block.list

abbrev pub blocks_lines : ℕ → HardFunc → ℕ → List HBlock → List HardLine
blocks_lines n f b [] = []
blocks_lines n f b (block ∷ blocks) = block_lines n f b block ++ blocks_lines n f (b + 1) blocks

abbrev pub funcs_lines : ℕ → List HardFunc → List HardLine
funcs_lines n [] = []
funcs_lines n (f ∷ funcs) = OuterLine (HeadLine n f.0) ∷ blocks_lines n f 0 f.1 ++ funcs_lines (n + 1) funcs

abbrev pub outer_lines : ModuleParts → List Line
outer_lines m = map TypeLine m.types ++ map GlobalLine m.globals ++ map DeclareLine m.declares

abbrev pub hard_lines : HardParts → List HardLine
hard_lines h = map OuterLine (outer_lines h.heads) ++ funcs_lines 0 (hard_funcs h)

-- ---- as ordinary lines

-- the instruction of the source that is done, and else a `fence`
abbrev pub plain_inst : HInst → Inst
plain_inst (Do side inst retires) = inst
plain_inst inst = insts.Fence

abbrev pub plain_block : HBlock → Block
plain_block block = record { label = block.label; insts = map (λ phi. phi.1) block.phis ++ map plain_inst block.list }

abbrev pub plain_func : HardFunc → FuncParts
plain_func f = record f.0 { blocks = map plain_block f.1 }

abbrev pub plain_line : HardLine → Line
plain_line (OuterLine line) = line
plain_line (HBlockLine n f b block) = BlockLine n (plain_func f) b (plain_block block)
plain_line (HPhiLine n f b i phi) = InstLine n (plain_func f) b i phi.1
plain_line (HInstLine n f b i inst) = InstLine n (plain_func f) b i (plain_inst inst)

-- ---- names

-- a name, and of a register its side
abbrev pub SidedName : Type 0
SidedName = Option Side × Named

abbrev pub same_side : Side → Side → Bool
same_side M M = true
same_side S S = true
same_side a b = false

-- not on two sides
abbrev pub on_one_side : Option Side → Option Side → Bool
on_one_side (Some a) (Some b) = same_side a b
on_one_side a b = true

-- the names are the same: only the two registers of a name are apart
abbrev pub same_sided : SidedName → SidedName → Bool
same_sided a b = on_one_side a.0 b.0 && same_name a.1 b.1

abbrev pub label : ℕ → Loc → SidedName
label n at = (None, names.Loc n at)

abbrev pub register : ℕ → Side → Loc → SidedName
register n side at = (Some side, names.Loc n at)

-- of a line outside blocks: its `%` names are parameters
abbrev pub outer : Named → SidedName
outer (names.Loc n at) = register n M at
outer name = (None, name)

-- of a tree without labels, on a side
abbrev pub sided : ℕ → Side → Place → SidedName
sided n side (Local at) = register n side at
sided n side place = (None, name_at n place)

abbrev pub all_sided : ℕ → Side → List Place → List SidedName
all_sided n side places = map (sided n side) places

-- the result of an instruction on a side
abbrev pub result_on : ℕ → Side → Inst → List SidedName
result_on n side inst = cons_option (option_map (register n side) (result_of inst)) []

abbrev pub defined_by : ℕ → HInst → List SidedName
defined_by n (Do side inst retires) = result_on n side inst
defined_by n (Mov ty reg) = register n S reg ∷ []
defined_by n inst = []

-- the names that a line defines, in order
abbrev pub hard_defined_in : HardLine → List SidedName
hard_defined_in (OuterLine line) = map outer (defined_in line)
hard_defined_in (HBlockLine n f b block) = label n block.label ∷ []
hard_defined_in (HPhiLine n f b i phi) = result_on n phi.0 phi.1
hard_defined_in (HInstLine n f b i inst) = defined_by n inst

abbrev pub named_line : HardLine → SidedName → HardLine × SidedName
named_line line name = (line, name)

abbrev pub hard_definitions : HardParts → List (HardLine × SidedName)
hard_definitions h = flat_map (λ line. map (named_line line) (hard_defined_in line)) (hard_lines h)

-- the first definition of a name that was defined before, where it stands
abbrev pub hard_again : List SidedName → List (HardLine × SidedName) → Option (HardLine × SidedName)
hard_again before [] = None
hard_again before (d ∷ defs) = if list_any (same_sided d.1) before then Some d else hard_again (before ++ d.1 ∷ []) defs

abbrev pub hard_duplicate : HardParts → Option (HardLine × SidedName)
hard_duplicate h = hard_again [] (hard_definitions h)

-- the value of a phi's arm on a side, and the arm's label
abbrev pub names_in_arm : ℕ → Side → Val × Loc → List SidedName
names_in_arm n side arm = all_sided n side (places_of_val arm.0) ++ label n arm.1 ∷ []

-- the names that an instruction on a side mentions, as it writes them
abbrev pub mentions_on : ℕ → Side → Inst → List SidedName
mentions_on n side (insts.Phi dst ty arms) = register n side dst ∷ all_sided n side (places_of_ty ty) ++ flat_map (names_in_arm n side) arms
mentions_on n side (insts.Br to) = label n to ∷ []
mentions_on n side (insts.CondBr cond on_true on_false) = all_sided n side (places_of_val cond) ++ label n on_true ∷ label n on_false ∷ []
mentions_on n side (insts.Switch ty on default cases) = all_sided n side (places_of_ty ty ++ places_of_val on) ++ label n default ∷ map (λ case. label n case.1) cases
mentions_on n side inst = all_sided n side (places_of_inst inst)

abbrev pub names_in_operand : ℕ → HVal → List SidedName
names_in_operand n (operands.Reg reg) = register n reg.side reg.loc ∷ []
names_in_operand n (operands.Const val) = all_sided n S (places_of_val val)

abbrev pub mentions_of : ℕ → HInst → List SidedName
mentions_of n (Do side inst retires) = mentions_on n side inst
mentions_of n (Mov ty reg) = all_sided n S (places_of_ty ty) ++ register n S reg ∷ register n M reg ∷ []
mentions_of n (Chk when ty reg) = all_sided n M (places_of_ty ty) ++ register n M reg ∷ register n S reg ∷ []
mentions_of n (ChkMem ty ptr val) = all_sided n S (places_of_ty ty) ++ names_in_operand n ptr ++ names_in_operand n val
mentions_of n inst = []

-- the names that a line mentions, as it writes them
abbrev pub hard_mentions_in : HardLine → List SidedName
hard_mentions_in (OuterLine line) = map outer (mentions_in line)
hard_mentions_in (HBlockLine n f b block) = []
hard_mentions_in (HPhiLine n f b i phi) = mentions_on n phi.0 phi.1
hard_mentions_in (HInstLine n f b i inst) = mentions_of n inst

-- a name is defined anywhere
abbrev pub is_known : HardParts → SidedName → Bool
is_known h name = list_any (same_sided name) (map (λ d. d.1) (hard_definitions h))

abbrev pub names_keep : HardParts → HardLine → Bool
names_keep h line = list_all (is_known h) (hard_mentions_in line)

-- ---- limits

abbrev pub pair_part_step : Ty-F Ty → Option Ty
pair_part_step (Ty-F.Struct (first ∷ second ∷ [])) = if same_ty second (types.Int W1) then Some first else None
pair_part_step other = None

-- the type T of `{ T, i1 }`
abbrev pub pair_part : Ty → Option Ty
pair_part ty = pair_part_step (out-Ty ty)

abbrev pub types_in_operand : HVal → List Ty
types_in_operand (operands.Reg reg) = []
types_in_operand (operands.Const val) = types_in_val val

-- the first limit that the type of a register breaks: of `{ T, i1 }` none, where T breaks none
abbrev pub keeps_as_part : List (TypeId × Ty) → Option Ty → Bool
keeps_as_part named None = false
keeps_as_part named (Some part) = is_none (limit_among named (part ∷ []))

abbrev pub limit_of_register : List (TypeId × Ty) → Ty → Option LimitKind
limit_of_register named ty = if keeps_as_part named (pair_part ty) then None else limit_among named (ty ∷ [])

-- that of an instruction which does none of the source
abbrev pub own_limit : List (TypeId × Ty) → HInst → Option LimitKind
own_limit named (Mov ty reg) = limit_of_register named ty
own_limit named (Chk when ty reg) = limit_of_register named ty
own_limit named (ChkMem ty ptr val) = limit_among named (ty ∷ types_in_operand ptr ++ types_in_operand val)
own_limit named inst = None

-- the first limit that a line breaks
abbrev pub hard_limit_in : List (TypeId × Ty) → HardLine → Option LimitKind
hard_limit_in named (HInstLine n f b i (Do side inst retires)) = limit_in named (InstLine n (plain_func f) b i inst)
hard_limit_in named (HInstLine n f b i inst) = own_limit named inst
hard_limit_in named line = limit_in named (plain_line line)

abbrev pub limits_keep : HardParts → HardLine → Bool
limits_keep h line = is_none (hard_limit_in h.heads.types line)

-- ---- calls

-- the constants that an instruction writes where it does none of the source
abbrev pub constant_in : HVal → List Val
constant_in (operands.Reg reg) = []
constant_in (operands.Const val) = val ∷ []

abbrev pub own_constants : HInst → List Val
own_constants (ChkMem ty ptr val) = constant_in ptr ++ constant_in val
own_constants inst = []

abbrev pub constants_in_line : HardLine → List Val
constants_in_line (HInstLine n f b i inst) = own_constants inst
constants_in_line line = []

abbrev pub hard_calls_keep : HardParts → HardLine → Bool
hard_calls_keep h line = calls_keep h.heads (plain_line line) && are_plain h.heads (constants_in_line line)

-- ---- types

abbrev pub meaning_in : HInst → Option (Loc × Meaning)
meaning_in (Do side inst retires) = meaning_of_result inst
meaning_in (Mov ty reg) = Some (reg, Register ty)
meaning_in inst = None

abbrev pub meaning_of_phi : Side × Inst → Option (Loc × Meaning)
meaning_of_phi phi = meaning_of_result phi.1

abbrev pub meanings_in : HBlock → List (Loc × Meaning)
meanings_in block = (block.label, Label) ∷ filter_map meaning_of_phi block.phis ++ filter_map meaning_in block.list

-- what the names of a function stand for, in the order of their definitions on both sides
abbrev pub hard_meanings : HardFunc → List (Loc × Meaning)
hard_meanings f = map param_meaning f.0.params ++ flat_map meanings_in f.1

-- the name is a register of this type
abbrev pub has_type : HardFunc → Ty → Loc → Bool
has_type f ty reg = is_register_of ty (first_of (hard_meanings f) reg)

-- a definition is of the type that its name has
abbrev pub meaning_fits : HardFunc → Loc × Meaning → Bool
meaning_fits f (reg, Label) = true
meaning_fits f (reg, Register ty) = has_type f ty reg
meaning_fits f (reg, Pair ty) = has_type f (pair_of ty) reg

abbrev pub result_fits : HardFunc → Inst → Bool
result_fits f inst = option_map_or (meaning_fits f) (meaning_of_result inst) true

-- the definition is a register of this name, and gives what a `cmpxchg` on a type does
abbrev pub is_pair_at : Ty → Loc → Loc × Meaning → Bool
is_pair_at ty reg entry = nat_eq entry.0.0 reg.0 && is_pair_of ty (Some entry.1)

-- what an instruction reads fits; of the pair of an `extractvalue` any definition counts
abbrev pub uses_fit : List (TypeId × Ty) → HardFunc → Inst → Bool
uses_fit named f (insts.Extract dst elem pair index) = list_any (is_pair_at elem pair) (hard_meanings f)
uses_fit named f inst = inst_fits named (hard_meanings f) f.0.ret inst

abbrev pub source_fits : List (TypeId × Ty) → HardFunc → Inst → Bool
source_fits named f inst = result_fits f inst && uses_fit named f inst

-- a shadow or a constant of this type
abbrev pub operand_has_type : List (TypeId × Ty) → HardFunc → Ty → HVal → Bool
operand_has_type named f ty (operands.Reg reg) = same_side reg.side S && has_type f ty reg.loc
operand_has_type named f ty (operands.Const (values.Reg at)) = false
operand_has_type named f ty (operands.Const val) = operand_fits named (hard_meanings f) (ty, val)

abbrev pub hard_inst_fits : List (TypeId × Ty) → HardFunc → HInst → Bool
hard_inst_fits named f (Do side inst retires) = source_fits named f inst
hard_inst_fits named f (Mov ty reg) = has_type f ty reg
hard_inst_fits named f (Chk when ty reg) = has_type f ty reg
hard_inst_fits named f (ChkMem ty ptr val) = operand_has_type named f types.Ptr ptr && operand_has_type named f ty val
hard_inst_fits named f inst = true

abbrev pub hard_types_keep : HardParts → HardLine → Bool
hard_types_keep h (OuterLine line) = types_keep h.heads line
hard_types_keep h (HBlockLine n f b block) = true
hard_types_keep h (HPhiLine n f b i phi) = source_fits h.heads.types f phi.1
hard_types_keep h (HInstLine n f b i inst) = hard_inst_fits h.heads.types f inst

-- ---- forms

-- whose line says that it retires
abbrev pub must_retire : Inst → Bool
must_retire (insts.Br to) = true
must_retire (insts.CondBr cond on_true on_false) = true
must_retire (insts.Switch ty on default cases) = true
must_retire (insts.Call dst ret callee args) = true
must_retire (insts.Ret ty val) = true
must_retire inst = false

-- phis are phis, no phi stands elsewhere, and what must retire does
abbrev pub forms_keep : HardLine → Bool
forms_keep (HPhiLine n f b i phi) = is_phi phi.1
forms_keep (HInstLine n f b i (Do side inst retires)) = not (is_phi inst) && (retires || not (must_retire inst))
forms_keep line = true

-- ---- modules that fit

-- each line keeps a rule
abbrev pub AllKeep : (HardLine → Bool) → HardParts → Type 0
AllKeep keeps h = list_all keeps (hard_lines h) ≡ true

-- one field for each kind of fault, and one for forms
pub record Fits (h : HardParts) : Type 0 where
  pub distinct : hard_duplicate h ≡ None
  pub known : AllKeep (names_keep h) h
  pub limits : first_limit h.heads ≡ None
  pub code_limits : AllKeep (limits_keep h) h
  pub terminators : AllKeep (λ line. terminators_keep (plain_line line)) h
  pub calls : AllKeep (hard_calls_keep h) h
  pub types : AllKeep (hard_types_keep h) h
  pub main : has_main h.heads ≡ true
  pub entries : AllKeep (λ line. entries_keep (plain_line line)) h
  pub phis : OfAll PhisFit (map plain_func (hard_funcs h))
  pub forms : AllKeep forms_keep h
