-- Which labels, phis and instructions of a hardened module have a line in hardened text.
--
-- Choices: a line is a list of tokens each of which has a text of its kind, and not the bytes of such a line. What the tokens stand for
-- gives names by places; the item has the numbers of these names. A renaming counts only at places where the tokens' names begin. A
-- line without registers is the master's.
use Rattle.std.specs.Prelude.{ℕ, ◌≡◌, ◌+◌, Bool, true, false, List, [], ◌++◌, drop, codes, Some, slice_get}
use Rattle.std.specs.List.{AllByRecursion}
use Rattle.ir_core.specs.declared.text.TokKind.{TokKind}
use Rattle.ir_core.specs.declared.text.TokKind.TheVariants.{Local, At, Label}
use Rattle.ir_core.specs.declared.types.Loc.{Loc}
use Rattle.ir_core.specs.declared.values.Side.{Side}
use Rattle.ir_core.specs.declared.values.Side.TheVariants.{M}
use Rattle.ir_core.specs.declared.instruction.Inst.{Inst}
use Rattle.ir_core.specs.Module.{ModuleParts, FuncParts}
use Rattle.ir_core.specs.Names.{number_given}
use Rattle.ir_core.specs.Tokens.{IsToken}
use Rattle.ir_grammar.specs.Parts.{Tok}
use Rattle.ir_grammar.specs.Fitting.{IsLine}
use Rattle.ir_core.specs.Instructions.{is_phi}
use Rattle.ir_numbering.specs.Renaming.{Renaming, renamed_loc, renamed_ty, renamed_val, renamed_inst}
use Rattle.hard_ir.specs.declared.instruction.HVal.{HVal}
use Rattle.hard_ir.specs.declared.instruction.HVal.TheVariants as operands
use Rattle.hard_ir.specs.declared.instruction.HInst.{HInst}
use Rattle.hard_ir.specs.declared.instruction.HInst.TheVariants.{Chk, ChkMem, Mov, Do}
use Rattle.hard_ir.specs.declared.instruction.HBlock.{HBlock}
use Rattle.hard_ir.specs.Hardened.{HardParts}
use Rattle.hard_ir.specs.Fit.{must_retire}
use Rattle.hard_ir.specs.Lines.{AreTokens, registers_of, DoesInst, own_line}

-- ---- names

-- the `%` names of a function, and the names of types and the `@` names of its module
pub record Tables : Type 0 where
  pub locals : List (List ℕ)
  pub structs : List (List ℕ)
  pub globals : List (List ℕ)

abbrev pub tables_of : ModuleParts → FuncParts → Tables
tables_of m f = record { locals = f.names; structs = m.type_names; globals = m.syms }

-- By the renaming, the name of a token has its number, where a register's name stands after so many bytes.
abbrev pub IsNumbered : Tables → ℕ → Renaming → ℕ → List ℕ → TokKind → Type 0
IsNumbered tables skip r at text Local = (r.loc (at + skip) ≡ number_given tables.locals (drop skip text)) × (r.type_id (at + 1) ≡ number_given tables.structs (drop 1 text))
IsNumbered tables skip r at text At = r.sym (at + 1) ≡ number_given tables.globals (drop 1 text)
IsNumbered tables skip r at text kind = Unit {0}

abbrev pub HasNumbers : Tables → ℕ → Renaming → Tok → Type 0
HasNumbers tables skip r t = IsNumbered tables skip r t.at t.text t.kind

abbrev pub AreNumbered : Tables → ℕ → Renaming → List Tok → Type 0
AreNumbered tables skip r = AllByRecursion (HasNumbers tables skip r)

-- ---- lines

abbrev pub renamed_operand : Renaming → HVal → HVal
renamed_operand r (operands.Reg reg) = operands.Reg (record reg { loc = renamed_loc r reg.loc })
renamed_operand r (operands.Const val) = operands.Const (renamed_val r val)

-- an item, its names numbered
abbrev pub renamed_item : Renaming → HInst → HInst
renamed_item r (Do side inst retires) = Do side (renamed_inst r inst) retires
renamed_item r (Chk when ty reg) = Chk when (renamed_ty r ty) (renamed_loc r reg)
renamed_item r (ChkMem ty ptr val) = ChkMem ty (renamed_operand r ptr) (renamed_operand r val)
renamed_item r (Mov ty reg) = Mov (renamed_ty r ty) (renamed_loc r reg)
renamed_item r item = item

-- a line of hardened text's own stands for the item
pub record HasOwnLine (tables : Tables) (item : HInst) : Type 0 where
  pub tokens : List Tok
  pub tree : HInst
  pub names : Renaming
  pub kinds : AreTokens tokens
  pub stands : IsLine own_line.means tokens tree
  pub numbered : AreNumbered tables 3 names tokens
  pub is : item ≡ renamed_item names tree

-- a line does the instruction on a side, and retires it or doesn't
pub record HasInstLine (tables : Tables) (side : Side) (inst : Inst) (retires : Bool) : Type 0 where
  pub tokens : List Tok
  pub tree : Inst
  pub names : Renaming
  pub kinds : AreTokens tokens
  pub stands : DoesInst side tree retires tokens
  pub numbered : AreNumbered tables 1 names stands.line
  pub is : inst ≡ renamed_inst names tree
  pub bare : registers_of inst ≡ [] → side ≡ M

-- ---- blocks

-- A line stands for the item of a block's list, which is no phi.
abbrev pub HasLine : Tables → HInst → Type 0
HasLine tables (Do side inst retires) = HasInstLine tables side inst retires × (is_phi inst ≡ false) × (must_retire inst ≡ true → retires ≡ true)
HasLine tables item = HasOwnLine tables item

-- A line stands for the phi, which never retires.
abbrev pub HasPhiLine : Tables → Side × Inst → Type 0
HasPhiLine tables phi = HasInstLine tables phi.0 phi.1 false × (is_phi phi.1 ≡ true)

-- `x:` is a label's line, where x is its name.
pub record HasLabelLine (tables : Tables) (label : Loc) : Type 0 where
  pub name : List ℕ
  pub kind : IsToken true Label (name ++ codes ":")
  pub number : label.0 ≡ number_given tables.locals name

pub record HasBlockLines (tables : Tables) (block : HBlock) : Type 0 where
  pub label : HasLabelLine tables block.label
  pub phis : AllByRecursion (HasPhiLine tables) block.phis
  pub list : AllByRecursion (HasLine tables) block.list

-- there is an entry block, and all that stands in blocks has a line
pub record HasFuncLines (tables : Tables) (blocks : List HBlock) : Type 0 where
  pub entry : blocks ≡ [] → ⊥
  pub each : AllByRecursion (HasBlockLines tables) blocks

-- the blocks of a hardened module have lines
abbrev pub HasLines : HardParts → Type 0
HasLines h = (n : ℕ) (f : FuncParts) (blocks : List HBlock) → slice_get h.heads.funcs n ≡ Some f → slice_get h.funcs n ≡ Some blocks → HasFuncLines (tables_of h.heads f) blocks
