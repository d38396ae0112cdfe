-- When a hardened module is an image of a module: the hardened module of the image table is one, and so are others with other ticks, with
-- further points where a transaction may be cut, and with checks on edges.
--
-- Choices: two relations by numbers, and one by names. `IsImage` is exact: each list is the table's, where ticks may have any number below 2^32,
-- and before the row of an instruction pairs of `cut` and `begin` may stand. `IsLooseImage` allows more marks, so that no proof over it
-- speaks of what follows a call. By names: a module is the same under other numbers where no name of it changes.
use Rattle.std.specs.Prelude.{ℕ, zero, suc, ◌≡◌, ◌^◌, Bool, true, false, List, [], ◌∷◌, ◌++◌, map, length, nat_eq, nat_lt, Option, Some, None, slice_get}
use Rattle.std.specs.List.{flat_map, list_all, list_any}
use Rattle.ir_core.specs.declared.types.Ty.{Ty}
use Rattle.ir_core.specs.declared.types.Loc.{Loc}
use Rattle.ir_core.specs.declared.values.Side.{Side}
use Rattle.ir_core.specs.declared.instruction.Inst.{Inst}
use Rattle.ir_core.specs.declared.instruction.Block.{Block}
use Rattle.ir_core.specs.Module.{ModuleParts, FuncParts}
use Rattle.ir_core.specs.Instructions.{is_phi}
use Rattle.ir_flow.specs.Edges.{edges_of, is_loop_head}
use Rattle.ir_numbering.specs.Renaming.{Renaming, renamed_global, renamed_declare, renamed_func}
use Rattle.ir_numbering.specs.Numbers.{renamed_named}
use Rattle.hard_ir.specs.declared.instruction.HInst.{HInst}
use Rattle.hard_ir.specs.declared.instruction.HInst.TheVariants.{Cut, Begin, End, Tick, Chk, ChkMem, Mov, Do}
use Rattle.hard_ir.specs.declared.instruction.HBlock.{HBlock}
use Rattle.hard_ir.specs.Image.{copy_of, phi_image, checks_before, body_of, cut_point, row, place_table}
use Rattle.hard_ir.specs.Hardened.{HardParts, heads_of, at_entry, at_head}
use Rattle.hard_ir.specs.EdgeChecks.{is_edge_target, edge_phis, edge_check}
use Rattle.hard_ir.specs.Lines.{registers_of}

-- ---- the checks of edges

-- the names of a function's registers and labels
abbrev pub names_in : Block → List Loc
names_in block = block.label ∷ flat_map registers_of block.insts

abbrev pub names_of : FuncParts → List Loc
names_of f = map (λ param. param.1) f.params ++ flat_map names_in f.blocks

abbrev pub is_named : FuncParts → Loc → Bool
is_named f at = list_any (λ name. nat_eq name.0 at.0) (names_of f)

-- Some of the blocks to which guarded branches lead have a name for their edges. It is no name of the function, and serves one block alone.
pub record EdgeNames (f : FuncParts) : Type 0 where
  pub of : ℕ → Option Loc
  pub target : (b : ℕ) (block : Block) (name : Loc) → slice_get f.blocks b ≡ Some block → of b ≡ Some name → is_edge_target f.blocks block.label ≡ true
  pub new : (b : ℕ) (name : Loc) → of b ≡ Some name → is_named f name ≡ false
  pub single : (a b : ℕ) (name : Loc) → of a ≡ Some name → of b ≡ Some name → a ≡ b

-- the phis of such a name
abbrev pub phis_for : Option Loc → List Block → Loc → List (Side × Inst)
phis_for None blocks at = []
phis_for (Some name) blocks at = edge_phis name blocks at

-- and its check, before other code
abbrev pub check_for : Option Loc → List HInst
check_for None = []
check_for (Some name) = edge_check name ∷ []

-- ---- blocks and modules, whatever is asked of the code of a block

abbrev pub CodeRule : Type 1
CodeRule = FuncParts → ℕ → Block → List HInst → Type 0

-- a block of a function is an image of its source, where its edges have this name
pub record IsBlockImage (rule : CodeRule) (f : FuncParts) (b : ℕ) (block : Block) (name : Option Loc) (hard : HBlock) : Type 0 where
  pub label : hard.label ≡ block.label
  pub phis : hard.phis ≡ flat_map phi_image block.insts ++ phis_for name f.blocks block.label
  pub code : List HInst
  pub list : hard.list ≡ check_for name ++ code
  pub keeps : rule f b block code

pub record IsFuncImage (rule : CodeRule) (f : FuncParts) (blocks : List HBlock) : Type 0 where
  pub edges : EdgeNames f
  pub count : length blocks ≡ length f.blocks
  pub each : (b : ℕ) (block : Block) (hard : HBlock) → slice_get f.blocks b ≡ Some block → slice_get blocks b ≡ Some hard → IsBlockImage rule f b block (edges.of b) hard

pub record IsImageBy (rule : CodeRule) (m : ModuleParts) (h : HardParts) : Type 0 where
  pub heads : h.heads ≡ heads_of m
  pub count : length h.funcs ≡ length m.funcs
  pub each : (n : ℕ) (f : FuncParts) (blocks : List HBlock) → slice_get m.funcs n ≡ Some f → slice_get h.funcs n ≡ Some blocks → IsFuncImage rule f blocks

-- ---- exact images

-- so many points where a transaction may be cut, before other code
abbrev pub cuts_onto : ℕ → List HInst → List HInst
cuts_onto zero code = code
cuts_onto (suc more) code = cut_point ++ cuts_onto more code

-- the code is an image of the instructions
pub data Rows (m : ModuleParts) : List Inst → List HInst → Type 0 where
  NoRow : {insts : List Inst} {code : List HInst} → insts ≡ [] → code ≡ [] → Rows m insts code
  PhiRow : {insts : List Inst} {code : List HInst} (phi : Inst) (behind : List Inst) → insts ≡ phi ∷ behind → is_phi phi ≡ true
      → Rows m behind code → Rows m insts code
  Row : {insts : List Inst} {code : List HInst} (inst : Inst) (behind : List Inst) (cuts work : ℕ) (rest : List HInst)
      → insts ≡ inst ∷ behind → is_phi inst ≡ false → code ≡ cuts_onto cuts (row m work inst ++ rest)
      → Rows m behind rest → Rows m insts code

-- a tick's number is below 2^32
abbrev pub is_small : HInst → Bool
is_small (Tick work) = nat_lt work (2 ^ 32)
is_small (Do side inst retires) = true
is_small (Mov ty reg) = true
is_small (Chk when ty reg) = true
is_small (ChkMem ty ptr val) = true
is_small Cut = true
is_small Begin = true
is_small End = true

-- the code of a block: the rows of its entry and of a loop head, and then of its instructions
pub record IsCode (m : ModuleParts) (f : FuncParts) (b : ℕ) (block : Block) (code : List HInst) : Type 0 where
  pub rest : List HInst
  pub is : code ≡ at_entry (place_table m) f b ++ (at_head (place_table m) (is_loop_head (edges_of f).pairs b) ++ rest)
  pub rows : Rows m block.insts rest
  pub small : list_all is_small code ≡ true

-- the hardened module is an image of the module, by the numbers of its names
abbrev pub IsImage : ModuleParts → HardParts → Type 0
IsImage m h = IsImageBy (IsCode m) m h

-- ---- images by names

-- names have their numbers in another table
abbrev pub Keeps : List (List ℕ) → List (List ℕ) → (ℕ → ℕ) → Type 0
Keeps from to number = (n : ℕ) (name : List ℕ) → slice_get from n ≡ Some name → slice_get to (number n) ≡ Some name

-- the same function under other numbers of its registers and labels; types and `@` names become others too
pub record IsSameFunc (outer : Renaming) (f g : FuncParts) : Type 0 where
  pub loc : ℕ → ℕ
  pub names : Keeps f.names g.names loc
  pub is : g ≡ record (renamed_func (record outer { loc = loc }) f) { names = g.names }

-- the same module under other numbers
pub record IsSameModule (m other : ModuleParts) : Type 0 where
  pub outer : Renaming
  pub type_names : Keeps m.type_names other.type_names outer.type_id
  pub syms : Keeps m.syms other.syms outer.sym
  pub types : other.types ≡ map (renamed_named outer) m.types
  pub globals : other.globals ≡ map (renamed_global outer) m.globals
  pub declares : other.declares ≡ map (renamed_declare outer) m.declares
  pub count : length other.funcs ≡ length m.funcs
  pub funcs : (n : ℕ) (f g : FuncParts) → slice_get m.funcs n ≡ Some f → slice_get other.funcs n ≡ Some g → IsSameFunc outer f g

-- the hardened module is an image of the module, whatever numbers its names have there
pub record IsNamedImage (m : ModuleParts) (h : HardParts) : Type 0 where
  pub source : ModuleParts
  pub same : IsSameModule m source
  pub image : IsImage source h

-- ---- loose images

-- ticks of any number, before other code
abbrev pub ticks_onto : List ℕ → List HInst → List HInst
ticks_onto works code = map Tick works ++ code

-- an instruction with its checks, before other code
abbrev pub body_onto : ModuleParts → Inst → List HInst → List HInst
body_onto m inst code = checks_before inst ++ (body_of m inst ++ code)

-- the code is an image of the instructions, among any marks
pub data LooseRows (m : ModuleParts) : List Inst → List HInst → Type 0 where
  Over : {insts : List Inst} {code : List HInst} → insts ≡ [] → code ≡ [] → LooseRows m insts code
  CutMark : {insts : List Inst} {code : List HInst} (rest : List HInst) → code ≡ Cut ∷ rest → LooseRows m insts rest → LooseRows m insts code
  BeginMark : {insts : List Inst} {code : List HInst} (rest : List HInst) → code ≡ Begin ∷ rest → LooseRows m insts rest → LooseRows m insts code
  Phi : {insts : List Inst} {code : List HInst} (phi : Inst) (behind : List Inst) → insts ≡ phi ∷ behind → is_phi phi ≡ true
      → LooseRows m behind code → LooseRows m insts code
  Next : {insts : List Inst} {code : List HInst} (inst : Inst) (behind : List Inst) (works : List ℕ) (rest : List HInst)
      → insts ≡ inst ∷ behind → is_phi inst ≡ false → code ≡ ticks_onto works (body_onto m inst rest)
      → LooseRows m behind rest → LooseRows m insts code

-- the parameters that are copied where a block begins
abbrev pub copied_in : FuncParts → ℕ → List (Ty × Loc)
copied_in f zero = f.params
copied_in f (suc b) = []

pub record IsLooseCode (m : ModuleParts) (f : FuncParts) (b : ℕ) (block : Block) (code : List HInst) : Type 0 where
  pub rest : List HInst
  pub is : code ≡ map copy_of (copied_in f b) ++ rest
  pub rows : LooseRows m block.insts rest

-- the hardened module is an image of the module, among any marks
abbrev pub IsLooseImage : ModuleParts → HardParts → Type 0
IsLooseImage m h = IsImageBy (IsLooseCode m) m h
