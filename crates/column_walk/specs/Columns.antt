-- A column of the image table, made out of what a hardened module says of its source.
--
-- Choices: the instructions that a block's list retires are those of its source in their order, without flags and phis. A later column is made of
-- these alone, and not of what earlier columns have put around them. Which blocks are loop heads is told by the terminators.
use Rattle.std.specs.Prelude.{ℕ, ◌+◌, Bool, true, false, List, [], ◌∷◌, ◌++◌, map, Option, Some, None, if◌then◌else◌}
use Rattle.std.specs.List.{flat_map, filter_map, zip}
use Rattle.ir_core.specs.declared.types.Ty.{Ty}
use Rattle.ir_core.specs.declared.types.Loc.{Loc}
use Rattle.ir_core.specs.declared.instruction.Inst.{Inst}
use Rattle.ir_core.specs.declared.instruction.Block.{Block}
use Rattle.ir_core.specs.Module.{FuncParts}
use Rattle.ir_flow.specs.Edges.{edges_from, is_loop_head}
use Rattle.ir_check.specs.Blocks.{is_terminator}
use Rattle.hard_ir.specs.declared.instruction.HInst.{HInst}
use Rattle.hard_ir.specs.declared.instruction.HInst.TheVariants.{Cut, Begin, End, Tick, Chk, ChkMem, Mov, Do}
use Rattle.hard_ir.specs.declared.instruction.HBlock.{HBlock}
use Rattle.hard_ir.specs.Hardened.{HardParts, at_entry, at_head}
use Rattle.hard_ir.specs.Image.{Table, copy_of}

-- what stands at an entry, after the copies of parameters, and at a loop head; and what stands for an instruction
pub record ColumnParts : Type 0 where
  pub point : List HInst
  pub image : Inst → List HInst

abbrev pub table_of : ColumnParts → Table
table_of c = record { entry = λ params. map copy_of params ++ c.point; head = c.point; image = c.image }

-- ---- what a list says of its source

-- the instruction that an item retires
abbrev pub retired_by : HInst → Option Inst
retired_by (Do side inst true) = Some inst
retired_by (Do side inst false) = None
retired_by (Mov ty reg) = None
retired_by (Chk when ty reg) = None
retired_by (ChkMem ty ptr val) = None
retired_by (Tick work) = None
retired_by Cut = None
retired_by Begin = None
retired_by End = None

abbrev pub retired : List HInst → List Inst
retired = filter_map retired_by

-- the terminator that an item does
abbrev pub ending_by : HInst → Option Inst
ending_by (Do side inst retires) = if is_terminator inst then Some inst else None
ending_by (Mov ty reg) = None
ending_by (Chk when ty reg) = None
ending_by (ChkMem ty ptr val) = None
ending_by (Tick work) = None
ending_by Cut = None
ending_by Begin = None
ending_by End = None

-- a block's label and its terminator
abbrev pub outline : HBlock → Block
outline block = record { label = block.label; insts = filter_map ending_by block.list }

abbrev pub pairs_among : List Block → List (ℕ × ℕ)
pairs_among blocks = edges_from blocks 0 blocks

-- ---- the column

abbrev pub column_list : ColumnParts → FuncParts → Bool → ℕ → List HInst → List HInst
column_list c f is_head n list = at_entry (table_of c) f n ++ (at_head (table_of c) is_head ++ flat_map c.image (retired list))

abbrev pub column_block : ColumnParts → FuncParts → List (ℕ × ℕ) → ℕ → HBlock → HBlock
column_block c f pairs n block = record block { list = column_list c f (is_loop_head pairs n) n block.list }

abbrev pub column_blocks : ColumnParts → FuncParts → List (ℕ × ℕ) → ℕ → List HBlock → List HBlock
column_blocks c f pairs n [] = []
column_blocks c f pairs n (block ∷ blocks) = column_block c f pairs n block ∷ column_blocks c f pairs (n + 1) blocks

-- the blocks of a function with this head
abbrev pub column_func : ColumnParts → FuncParts → List HBlock → List HBlock
column_func c f blocks = column_blocks c f (pairs_among (map outline blocks)) 0 blocks

abbrev pub column_pair : ColumnParts → FuncParts × List HBlock → List HBlock
column_pair c pair = column_func c pair.0 pair.1

abbrev pub column_funcs : ColumnParts → List FuncParts → List (List HBlock) → List (List HBlock)
column_funcs c heads funcs = map (column_pair c) (zip heads funcs)

abbrev pub column_module : ColumnParts → HardParts → HardParts
column_module c h = record h { funcs = column_funcs c h.heads.funcs h.funcs }
