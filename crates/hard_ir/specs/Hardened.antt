-- What contracts see of a hardened module, and the hardened module of a table.
use Rattle.std.specs.Prelude.{ℕ, zero, suc, ◌+◌, ◌≡◌, Bool, true, false, List, [], ◌∷◌, ◌++◌, map}
use Rattle.std.specs.List.{flat_map}
use Rattle.ir_core.specs.declared.instruction.Block.{Block}
use Rattle.ir_core.specs.Module.{ModuleParts, FuncParts}
use Rattle.ir_flow.specs.Edges.{edges_of, is_loop_head}
use Rattle.ir_parse_top.specs.Text.{IsOfText}
use Rattle.ir_check.specs.Faults.{IsAccepted}
use Rattle.hard_ir.specs.declared.instruction.HInst.{HInst}
use Rattle.hard_ir.specs.declared.instruction.HBlock.{HBlock}
use Rattle.hard_ir.specs.Image.{Table, phi_image, split_table, ticked}

-- types, globals, declares and the heads of functions; and for each function its hardened blocks
pub record HardParts : Type 0 where
  pub heads : ModuleParts
  pub funcs : List (List HBlock)

-- ---- the heads of a module

-- a function without its blocks
abbrev pub head_of : FuncParts → FuncParts
head_of f = record f { blocks = [] }

abbrev pub heads_of : ModuleParts → ModuleParts
heads_of m = record m { funcs = map head_of m.funcs }

-- ---- the hardened module

-- what stands at a function's entry, which is block 0
abbrev pub at_entry : Table → FuncParts → ℕ → List HInst
at_entry table f zero = table.entry f.params
at_entry table f (suc n) = []

-- what stands at a loop head
abbrev pub at_head : Table → Bool → List HInst
at_head table true = table.head
at_head table false = []

abbrev pub hard_block : Table → FuncParts → ℕ → Block → HBlock
hard_block table f n block = record {
  label = block.label;
  phis = flat_map phi_image block.insts;
  list = at_entry table f n ++ (at_head table (is_loop_head (edges_of f).pairs n) ++ flat_map table.image block.insts);
}

abbrev pub hard_blocks : Table → FuncParts → ℕ → List Block → List HBlock
hard_blocks table f n [] = []
hard_blocks table f n (block ∷ blocks) = hard_block table f n block ∷ hard_blocks table f (n + 1) blocks

abbrev pub hard_func : Table → FuncParts → List HBlock
hard_func table f = hard_blocks table f 0 f.blocks

-- the hardened module, by a set of columns
abbrev pub hardened_by : Table → ModuleParts → HardParts
hardened_by table m = record { heads = heads_of m; funcs = map (hard_func table) m.funcs }

-- the ticks of each block get their numbers
abbrev pub ticked_block : HBlock → HBlock
ticked_block block = record block { list = ticked 0 block.list }

abbrev pub ticked_module : HardParts → HardParts
ticked_module h = record h { funcs = map (map ticked_block) h.funcs }

-- the hardened module of the whole table
abbrev pub harden : ModuleParts → HardParts
harden m = ticked_module (hardened_by (split_table m) m)

-- what is made of some accepted module of a text
pub record IsMadeBy (make : ModuleParts → HardParts) (h : HardParts) : Type 0 where
  pub source : ModuleParts
  pub accepted : IsAccepted source
  pub of_text : IsOfText source
  pub is : h ≡ make source

-- what the columns make of one
abbrev pub IsHardenedBy : Table → HardParts → Type 0
IsHardenedBy table = IsMadeBy (hardened_by table)
