-- Checks on edges: a block to which a branch on a register leads compares, before all else, the direction that was taken with the shadow of
-- that register. So a condition that is struck between its check and its branch is found in the block that was entered wrongly.
--
-- Choices: a conditional branch on a register with two different labels is guarded. A block to which one leads gets one new name, a phi of
-- each side and a check. The master of the name is the direction, a constant for each edge; its shadow is the register, so that both hold the
-- same word where the branch went right. On all other edges both are 0. The name is `edge`, dots and the block's number, with one dot more than
-- follow `edge` in any name of the function, so that it is new. Names are numbered by their first definitions, and those of edges are
-- defined after the phis of their blocks: a name that is defined later has its number raised.
use Rattle.std.specs.Prelude.{ℕ, suc, ◌+◌, ◌&&◌, ◌-◌, Bool, true, false, List, [], ◌∷◌, ◌++◌, map, length, drop, replicate, codes, decimal, max, fold, nat_eq, nat_lt, Option, Some, None, is_some, slice_get, unwrap_or, if◌then◌else◌}
use Rattle.std.specs.List.{list_any, starts_with, filter, position}
use Rattle.ir_core.specs.declared.types.Ty.TheVariants as types
use Rattle.ir_core.specs.declared.types.Width.TheVariants.{W1}
use Rattle.ir_core.specs.declared.types.Loc.{Loc}
use Rattle.ir_core.specs.declared.values.Val.{Val}
use Rattle.ir_core.specs.declared.values.Val.TheVariants as values
use Rattle.ir_core.specs.declared.values.Side.{Side}
use Rattle.ir_core.specs.declared.values.Side.TheVariants.{M, S}
use Rattle.ir_core.specs.declared.instruction.Inst.{Inst}
use Rattle.ir_core.specs.declared.instruction.Inst.TheVariants as insts
use Rattle.ir_core.specs.declared.instruction.Block.{Block}
use Rattle.ir_core.specs.Instructions.{result_of}
use Rattle.ir_flow.specs.Edges.{last_labels}
use Rattle.ir_numbering.specs.Renaming.{Renaming, renamed_loc, renamed_param, renamed_inst}
use Rattle.hard_ir.specs.declared.instruction.When.TheVariants.{Always}
use Rattle.hard_ir.specs.declared.instruction.HInst.{HInst}
use Rattle.hard_ir.specs.declared.instruction.HInst.TheVariants.{Tick, Chk}
use Rattle.hard_ir.specs.declared.instruction.HBlock.{HBlock}
use Rattle.hard_ir.specs.Hardened.{HardParts}
use Rattle.hard_ir.specs.Fit.{HardFunc, hard_funcs, plain_block}
use Rattle.hard_ir.specs.Standing.{renamed_item}

-- ---- guarded branches

-- a branch on a register, which leads to the first label where its word is 1, and to the second where it is 0
pub record Guard : Type 0 where
  pub on : Loc
  pub first : Loc
  pub second : Loc

-- an instruction is a guarded branch
abbrev pub guard_in : Inst → Option Guard
guard_in (insts.CondBr (values.Reg on) first second) = if nat_eq first.0 second.0 then None else Some (record { on = on; first = first; second = second })
guard_in inst = None

abbrev pub guard_at : Option Inst → Option Guard
guard_at None = None
guard_at (Some inst) = guard_in inst

-- the guarded branch in which a block ends
abbrev pub guard_of : Block → Option Guard
guard_of block = guard_at (slice_get block.insts (length block.insts - 1))

-- a block leads to a label
abbrev pub leads_to : Loc → Block → Bool
leads_to at block = list_any (λ to. nat_eq to.0 at.0) (last_labels block.insts)

-- in a guarded branch
abbrev pub guards : Loc → Block → Bool
guards at block = is_some (guard_of block) && leads_to at block

-- the blocks from which an edge leads to a label, in their order
abbrev pub predecessors : List Block → Loc → List Block
predecessors blocks at = filter (leads_to at) blocks

-- a guarded branch of these blocks leads to the label
abbrev pub is_edge_target : List Block → Loc → Bool
is_edge_target blocks at = list_any (guards at) blocks

-- ---- the phis and the check of a name

-- 1 or 0
abbrev pub bit : Bool → ℕ
bit true = 1
bit false = 0

-- what the name gets on a side, on an edge to a label
abbrev pub direction : Option Guard → Loc → Side → Val
direction None at side = values.Int 0
direction (Some guard) at M = values.Int (bit (nat_eq at.0 guard.first.0))
direction (Some guard) at S = values.Reg guard.on

abbrev pub edge_arm : Loc → Side → Block → Val × Loc
edge_arm at side block = (direction (guard_of block) at side, block.label)

abbrev pub edge_phi : Loc → List Block → Loc → Side → Side × Inst
edge_phi name blocks at side = (side, insts.Phi name (types.Int W1) (map (edge_arm at side) (predecessors blocks at)))

-- the phis of both sides, one arm for each predecessor
abbrev pub edge_phis : Loc → List Block → Loc → List (Side × Inst)
edge_phis name blocks at = edge_phi name blocks at M ∷ edge_phi name blocks at S ∷ []

abbrev pub edge_check : Loc → HInst
edge_check name = Chk Always (types.Int W1) name

-- the check comes after the last ender too, so the first tick counts it
abbrev pub raised_tick : HInst → List HInst → List HInst → List HInst
raised_tick (Tick work) list rest = Tick (work + 1) ∷ list
raised_tick item list rest = item ∷ rest

abbrev pub first_tick_raised : List HInst → List HInst
first_tick_raised [] = []
first_tick_raised (item ∷ list) = raised_tick item list (first_tick_raised list)

-- a block of these, which checks its edges by a name
abbrev pub edge_block : Loc → List Block → HBlock → HBlock
edge_block name blocks block = record block { phis = block.phis ++ edge_phis name blocks block.label; list = edge_check name ∷ first_tick_raised block.list }

-- ---- new names

-- how many dots a name begins with
abbrev pub leading_dots : List ℕ → ℕ
leading_dots [] = 0
leading_dots (byte ∷ bytes) = if nat_eq byte 46 then suc (leading_dots bytes) else 0

-- how many dots follow `edge` at the begin of a name
abbrev pub dots_in : List ℕ → ℕ
dots_in name = if starts_with nat_eq name (codes "edge") then leading_dots (drop 4 name) else 0

-- one more than in any of the names
abbrev pub dots_over : List (List ℕ) → ℕ
dots_over names = suc (fold (λ most name. max most (dots_in name)) 0 names)

abbrev pub edge_name : ℕ → ℕ → List ℕ
edge_name dots b = codes "edge" ++ replicate dots 46 ++ decimal b

-- The name that is defined last before a block's instructions: its last phi's, else its label. A new name comes after it.
abbrev pub anchor_from : Loc → List (Side × Inst) → Loc
anchor_from at [] = at
anchor_from at (phi ∷ phis) = anchor_from (unwrap_or (result_of phi.1) at) phis

abbrev pub anchor_of : HBlock → ℕ
anchor_of block = (anchor_from block.label block.phis).0

-- new names, each with the number after which it comes
abbrev pub Marks : Type 0
Marks = List (ℕ × List ℕ)

abbrev pub mark_of : HardFunc → ℕ → HBlock → ℕ × List ℕ
mark_of f b block = (anchor_of block, edge_name (dots_over f.0.names) b)

-- what becomes of a number: one more for each new name that comes before
abbrev pub raised : Marks → ℕ → ℕ
raised [] at = at
raised (mark ∷ marks) at = bit (nat_lt mark.0 at) + raised marks at

-- the new names that come after a number
abbrev pub names_after : ℕ → Marks → List (List ℕ)
names_after at [] = []
names_after at (mark ∷ marks) = if nat_eq mark.0 at then mark.1 ∷ names_after at marks else names_after at marks

-- names from a number on, with the new ones among them
abbrev pub with_names : Marks → ℕ → List (List ℕ) → List (List ℕ)
with_names marks at [] = []
with_names marks at (name ∷ names) = name ∷ names_after at marks ++ with_names marks (suc at) names

-- ---- functions

abbrev pub plain_blocks : HardFunc → List Block
plain_blocks f = map plain_block f.1

-- Which blocks check their edges: those that are chosen and to which a guarded branch leads.
abbrev pub is_edged : (ℕ → Bool) → List Block → ℕ → HBlock → Bool
is_edged chosen blocks b block = chosen b && is_edge_target blocks block.label

abbrev pub mark_if : Bool → ℕ × List ℕ → Marks → Marks
mark_if true mark marks = mark ∷ marks
mark_if false mark marks = marks

-- the new names of blocks from a number on
abbrev pub marks_from : (ℕ → Bool) → HardFunc → ℕ → List HBlock → Marks
marks_from chosen f b [] = []
marks_from chosen f b (block ∷ blocks) = mark_if (is_edged chosen (plain_blocks f) b block) (mark_of f b block) (marks_from chosen f (suc b) blocks)

abbrev pub marks_of : (ℕ → Bool) → HardFunc → Marks
marks_of chosen f = marks_from chosen f 0 f.1

-- numbers of registers and labels are raised
abbrev pub raising : Marks → Renaming
raising marks = record { loc = raised marks; type_id = λ id. id; sym = λ sym. sym }

abbrev pub renamed_phi : Renaming → Side × Inst → Side × Inst
renamed_phi r phi = (phi.0, renamed_inst r phi.1)

abbrev pub renamed_hard_block : Renaming → HBlock → HBlock
renamed_hard_block r block = record { label = renamed_loc r block.label; phis = map (renamed_phi r) block.phis; list = map (renamed_item r) block.list }

-- the number of a block's new name
abbrev pub name_for : Marks → HBlock → Loc
name_for marks block = record { 0 = suc (raised marks (anchor_of block)) }

-- a block under the new numbers, with its check where it has one
abbrev pub edged_block : Bool → Marks → List Block → HBlock → HBlock
edged_block true marks blocks block = edge_block (name_for marks block) blocks (renamed_hard_block (raising marks) block)
edged_block false marks blocks block = renamed_hard_block (raising marks) block

-- the blocks of a function from a number on; all of them under their new numbers are given
abbrev pub edged_blocks : (ℕ → Bool) → HardFunc → Marks → List Block → ℕ → List HBlock → List HBlock
edged_blocks chosen f marks all b [] = []
edged_blocks chosen f marks all b (block ∷ blocks) =
    edged_block (is_edged chosen (plain_blocks f) b block) marks all block ∷ edged_blocks chosen f marks all (suc b) blocks

abbrev pub edged_with : (ℕ → Bool) → Marks → HardFunc → HardFunc
edged_with chosen marks f = (
  record f.0 { params = map (renamed_param (raising marks)) f.0.params; names = with_names marks 0 f.0.names },
  edged_blocks chosen f marks (map plain_block (map (renamed_hard_block (raising marks)) f.1)) 0 f.1,
)

-- a function whose chosen blocks check their edges
abbrev pub edged_func : (ℕ → Bool) → HardFunc → HardFunc
edged_func chosen f = edged_with chosen (marks_of chosen f) f

-- ---- modules

abbrev pub edged_funcs : (ℕ → ℕ → Bool) → ℕ → List HardFunc → List HardFunc
edged_funcs chosen n [] = []
edged_funcs chosen n (f ∷ funcs) = edged_func (chosen n) f ∷ edged_funcs chosen (suc n) funcs

abbrev pub with_funcs : HardParts → List HardFunc → HardParts
with_funcs h funcs = record { heads = record h.heads { funcs = map (λ f. f.0) funcs }; funcs = map (λ f. f.1) funcs }

-- a hardened module whose chosen blocks, by the numbers of function and block, check their edges
abbrev pub edged_by : (ℕ → ℕ → Bool) → HardParts → HardParts
edged_by chosen h = with_funcs h (edged_funcs chosen 0 (hard_funcs h))

-- all blocks that can
abbrev pub edged : HardParts → HardParts
edged = edged_by (λ n b. true)

-- ---- the limit

-- a function has at most this many names of registers and labels
abbrev pub name_limit : ℕ
name_limit = 65536

-- the function would have more
abbrev pub is_over : HardFunc → Bool
is_over f = nat_lt name_limit (length f.0.names + length (marks_of (λ b. true) f))

-- the number of the first function that would
abbrev pub first_over : HardParts → Option ℕ
first_over h = position is_over (hard_funcs h)
