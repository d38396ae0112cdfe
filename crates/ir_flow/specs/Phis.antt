-- Phis and the blocks that lead to them (LLVM Language Reference, 'phi Instruction').
--
-- Choices: the labels of a phi are compared with the block's predecessors as sets, so that a block with two edges to another
-- may be named once. Values are equal where they are written alike.
use Rattle.std.specs.Prelude.{ℕ, ◌≡◌, ◌+◌, ◌<◌, true, List, [], ◌∷◌, ◌++◌, Some, slice_get, nat_eq, ◌⊎◌}
use Rattle.std.specs.List.{list_any}
use Rattle.std.specs.HashMap.{HashMap, get}
use Rattle.std.specs.HashSet.{HashSet, contains}
use Rattle.std.specs.declared.hash.FoldHasher.{FoldHasher}
use Rattle.std.specs.declared.hash.BuildHasherDefault.{BuildHasherDefault}
use Rattle.ir_core.specs.declared.types.Loc.{Loc}
use Rattle.ir_core.specs.declared.values.Val.{Val}
use Rattle.ir_core.specs.declared.instruction.Inst.{Inst}
use Rattle.ir_core.specs.declared.instruction.Inst.TheVariants as insts
use Rattle.ir_core.specs.declared.instruction.Block.{Block}
use Rattle.ir_core.specs.Module.{FuncParts}
use Rattle.ir_flow.specs.Edges.{number_of, edges_of}
use Rattle.ir_flow.specs.Paths.{IsEdge}
use Rattle.ir_flow.specs.Uses.{FirstUnassigned}
use Rattle.ir_flow.specs.declared.flow.FlowError.{FlowError}
use Rattle.ir_flow.specs.declared.flow.FlowError.TheVariants.{PhiMismatch, UseBeforeDef, NoMemory}

-- an arm of the phi is of the block with this number
pub record HasArm (blocks : List Block) (arms : List (Val × Loc)) (from : ℕ) : Type 0 where
  pub place : ℕ
  pub arm : Val × Loc
  pub stands : slice_get arms place ≡ Some arm
  pub of_block : number_of blocks arm.1 ≡ Some from

-- The labels are the block's predecessors, and no block has two values.
pub record IsFitting (f : FuncParts) (block : ℕ) (arms : List (Val × Loc)) : Type 0 where
  pub known : (place : ℕ) (arm : Val × Loc) → slice_get arms place ≡ Some arm → (from : ℕ) × (number_of f.blocks arm.1 ≡ Some from) × IsEdge (edges_of f).pairs (from, block)
  pub complete : (from : ℕ) → IsEdge (edges_of f).pairs (from, block) → HasArm f.blocks arms from
  pub agree : (i j : ℕ) (a b : Val × Loc) → slice_get arms i ≡ Some a → slice_get arms j ≡ Some b → number_of f.blocks a.1 ≡ number_of f.blocks b.1 → a.0 ≡ b.0

-- ---- the phis of a function in order

pub record PhiAt : Type 0 where
  pub block : ℕ
  pub inst : ℕ
  pub arms : List (Val × Loc)

abbrev pub phi_at : ℕ → ℕ → Inst → List PhiAt
phi_at block inst (insts.Phi dst ty arms) = record { block = block; inst = inst; arms = arms } ∷ []
phi_at block inst other = []

abbrev pub phis_of_body : ℕ → ℕ → List Inst → List PhiAt
phis_of_body block n [] = []
phis_of_body block n (inst ∷ body) = phi_at block n inst ++ phis_of_body block (n + 1) body

abbrev pub phis_from : ℕ → List Block → List PhiAt
phis_from n [] = []
phis_from n (block ∷ blocks) = phis_of_body n 0 block.insts ++ phis_from (n + 1) blocks

abbrev pub phis_of : FuncParts → List PhiAt
phis_of f = phis_from 0 f.blocks

abbrev pub Fits : FuncParts → PhiAt → Type 0
Fits f phi = IsFitting f phi.block phi.arms

-- all of the phis fit
abbrev pub AllFitting : FuncParts → List PhiAt → Type 0
AllFitting f [] = Unit {0}
AllFitting f (phi ∷ phis) = Fits f phi × AllFitting f phis

-- the first of the phis that doesn't fit stands at this place
abbrev pub FirstMismatch : FuncParts → List PhiAt → ℕ → ℕ → Type 0
FirstMismatch f [] block inst = ⊥
FirstMismatch f (phi ∷ phis) block inst = ((Fits f phi → ⊥) × (phi.block ≡ block) × (phi.inst ≡ inst)) ⊎ (Fits f phi × FirstMismatch f phis block inst)

-- ---- what a check answers

abbrev pub IsFlowFault : FuncParts → FlowError → Type 0
IsFlowFault f (PhiMismatch block inst) = FirstMismatch f (phis_of f) block inst
IsFlowFault f (UseBeforeDef block inst reg) = AllFitting f (phis_of f) × FirstUnassigned f block inst reg
IsFlowFault f NoMemory = Unit {0}

-- of the phis alone
abbrev pub IsPhiFault : FuncParts → List PhiAt → FlowError → Type 0
IsPhiFault f phis (PhiMismatch block inst) = FirstMismatch f phis block inst
IsPhiFault f phis (UseBeforeDef block inst reg) = ⊥
IsPhiFault f phis NoMemory = Unit {0}

-- the list has exactly the blocks from which edges lead to the block
pub record HasPreds (f : FuncParts) (block : ℕ) (preds : List ℕ) : Type 0 where
  pub all : (from : ℕ) → IsEdge (edges_of f).pairs (from, block) → list_any (nat_eq from) preds ≡ true
  pub only : (from : ℕ) → list_any (nat_eq from) preds ≡ true → IsEdge (edges_of f).pairs (from, block)

-- ---- the same over a list of predecessors

pub record FitsTo (blocks : List Block) (preds : List ℕ) (arms : List (Val × Loc)) : Type 0 where
  pub known : (place : ℕ) (arm : Val × Loc) → slice_get arms place ≡ Some arm → (from : ℕ) × (number_of blocks arm.1 ≡ Some from) × (list_any (nat_eq from) preds ≡ true)
  pub complete : (from : ℕ) → list_any (nat_eq from) preds ≡ true → HasArm blocks arms from
  pub agree : (i j : ℕ) (a b : Val × Loc) → slice_get arms i ≡ Some a → slice_get arms j ≡ Some b → number_of blocks a.1 ≡ number_of blocks b.1 → a.0 ≡ b.0

-- a table from the numbers of blocks to places of arms
abbrev pub Places : Type 0
Places = HashMap ℕ ℕ (BuildHasherDefault FoldHasher)

-- one of the first arms: its block is a predecessor, and the table leads to an arm of that block with the same value
pub record ArmKnown (blocks : List Block) (preds : List ℕ) (arms : List (Val × Loc)) (places : Places) (arm : Val × Loc) : Type 0 where
  pub from : ℕ
  pub of_block : number_of blocks arm.1 ≡ Some from
  pub pred : list_any (nat_eq from) preds ≡ true
  pub first : ℕ
  pub head : Val × Loc
  pub at : get nat_eq places from ≡ Some first
  pub stands : slice_get arms first ≡ Some head
  pub same : head.0 ≡ arm.0

pub record ArmsKnown (blocks : List Block) (preds : List ℕ) (arms : List (Val × Loc)) (count : ℕ) (places : Places) : Type 0 where
  pub known : (k : ℕ) (arm : Val × Loc) → k < count → slice_get arms k ≡ Some arm → ArmKnown blocks preds arms places arm
  pub sound : (from first : ℕ) → get nat_eq places from ≡ Some first → (head : Val × Loc) × (slice_get arms first ≡ Some head) × (number_of blocks head.1 ≡ Some from)

-- the set has exactly these
abbrev pub IsSetOf : List ℕ → HashSet ℕ (BuildHasherDefault FoldHasher) → Type 0
IsSetOf preds set = (q : ℕ) → contains nat_eq set q ≡ list_any (nat_eq q) preds

-- an edge turned round
abbrev pub turned : ℕ × ℕ → ℕ × ℕ
turned edge = (edge.1, edge.0)
