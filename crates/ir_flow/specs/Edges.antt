-- The edges of a function (LLVM Language Reference, 'Terminator Instructions', 'Functions').
--
-- Choices: a block has the number of its place. A block's edges are those of the labels that its last instruction writes, in that
-- order, repeats too. Where two blocks have one label, the last one counts, and a label of no block gives no edge; neither
-- happens in an accepted module.
use Rattle.std.specs.Prelude.{ℕ, ◌≡◌, ◌<◌, slice_index_or, false, ◌+◌, ◌-◌, ◌&&◌, ◌==◌, Bool, List, [], ◌∷◌, ◌++◌, map, length, Option, Some, None, slice_get, nat_eq, nat_le, if◌then◌else◌}
use Rattle.std.specs.List.{filter_map, list_any}
use Rattle.std.specs.Option.{option_map, option_map_or, option_or}
use Rattle.ir_core.specs.declared.types.Loc.{Loc}
use Rattle.ir_core.specs.declared.instruction.Inst.{Inst}
use Rattle.ir_core.specs.declared.instruction.Inst.TheVariants as insts
use Rattle.ir_core.specs.declared.instruction.Block.{Block}
use Rattle.ir_core.specs.Module.{FuncParts}

-- what contracts see of edges: how many blocks there are, and pairs of block numbers
pub record EdgeList : Type 0 where
  pub blocks : ℕ
  pub pairs : List (ℕ × ℕ)

-- the labels that an instruction leads to, as written
abbrev pub labels_of : Inst → List Loc
labels_of (insts.Br to) = to ∷ []
labels_of (insts.CondBr cond on_true on_false) = on_true ∷ on_false ∷ []
labels_of (insts.Switch ty on default cases) = default ∷ map (λ case. case.1) cases
labels_of inst = []

-- those of the last of the instructions
abbrev pub last_labels : List Inst → List Loc
last_labels body = option_map_or labels_of (slice_get body (length body - 1)) []

-- the number of the block with a label
abbrev pub numbered_from : ℕ → List Block → Loc → Option ℕ
numbered_from n [] label = None
numbered_from n (block ∷ blocks) label = option_or (numbered_from (n + 1) blocks label) (if nat_eq block.label.0 label.0 then Some n else None)

abbrev pub number_of : List Block → Loc → Option ℕ
number_of = numbered_from 0

abbrev pub edge_to : List Block → ℕ → Loc → Option (ℕ × ℕ)
edge_to blocks from label = option_map (λ to. (from, to)) (number_of blocks label)

abbrev pub edges_of_block : List Block → ℕ → Block → List (ℕ × ℕ)
edges_of_block blocks from block = filter_map (edge_to blocks from) (last_labels block.insts)

abbrev pub edges_from : List Block → ℕ → List Block → List (ℕ × ℕ)
edges_from all n [] = []
edges_from all n (block ∷ blocks) = edges_of_block all n block ++ edges_from all (n + 1) blocks

abbrev pub edges_of : FuncParts → EdgeList
edges_of f = record { blocks = length f.blocks; pairs = edges_from f.blocks 0 f.blocks }

-- a block is a loop head where an edge leads to it from itself or from a later block
abbrev pub is_loop_head : List (ℕ × ℕ) → ℕ → Bool
is_loop_head pairs block = list_any (λ edge. edge.1 == block && nat_le block edge.0) pairs

-- for each block whether it is a loop head
pub record AreLoopHeads (edges : EdgeList) (heads : List Bool) : Type 0 where
  pub count : length heads ≡ edges.blocks
  pub each : (block : ℕ) → block < edges.blocks → slice_index_or heads block false ≡ is_loop_head edges.pairs block
