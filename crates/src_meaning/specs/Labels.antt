-- The blocks that labels name, as tables keep them.
use Rattle.std.specs.Prelude.{ℕ, ◌≡◌, List, [], Option, None}
use Rattle.std.specs.List.{slice_index_or}
use Rattle.ir_core.specs.declared.types.Loc.{Loc}
use Rattle.ir_core.specs.declared.instruction.Block.{Block}
use Rattle.ir_core.specs.Module.{FuncParts}
use Rattle.ir_flow.specs.Edges.{number_of}
use Rattle.src_meaning.specs.State.{blocks_at}

-- the number of the block that a label names, by a function's table
abbrev pub named_in : List (Option ℕ) → Loc → Option ℕ
named_in table label = slice_index_or table label.0 None

-- the table tells it of each label
abbrev pub IsTable : List Block → List (Option ℕ) → Type 0
IsTable blocks table = (label : Loc) → named_in table label ≡ number_of blocks label

-- each function has its table
abbrev pub AreTables : List FuncParts → List (List (Option ℕ)) → Type 0
AreTables funcs tables = (function : ℕ) → IsTable (blocks_at funcs function) (slice_index_or tables function [])
