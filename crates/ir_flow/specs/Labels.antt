-- A table from labels to the numbers of their blocks.
use Rattle.std.specs.Prelude.{ℕ, ◌≡◌, List, Option, nat_eq}
use Rattle.std.specs.Option.{option_map}
use Rattle.std.specs.HashMap.{HashMap, get}
use Rattle.std.specs.declared.hash.FoldHasher.{FoldHasher}
use Rattle.std.specs.declared.hash.BuildHasherDefault.{BuildHasherDefault}
use Rattle.ir_core.specs.declared.types.Loc.{Loc}
use Rattle.ir_core.specs.declared.instruction.Block.{Block}
use Rattle.ir_flow.specs.Edges.{number_of}

abbrev pub Numbers : Type 0
Numbers = HashMap ℕ ℕ (BuildHasherDefault FoldHasher)

-- the table has the number of each label's block
abbrev pub AreNumbers : List Block → Numbers → Type 0
AreNumbers blocks numbers = (label : Loc) → get nat_eq numbers label.0 ≡ number_of blocks label

-- the edge to the block with a label, by the table
abbrev pub found_edge : Numbers → ℕ → Loc → Option (ℕ × ℕ)
found_edge numbers from label = option_map (λ to. (from, to)) (get nat_eq numbers label.0)
