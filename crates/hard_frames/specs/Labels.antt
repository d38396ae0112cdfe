-- The blocks that labels name, as tables keep them.
use Rattle.std.specs.Prelude.{ℕ, List, [], Option, map, slice_get}
use Rattle.std.specs.List.{slice_index_or}
use Rattle.std.specs.Option.{option_map_or}
use Rattle.hard_ir.specs.declared.instruction.HBlock.{HBlock}
use Rattle.src_meaning.specs.Labels.{IsTable}
use Rattle.hard_frames.specs.Frames.{labelled}

-- each function's blocks have their table
abbrev pub AreTables : List (List HBlock) → List (List (Option ℕ)) → Type 0
AreTables funcs tables =
    (function : ℕ) → IsTable (map labelled (option_map_or (λ blocks. blocks) (slice_get funcs function) [])) (slice_index_or tables function [])
