-- The widths of the registers of all functions.
use Rattle.std.specs.Prelude.{ℕ, List, map, slice_get, unwrap_or}
use Rattle.std.specs.Option.{option_and_then}
use Rattle.ir_core.specs.declared.types.Loc.{Loc}
use Rattle.ir_core.specs.Module.{ModuleParts, FuncParts}
use Rattle.ir_types.specs.Firsts.{first_of}
use Rattle.ir_types.specs.Meanings.{Meaning, meanings, width_of_meaning}

-- the widths of a function's names, in the order of their definitions; of each function
abbrev pub with_width : Loc × Meaning → Loc × ℕ
with_width entry = (entry.0, width_of_meaning entry.1)

abbrev pub widths : FuncParts → List (Loc × ℕ)
widths f = map with_width (meanings f)

abbrev pub widths_of : ModuleParts → List (List (Loc × ℕ))
widths_of m = map widths m.funcs

-- the width of a name of the function with this number, and 0 where there is none
abbrev pub width_at : List (List (Loc × ℕ)) → ℕ → Loc → ℕ
width_at tables func at = unwrap_or (option_and_then (λ table. first_of table at) (slice_get tables func)) 0
