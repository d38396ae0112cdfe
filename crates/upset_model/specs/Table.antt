-- The windows of a hardened module as a table: for each function and each block its intervals.
use Rattle.std.specs.Prelude.{ℕ, ◌≡◌, Bool, false, List, [], map, slice_get}
use Rattle.std.specs.List.{slice_index_or}
use Rattle.std.specs.Option.{option_map_or}
use Rattle.hard_ir.specs.declared.instruction.HReg.{HReg}
use Rattle.hard_ir.specs.declared.instruction.HBlock.{HBlock}
use Rattle.hard_ir.specs.Hardened.{HardParts}
use Rattle.upset_model.specs.declared.blocks.Interval.{Interval}
use Rattle.upset_model.specs.Windows.{in_window, is_edge_checked}
use Rattle.upset_model.specs.Intervals.{intervals_of, is_held}
use Rattle.upset_model.specs.Guards.{blocks_of}

-- ---- windows by numbers

abbrev pub in_window_of : List HBlock → ℕ → HReg → Bool → HBlock → Bool
in_window_of blocks q r inside block = in_window inside (is_edge_checked blocks block) r block.list q

-- a register is in a window where the next instruction has this index in a block of a function; in a block that isn't there it is in none
abbrev pub in_window_at : HardParts → ℕ → ℕ → ℕ → HReg → Bool → Bool
in_window_at h func block q r inside = option_map_or (in_window_of (blocks_of h func) q r inside) (slice_get (blocks_of h func) block) false

-- ---- tables

abbrev pub Table : Type 0
Table = List (List (List Interval))

abbrev pub block_intervals : List HBlock → HBlock → List Interval
block_intervals blocks block = intervals_of (is_edge_checked blocks block) block.list

abbrev pub func_intervals : List HBlock → List (List Interval)
func_intervals blocks = map (block_intervals blocks) blocks

abbrev pub table_of : HardParts → Table
table_of h = map func_intervals h.funcs

-- what a table holds
abbrev pub table_has : Table → ℕ → ℕ → ℕ → HReg → Bool → Bool
table_has table func block q r inside = is_held r inside q (slice_index_or (slice_index_or table func []) block [])

-- a table holds exactly the windows of a module
abbrev pub HoldsWindows : HardParts → Table → Type 0
HoldsWindows h table =
    (func block q : ℕ) (r : HReg) (inside : Bool) → table_has table func block q r inside ≡ in_window_at h func block q r inside
