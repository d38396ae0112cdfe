-- The report of a run: its outputs, what has become of the upsets, the counts of aborts, the stop and the turns of the source run.
use Rattle.std.specs.Prelude.{ℕ, suc, List, [], ◌∷◌, ◌++◌, codes, decimal}
use Rattle.std.specs.List.{flat_map}
use Rattle.ir_core.specs.declared.types.Tid.{Tid}
use Rattle.ir_core.specs.declared.values.Out.{Out}
use Rattle.ir_core.specs.declared.values.Out.TheVariants.{Num, Put}
use Rattle.hard_frames.specs.declared.outcome.Aborts.{Aborts}
use Rattle.hard_frames.specs.declared.outcome.Stop.{Stop}
use Rattle.hard_frames.specs.declared.outcome.Stop.TheVariants.{End, Bound, Fail, Trap}
use Rattle.upset_model.specs.declared.records.Record.{Record}
use Rattle.upset_model.specs.declared.records.Record.TheVariants.{Missed, Window, Hit, Undone, Stacked}
use Rattle.hard_meaning.specs.Runs.{RunParts}

-- `out N` or `put N`
abbrev pub out_line : Out → List ℕ
out_line (Num number) = codes "out " ++ decimal number ++ codes "\n"
out_line (Put byte) = codes "put " ++ decimal byte ++ codes "\n"

-- what has become of an upset
abbrev pub record_word : Record → List ℕ
record_word Missed = codes "missed"
record_word Window = codes "window"
record_word Hit = codes "hit"
record_word Undone = codes "undone"
record_word Stacked = codes "stacked"

-- `upset K WORD`
abbrev pub upset_line : ℕ → Record → List ℕ
upset_line k latest = codes "upset " ++ decimal k ++ codes " " ++ record_word latest ++ codes "\n"

-- the lines of upsets in their order, which are counted on from the number before
abbrev pub upset_lines : ℕ → List Record → List ℕ
upset_lines before [] = []
upset_lines before (latest ∷ records) = upset_line (suc before) latest ++ upset_lines (suc before) records

-- `aborts E C O S`: explicit, conflict, overflow, other
abbrev pub aborts_line : Aborts → List ℕ
aborts_line aborts = codes "aborts " ++ decimal aborts.explicit ++ codes " " ++ decimal aborts.conflict ++ codes " " ++ decimal aborts.overflow ++ codes " " ++ decimal aborts.other ++ codes "\n"

-- `stop end C`, `stop bound`, `stop fail T AT` or `stop trap T AT`
abbrev pub stop_line : Stop → List ℕ
stop_line (End code) = codes "stop end " ++ decimal code ++ codes "\n"
stop_line Bound = codes "stop bound\n"
stop_line (Fail tid at) = codes "stop fail " ++ decimal tid.0 ++ codes " " ++ at ++ codes "\n"
stop_line (Trap tid at) = codes "stop trap " ++ decimal tid.0 ++ codes " " ++ at ++ codes "\n"

-- ` T*N`
abbrev pub run_text : Tid × ℕ → List ℕ
run_text run = codes " " ++ decimal run.0.0 ++ codes "*" ++ decimal run.1

-- `src`, and the maximal runs of turns
abbrev pub source_line : List (Tid × ℕ) → List ℕ
source_line runs = codes "src" ++ flat_map run_text runs ++ codes "\n"

abbrev pub report_of : RunParts → List ℕ
report_of r = flat_map out_line r.outs ++ upset_lines 0 r.upsets ++ aborts_line r.aborts ++ stop_line r.stop ++ source_line r.turns
