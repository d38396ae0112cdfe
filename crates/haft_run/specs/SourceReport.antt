-- The report of a watched run of the source: its outputs, the stop and the turns.
use Rattle.std.specs.Prelude.{ℕ, List, ◌++◌, codes, decimal}
use Rattle.std.specs.List.{flat_map}
use Rattle.inst_meaning.specs.declared.actions.Cause.{Cause}
use Rattle.inst_meaning.specs.declared.actions.Cause.TheVariants.{Divide, Poison, Access, Stack, Depth, Unlock, Join, Unreachable}
use Rattle.race_watch.specs.declared.outcome.SrcStop.{SrcStop}
use Rattle.race_watch.specs.declared.outcome.SrcStop.TheVariants.{End, Bound, Undefined, Race}
use Rattle.race_watch.specs.declared.outcome.WatchResult.{WatchResult}
use Rattle.haft_run.specs.Report.{out_line, source_line}

-- why a step is undefined
abbrev pub cause_word : Cause → List ℕ
cause_word Divide = codes "divide"
cause_word Poison = codes "poison"
cause_word Access = codes "access"
cause_word Stack = codes "stack"
cause_word Depth = codes "depth"
cause_word Unlock = codes "unlock"
cause_word Join = codes "join"
cause_word Unreachable = codes "unreachable"

-- `stop end C`, `stop bound`, `stop undefined N T CAUSE` or `stop race N T U`
abbrev pub src_stop_line : SrcStop → List ℕ
src_stop_line (End code) = codes "stop end " ++ decimal code ++ codes "\n"
src_stop_line Bound = codes "stop bound\n"
src_stop_line (Undefined n tid cause) = codes "stop undefined " ++ decimal n ++ codes " " ++ decimal tid.0 ++ codes " " ++ cause_word cause ++ codes "\n"
src_stop_line (Race n t u) = codes "stop race " ++ decimal n ++ codes " " ++ decimal t.0 ++ codes " " ++ decimal u.0 ++ codes "\n"

abbrev pub src_report_of : WatchResult → List ℕ
src_report_of r = flat_map out_line r.outs ++ src_stop_line r.stop ++ source_line r.turns
