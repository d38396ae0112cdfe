-- the runs so far and those of the rest are all
use Rattle.std.proofs.Common.{◌≡◌, ◌++◌, drop, codes}
use Rattle.std.specs.List.{flat_map}
use Rattle.haft_run.specs.Report.{run_text}
use Rattle.haft_run.proofs.printing.push_source.Given as goal

abbrev pub invariant-loop-run : goal.invariant-loop-run
invariant-loop-run l = l.text.items ++ flat_map run_text (drop l.run-index l.runs) ≡ l.fn.text.items ++ codes "src" ++ flat_map run_text l.runs
