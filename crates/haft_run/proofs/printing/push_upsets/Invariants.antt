-- the lines so far and those of the rest are the lines of all
use Rattle.std.proofs.Common.{◌≡◌, ◌++◌, drop}
use Rattle.haft_run.specs.Report.{upset_lines}
use Rattle.haft_run.proofs.printing.push_upsets.Given as goal

abbrev pub invariant-loop-before : goal.invariant-loop-before
invariant-loop-before l = l.text.items ++ upset_lines l.before (drop l.before l.records) ≡ l.fn.text.items ++ upset_lines 0 l.records
