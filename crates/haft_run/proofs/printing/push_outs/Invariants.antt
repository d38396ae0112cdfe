-- the lines so far and those of the rest are the lines of all
use Rattle.std.proofs.Common.{◌≡◌, ◌++◌, drop}
use Rattle.std.specs.List.{flat_map}
use Rattle.haft_run.specs.Report.{out_line}
use Rattle.haft_run.proofs.printing.push_outs.Given as goal

abbrev pub invariant-loop-out : goal.invariant-loop-out
invariant-loop-out l = l.text.items ++ flat_map out_line (drop l.out-index l.outs) ≡ l.fn.text.items ++ flat_map out_line l.outs
