use Rattle.std.proofs.Common.{◌≡◌, ◌++◌, drop}
use Rattle.sched_file.specs.Only.{only}
use Rattle.sched_file.proofs.one_upset.lines_with_upset.Given as goal

abbrev pub invariant-lines : goal.invariant-lines
invariant-lines l = l.kept ++ only l.left (drop l.line-index l.lines) ≡ only l.k l.lines
