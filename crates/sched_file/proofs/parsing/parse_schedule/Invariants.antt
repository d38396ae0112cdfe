use Rattle.std.proofs.Common.{◌≡◌, ◌+◌, ◌≤◌, ℕ, List, ◌++◌, length}
use Rattle.ir_core.specs.Lines.{lines_of}
use Rattle.sched_file.specs.Fields.{rows_of}
use Rattle.sched_file.proofs.Meanings.{Holds}
use Rattle.sched_file.proofs.parsing.parse_schedule.Given as goal

-- the draft is what the lines before the rest say
abbrev pub invariant-lines : goal.invariant-lines
invariant-lines l = record {
  done : List (List ℕ);
  parts : lines_of l.fn.bytes ≡ done ++ lines_of l.rest;
  count : l.number ≡ length done;
  room : l.number + length l.rest ≤ 4194304;
  holds : Holds (rows_of done) l.draft;
}

abbrev pub decreases-lines : goal.decreases-lines
decreases-lines l = length l.rest
