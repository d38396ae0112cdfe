use Rattle.std.proofs.Common.{◌≡◌, ◌++◌, length}
use Rattle.std.specs.List.{AllByRecursion}
use Rattle.sched_file.specs.Events.{events_of, HasThread}
use Rattle.sched_file.specs.Pending.{turns_left, IsReady}
use Rattle.sched_file.proofs.drawing.draw_event.Given as goal

-- the events that are left stay the same until one is drawn
abbrev pub invariant-lines : goal.invariant-lines
invariant-lines l = record {
  ready : IsReady l.pending;
  threads : AllByRecursion HasThread l.lines;
  same : turns_left l.pending ++ events_of l.lines ≡ turns_left l.fn.pending ++ events_of l.fn.lines;
}

abbrev pub decreases-lines : goal.decreases-lines
decreases-lines l = length l.lines
