use Rattle.std.proofs.Common.{◌≡◌, length}
use Rattle.sched_file.specs.Events.{events_of}
use Rattle.hard_meaning.specs.State.{opening}
use Rattle.hard_meaning.specs.Runs.{run_from}
use Rattle.haft_run.proofs.runs.run_hardened.Given as goal

-- the state so far, then the events that are left, is the run of all
abbrev pub invariant-events : goal.invariant-events
invariant-events l = record {
  program : l.machine.program ≡ l.h;
  same : run_from l.h l.machine.state l.cursor ≡ run_from l.h (opening l.h l.s.args) (events_of l.s.lines);
}

abbrev pub decreases-events : goal.decreases-events
decreases-events l = length l.cursor
