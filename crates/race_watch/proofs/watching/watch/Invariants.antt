use Rattle.std.proofs.Common.{◌≡◌, ◌+◌, ◌≤◌, length}
use Rattle.sched_file.specs.Events.{events_of}
use Rattle.race_watch.specs.Watching.{watched, turns_in}
use Rattle.race_watch.specs.Watchers.{IsKept, outcome_on}
use Rattle.race_watch.proofs.watching.watch.Given as goal

-- the watch so far, on the turns that are left, comes to the watch of all; each turn comes from an event
abbrev pub invariant-events : goal.invariant-events
invariant-events l = record {
  same : outcome_on l.watcher (turns_in l.cursor) ≡ watched l.m l.s.args (turns_in (events_of l.s.lines));
  kept : IsKept l.watcher;
  passed : l.watcher.passed + length l.cursor ≤ 4194304;
  log : length l.watcher.log + length l.cursor ≤ 4194304;
}

abbrev pub decreases-events : goal.decreases-events
decreases-events l = length l.cursor
