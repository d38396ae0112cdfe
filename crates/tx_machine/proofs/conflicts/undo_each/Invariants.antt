use Rattle.std.proofs.Common.{◌≡◌, ◌≤◌, length, vec_capacity}
use Rattle.rtm_core.specs.Calls.{AreThreads}
use Rattle.tx_machine.specs.Undone.{own_all, watches_all}
use Rattle.tx_machine.proofs.conflicts.undo_each.Given as goal

abbrev pub invariant-loop-tid : goal.invariant-loop-tid
invariant-loop-tid l = record {
  below : AreThreads l.aborted.items;
  own : own_all l.aborted.items l.workers.items ≡ own_all l.initial.aborted.items l.initial.workers.items;
  watches : watches_all l.aborted.items l.elision ≡ watches_all l.initial.aborted.items l.initial.elision;
  count : length l.workers.items ≡ length l.initial.workers.items;
  kept : vec_capacity l.initial.aborted ≤ vec_capacity l.aborted;
}

abbrev pub decreases-loop-tid : goal.decreases-loop-tid
decreases-loop-tid l = length l.aborted.items
