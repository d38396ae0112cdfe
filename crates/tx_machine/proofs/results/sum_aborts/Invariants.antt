use Rattle.std.proofs.Common.{◌≡◌, ◌≤◌, ◌*◌, ◌^◌, drop}
use Rattle.hard_meaning.specs.Runs.{added}
use Rattle.tx_machine.specs.Upsets.{own_aborts}
use Rattle.tx_machine.proofs.results.sum_aborts.Given as goal

abbrev pub invariant-loop-worker : goal.invariant-loop-worker
invariant-loop-worker l = record {
  sum : added l.sum (own_aborts (drop l.worker-index l.workers)) ≡ own_aborts l.workers;
  explicit : l.sum.explicit ≤ l.worker-index * 2 ^ 56;
  conflict : l.sum.conflict ≤ l.worker-index * 2 ^ 56;
  overflow : l.sum.overflow ≤ l.worker-index * 2 ^ 56;
  other : l.sum.other ≤ l.worker-index * 2 ^ 56;
}
