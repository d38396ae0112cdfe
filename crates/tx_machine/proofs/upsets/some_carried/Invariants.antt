use Rattle.std.proofs.Common.{◌≡◌, drop}
use Rattle.std.specs.List.{list_any}
use Rattle.tx_machine.specs.Log.{struck_at}
use Rattle.tx_machine.specs.Upsets.{all_carried}
use Rattle.tx_machine.proofs.upsets.some_carried.Given as goal

abbrev pub invariant-loop-worker : goal.invariant-loop-worker
invariant-loop-worker l = list_any (struck_at l.log) (all_carried (drop l.worker-index l.workers)) ≡ list_any (struck_at l.log) (all_carried l.workers)
