use Rattle.std.proofs.Common.{◌≡◌, drop}
use Rattle.tx_machine.specs.Log.{hit_all}
use Rattle.tx_machine.specs.Upsets.{all_carried}
use Rattle.tx_machine.proofs.results.hit_carried.Given as goal

abbrev pub invariant-loop-worker : goal.invariant-loop-worker
invariant-loop-worker l = hit_all (all_carried (drop l.worker-index l.workers)) l.records.items ≡ hit_all (all_carried l.workers) l.initial.records.items
