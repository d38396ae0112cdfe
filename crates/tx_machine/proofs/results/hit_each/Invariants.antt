use Rattle.std.proofs.Common.{◌≡◌, drop}
use Rattle.tx_machine.specs.Log.{hit_all}
use Rattle.tx_machine.proofs.results.hit_each.Given as goal

abbrev pub invariant-loop-number : goal.invariant-loop-number
invariant-loop-number l = hit_all (drop l.number-index l.numbers) l.records.items ≡ hit_all l.numbers l.initial.records.items
