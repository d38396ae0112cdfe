use Rattle.std.proofs.Common.{◌≡◌, drop}
use Rattle.std.specs.List.{list_any}
use Rattle.tx_machine.specs.Log.{struck_at}
use Rattle.tx_machine.proofs.upsets.some_struck.Given as goal

abbrev pub invariant-loop-number : goal.invariant-loop-number
invariant-loop-number l = list_any (struck_at l.log) (drop l.number-index l.numbers) ≡ list_any (struck_at l.log) l.numbers
