use Rattle.std.proofs.Common.{arith}
use Rattle.std.proofs.lemmas.Grind.{common_steps}
use Rattle.tx_machine.proofs.Logs.{hit-both}
use Rattle.tx_machine.proofs.results.hit_carried.Goals as goal

pub loop-worker-preserved : goal.loop-worker-preserved
loop-worker-preserved c = grind (arith, common_steps, hit-both)
