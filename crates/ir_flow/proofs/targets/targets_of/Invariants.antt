use Rattle.ir_flow.specs.Searches.{HasTargets}
use Rattle.std.proofs.Common.{take}
use Rattle.ir_flow.proofs.targets.targets_of.Given as goal

abbrev pub invariant-loop-from : goal.invariant-loop-from
invariant-loop-from l = HasTargets (take l.from-index l.pairs) l.blocks l.table.items
