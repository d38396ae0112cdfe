use Rattle.ir_flow.specs.Searches.{HasTargets}
use Rattle.std.proofs.Common.{[]}
use Rattle.ir_flow.proofs.targets.no_targets.Given as goal

abbrev pub invariant-loop-block : goal.invariant-loop-block
invariant-loop-block l = HasTargets [] l._block l.table.items
