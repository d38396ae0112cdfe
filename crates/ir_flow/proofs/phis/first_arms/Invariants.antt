use Rattle.ir_flow.specs.Phis.{ArmsKnown}
use Rattle.ir_flow.proofs.phis.first_arms.Given as goal

abbrev pub invariant-loop-place : goal.invariant-loop-place
invariant-loop-place l = ArmsKnown l.blocks l.preds l.arms l.place l.places
