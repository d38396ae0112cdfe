use Rattle.std.proofs.Common.{◌≡◌, drop}
use Rattle.inst_meaning.specs.Phis.{arm_from}
use Rattle.upset_model.proofs.edges.arm_from.Given as goal

abbrev pub invariant-loop-value : goal.invariant-loop-value
invariant-loop-value l = arm_from l.label (drop l.value-index l.arms) ≡ arm_from l.label l.fn.arms
