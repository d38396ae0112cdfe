use Rattle.ir_check.specs.Flows.{Before, PhisFit, IsFirstUse}
use Rattle.ir_check.proofs.flows.check_flows.Given as goal

abbrev pub invariant-loop-n : goal.invariant-loop-n
invariant-loop-n l = record {
  phis : Before PhisFit l.m.funcs l.n;
  first : IsFirstUse l.m.funcs l.n l.first;
}
