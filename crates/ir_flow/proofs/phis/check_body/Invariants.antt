use Rattle.std.proofs.Common.{◌≡◌, ℕ, drop}
use Rattle.ir_flow.specs.Phis.{AllFitting, FirstMismatch, phis_of_body}
use Rattle.ir_flow.proofs.phis.check_body.Given as goal

abbrev pub invariant-loop-inst : goal.invariant-loop-inst
invariant-loop-inst l = record {
  place : l.number ≡ l.inst-index;
  all : AllFitting l.f (phis_of_body l.block l.inst-index (drop l.inst-index l.body)) → AllFitting l.f (phis_of_body l.block 0 l.body);
  first : (b i : ℕ) → FirstMismatch l.f (phis_of_body l.block l.inst-index (drop l.inst-index l.body)) b i → FirstMismatch l.f (phis_of_body l.block 0 l.body) b i;
}
