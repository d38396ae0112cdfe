use Rattle.std.proofs.Common.{◌≡◌, ℕ, drop}
use Rattle.ir_flow.specs.Phis.{AllFitting, FirstMismatch, phis_from, phis_of}
use Rattle.ir_flow.proofs.flow.check_phis.Given as goal

abbrev pub invariant-loop-each : goal.invariant-loop-each
invariant-loop-each l = record {
  place : l.block ≡ l.each-index;
  all : AllFitting l.f (phis_from l.each-index (drop l.each-index l.each-items)) → AllFitting l.f (phis_of l.f);
  first : (b i : ℕ) → FirstMismatch l.f (phis_from l.each-index (drop l.each-index l.each-items)) b i → FirstMismatch l.f (phis_of l.f) b i;
}
