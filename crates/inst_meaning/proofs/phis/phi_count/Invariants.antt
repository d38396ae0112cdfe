-- all so far are phis, and those that are left give the rest of the count
use Rattle.std.proofs.Common.{◌≡◌, ◌+◌, drop}
use Rattle.inst_meaning.specs.Phis.{phi_count}
use Rattle.inst_meaning.proofs.phis.phi_count.Given as goal

abbrev pub invariant-loop-inst : goal.invariant-loop-inst
invariant-loop-inst l = (l.count ≡ l.inst-index) × (l.count + phi_count (drop l.inst-index l.body) ≡ phi_count l.body)
