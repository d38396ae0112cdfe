use Rattle.std.proofs.Common.{◌≡◌, ◌<◌, ℕ}
use Rattle.std.specs.Prelude.{Some, slice_get}
use Rattle.ir_flow.specs.Uses.{UseAssigned}
use Rattle.ir_flow.specs.declared.uses.Use.{Use}
use Rattle.ir_flow.proofs.flow.check_uses.Given as goal

abbrev pub invariant-loop-u : goal.invariant-loop-u
invariant-loop-u l = (k : ℕ) (other : Use) → k < l.u-index → slice_get l.u-items k ≡ Some other → UseAssigned l.f other
