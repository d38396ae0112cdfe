use Rattle.std.proofs.Common.{◌≡◌, drop}
use Rattle.ir_types.specs.Types.{enter, indices_fit}
use Rattle.ir_types.proofs.forms.indices_fit.Given as goal

abbrev pub invariant-loop-index : goal.invariant-loop-index
invariant-loop-index l = enter l.layout.types l.at (drop l.index-index l.further) ≡ indices_fit l.layout.types l.base l.indices
