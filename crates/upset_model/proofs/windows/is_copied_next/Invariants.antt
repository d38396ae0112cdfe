use Rattle.std.proofs.Common.{◌≡◌, drop}
use Rattle.upset_model.specs.Windows.{copied_next}
use Rattle.upset_model.proofs.windows.is_copied_next.Given as goal

abbrev pub invariant-loop-inst : goal.invariant-loop-inst
invariant-loop-inst l = copied_next l.r (drop l.inst-index l.code) ≡ copied_next l.r l.fn.code
