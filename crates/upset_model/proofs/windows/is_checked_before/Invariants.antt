use Rattle.std.proofs.Common.{◌≡◌, reverse, take}
use Rattle.upset_model.specs.Windows.{checked_before}
use Rattle.upset_model.proofs.windows.is_checked_before.Given as goal

abbrev pub invariant-loop-inst : goal.invariant-loop-inst
invariant-loop-inst l = l.checked ≡ checked_before l.inside l.r (reverse (take l.inst-index l.passed))
