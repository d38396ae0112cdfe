use Rattle.std.proofs.Common.{◌≡◌, drop}
use Rattle.upset_model.specs.Windows.{used_next}
use Rattle.upset_model.proofs.windows.is_used_next.Given as goal

abbrev pub invariant-loop-inst : goal.invariant-loop-inst
invariant-loop-inst l = used_next l.inside l.checked l.r (drop l.inst-index l.code) ≡ used_next l.inside l.checked l.r l.fn.code
