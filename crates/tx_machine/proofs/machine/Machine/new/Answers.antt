use Rattle.std.proofs.Common.{◌∙◌, ap, sym, subst}
use Rattle.upset_model.specs.Table.{in_window_at}
use Rattle.tx_machine.specs.Core.{CoreParts}
use Rattle.tx_machine.specs.Meant.{IsTied}
use Rattle.tx_machine.proofs.MeantOpening.{opening-tied}
use Rattle.tx_machine.proofs.machine.Machine.new.Goals as goal

pub invariant_of-result : goal.invariant_of-result
invariant_of-result c = (
  subst IsTied (sym c.in_ok-core.ensures) (opening-tied c.args.h.now c.args.args.now),
  λ func block q r inside. c.in_ok-windows.ensures func block q r inside
      ∙ ap (λ (p : CoreParts). in_window_at p.program func block q r inside) (sym c.in_ok-core.ensures),
)
