use Rattle.std.proofs.Common.{◌∙◌, List, map, ap}
use Rattle.std.specs.Prelude.{nat_lt}
use Rattle.std.specs.List.{list_any}
use Rattle.hard_meaning.specs.State.{Upset}
use Rattle.tx_machine.specs.Log.{came, is_firm}
use Rattle.tx_machine.proofs.Logs.{some-firm}
use Rattle.tx_machine.proofs.records.UpsetLog.some_firm.Goals as goal

pub returns : goal.returns
returns c =
    ap (nat_lt 0) c.self.invariant.0 ∙ some-firm (map came c.self.inside.records.items)
    ∙ ap (λ (us : List Upset). list_any is_firm us) c.self.view_is
