use Rattle.std.proofs.Common.{◌∙◌, ap}
use Rattle.process.specs.declared.state.CallStack.{CallStack}
use Rattle.hard_frames.specs.declared.state.Frame.{Frame}
use Rattle.rtm_core.specs.Transactions.{RtmParts, thread}
use Rattle.tx_machine.specs.Machined.{Machined, open_at}
use Rattle.tx_machine.proofs.Machined.{open-shown}
use Rattle.tx_machine.proofs.machine.Machine.rtm.Goals as goal

pub returns-clause-open : goal.returns-clause-open
returns-clause-open c t =
    ap (λ (rtm : RtmParts (CallStack Frame)). thread rtm t) c.rtm.ensures
    ∙ open-shown c.self.inside.core c.self.invariant.0 c.self.inside.upsets t
    ∙ ap (λ (m : Machined). open_at m.state t) c.self.view_is
