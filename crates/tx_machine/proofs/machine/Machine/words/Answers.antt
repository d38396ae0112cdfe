use Rattle.std.proofs.Common.{◌∙◌, ap}
use Rattle.tx_machine.specs.Machined.{Machined, words_at}
use Rattle.tx_machine.proofs.Machined.{words-shown}
use Rattle.tx_machine.proofs.machine.Machine.words.Goals as goal

pub returns : goal.returns
returns c =
    c.words.ensures ∙ words-shown c.self.inside.core c.self.invariant.0 c.self.inside.upsets c.args.t.0
    ∙ ap (λ (m : Machined). words_at m.state c.args.t.0) c.self.view_is
