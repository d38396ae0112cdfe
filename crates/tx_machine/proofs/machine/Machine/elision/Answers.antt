use Rattle.std.proofs.Common.{◌∙◌, List, ap}
use Rattle.elide.specs.Watches.{WatchParts, watch_of}
use Rattle.tx_machine.specs.Machined.{Machined, watched_at}
use Rattle.tx_machine.proofs.Machined.{watched-shown}
use Rattle.tx_machine.proofs.machine.Machine.elision.Goals as goal

pub returns : goal.returns
returns c t watch is =
    ap (λ (ks : List WatchParts). watch_of ks t) c.elision.ensures
    ∙ watched-shown c.self.inside.core c.self.invariant.0 c.self.inside.upsets t watch (ap (λ (m : Machined). watched_at m.state t) c.self.view_is ∙ is)
