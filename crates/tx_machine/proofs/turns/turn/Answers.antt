use Rattle.std.proofs.Common.{◌≡◌, ◌∙◌, [], refl, ap}
use Rattle.tx_machine.specs.Core.{CoreParts}
use Rattle.tx_machine.specs.Meant.{state_of, IsTied}
use Rattle.tx_machine.specs.Turned.{core_turn}
use Rattle.tx_machine.proofs.MeantTurns.{turn-meant, turn-tied}
use Rattle.tx_machine.proofs.Outcomes.{one-ok, either-way}
use Rattle.tx_machine.proofs.Programs.{turn-program}
use Rattle.tx_machine.proofs.turns.turn.Goals as goal

pub returns-clause-ok : goal.returns-clause-ok
returns-clause-ok c =
    one-ok c.turn.result (λ e ups. ap (λ (p : CoreParts). state_of p ups) e ∙ turn-meant c.args.core.now c.args.t.0 ups c.requires.tied c.requires.going) c.turn.ensures.ok

pub returns-clause-tied : goal.returns-clause-tied
returns-clause-tied c =
    either-way c.turn.result IsTied c.args.core.now (core_turn c.args.t.0 c.args.core.now) c.turn.new.self
    c.turn.ensures.ok c.turn.ensures.err c.requires.tied (turn-tied c.args.core.now c.args.t.0 [] c.requires.tied)

pub returns-clause-program : goal.returns-clause-program
returns-clause-program c =
    either-way c.turn.result (λ (p : CoreParts). p.program ≡ c.args.core.now.program) c.args.core.now (core_turn c.args.t.0 c.args.core.now) c.turn.new.self
    c.turn.ensures.ok c.turn.ensures.err refl (turn-program c.args.t.0 c.args.core.now)
