use Rattle.std.proofs.Common.{◌∙◌, List, ap}
use Rattle.hard_meaning.specs.State.{Upset}
use Rattle.tx_machine.specs.Core.{CoreParts}
use Rattle.tx_machine.specs.Meant.{state_of, IsTied}
use Rattle.tx_machine.specs.Upsets.{core_upset}
use Rattle.tx_machine.proofs.Outcomes.{both-ok, either-way}
use Rattle.tx_machine.proofs.MeantUpsets.{upset-meant, upset-tied}
use Rattle.tx_machine.proofs.upsets.upset.Goals as goal

pub returns-clause-ok : goal.returns-clause-ok
returns-clause-ok c =
    both-ok c.upset.result
    (λ e f. ap (λ (p : CoreParts). state_of p c.upset.new.log) e ∙ ap (λ (ups : List Upset). state_of (core_upset c.args.upset.now c.args.log.now c.args.core.now) ups) f
    ∙ upset-meant c.args.upset.now c.args.log.now c.args.core.now c.requires.tied)
    c.upset.ensures.core c.upset.ensures.log

pub returns-clause-tied : goal.returns-clause-tied
returns-clause-tied c =
    either-way c.upset.result IsTied c.args.core.now (core_upset c.args.upset.now c.args.log.now c.args.core.now) c.upset.new.self
    c.upset.ensures.core c.upset.ensures.core_err c.requires.tied (upset-tied c.args.upset.now c.args.log.now c.args.core.now c.requires.tied)
