use Rattle.std.proofs.Common.{ap, sym, ◌∙◌, subst}
use Rattle.std.proofs.lemmas.Result.{IfOk-weaker}
use Rattle.hard_ir.specs.Hardened.{HardParts}
use Rattle.hard_ir.specs.Images.{IsLooseImage}
use Rattle.sched_file.specs.Events.{events_of}
use Rattle.hard_meaning.specs.Runs.{run_on}
use Rattle.haft_run.proofs.Images.{hardened-is-loose}
use Rattle.haft_run.proofs.runs.run.Goals as goal

pub returns-clause-exact : goal.returns-clause-exact
returns-clause-exact c =
    IfOk-weaker c.run_hardened.result _ _ (λ r e. e ∙ ap (λ (h : HardParts). run_on h c.args.s.now.args (events_of c.args.s.now.lines)) c.in_ok-hardened.ensures) c.run_hardened.ensures.exact

pub returns-clause-meaning : goal.returns-clause-meaning
returns-clause-meaning c =
    c.run_hardened.ensures.meaning c.args.a.now c.module.ensures.accepted
    (subst (λ (h : HardParts). IsLooseImage c.args.a.now h) (sym c.in_ok-hardened.ensures) (hardened-is-loose c.args.a.now))

pub returns-clause-never_fails : goal.returns-clause-never_fails
returns-clause-never_fails c =
    c.run_hardened.ensures.never_fails c.args.a.now c.module.ensures.accepted
    (subst (λ (h : HardParts). IsLooseImage c.args.a.now h) (sym c.in_ok-hardened.ensures) (hardened-is-loose c.args.a.now))

pub returns-clause-without_upsets : goal.returns-clause-without_upsets
returns-clause-without_upsets c =
    c.run_hardened.ensures.without_upsets c.args.a.now c.module.ensures.accepted
    (subst (λ (h : HardParts). IsLooseImage c.args.a.now h) (sym c.in_ok-hardened.ensures) (hardened-is-loose c.args.a.now))
