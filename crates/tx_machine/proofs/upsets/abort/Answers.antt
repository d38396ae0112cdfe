use Rattle.std.proofs.Common.{◌∙◌, ◌<◌, ◌≤◌, length, ap, sym, subst, arith}
use Rattle.tx_machine.specs.Core.{CoreParts}
use Rattle.tx_machine.specs.Meant.{state_of, IsTied}
use Rattle.tx_machine.proofs.MeantUpsets.{asked-meant, asked-tied, asked-nowhere}
use Rattle.tx_machine.proofs.upsets.abort.Goals as goal

pub returns-then-t-len-clause-state : goal.returns-then-t-len-clause-state
returns-then-t-len-clause-state c ups =
    let less : c.args.t.0 < length c.args.core.now.own = omega (arith, c.if-t-len.true, ap (λ (p : CoreParts). length p.own) c.core.view_is) in
    ap (λ (p : CoreParts). state_of p ups) c.abort.ensures.parts ∙ asked-meant c.args.core.now c.args.t.0 c.requires less ups

pub returns-then-t-len-clause-tied : goal.returns-then-t-len-clause-tied
returns-then-t-len-clause-tied c =
    let less : c.args.t.0 < length c.args.core.now.own = omega (arith, c.if-t-len.true, ap (λ (p : CoreParts). length p.own) c.core.view_is) in
    subst IsTied (sym c.abort.ensures.parts) (asked-tied c.args.core.now c.args.t.0 c.requires less)

pub returns-else-t-len-clause-state : goal.returns-else-t-len-clause-state
returns-else-t-len-clause-state c ups =
    let past : length c.args.core.now.own ≤ c.args.t.0 = omega (arith, c.if-t-len.false, ap (λ (p : CoreParts). length p.own) c.core.view_is) in
    asked-nowhere c.args.core.now c.args.t.0 past ups
