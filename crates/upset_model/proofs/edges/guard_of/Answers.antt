use Rattle.std.proofs.Common.{◌∙◌, ◌-◌, length, ap, sym, arith}
use Rattle.upset_model.specs.Guards.{guard_in}
use Rattle.upset_model.proofs.GuardLaws.{last-guard}
use Rattle.upset_model.proofs.edges.guard_of.Goals as goal

pub returns : goal.returns
returns c =
    c.guard_in.ensures ∙ ap guard_in c.index-list-count.is
    ∙ sym (last-guard c.args.list.now (length c.args.list.now - 1) c.index-list-count.result (omega (arith, c.if-count-eq0.false)))
