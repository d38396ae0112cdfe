use Rattle.std.proofs.Common.{◌∙◌, ap, sym}
use Rattle.upset_model.specs.Guards.{guard_of, checked_by}
use Rattle.upset_model.proofs.GuardLaws.{guarded-last}
use Rattle.upset_model.proofs.labels.LabelIndex.is_edge_checked.Goals as goal

pub returns-in-Some : goal.returns-in-Some
returns-in-Some c =
    c.both_check.ensures
    ∙ ap (checked_by c.args.blocks.now c.args.block.now.label) (sym c.in-Some.is ∙ c.guard_of.ensures ∙ ap guard_of c.items.ensures)
    ∙ sym (guarded-last c.args.blocks.now c.args.block.now.label c.args.block.now.list)

pub returns-in-None : goal.returns-in-None
returns-in-None c =
    ap (checked_by c.args.blocks.now c.args.block.now.label) (sym c.in-None.is ∙ c.guard_of.ensures ∙ ap guard_of c.items.ensures)
    ∙ sym (guarded-last c.args.blocks.now c.args.block.now.label c.args.block.now.list)
