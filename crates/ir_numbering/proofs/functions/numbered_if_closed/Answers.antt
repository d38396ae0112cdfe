use Rattle.std.proofs.Common.{sym, ◌∙◌}
use Rattle.ir_numbering.proofs.Closed.{closed-is}
use Rattle.ir_numbering.proofs.functions.numbered_if_closed.Goals as goal

pub returns-in-Ok-true : goal.returns-in-Ok-true
returns-in-Ok-true c =
    closed-is c.args.text.now c.args.m.now c.args.tree.now c.items.result.now _ (c.items.ensures ∙ c.in_ok-places.ensures) c.in_ok-f.ensures (sym c.in-Ok-true.ensures ∙ c.in-Ok-true.field-0-test)
