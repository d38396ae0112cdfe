use Rattle.ir_core.proofs.Keys.{number_given-insert, numbered-insert}
use Rattle.ir_core.proofs.tables.Names.number.Goals as goal

pub returns-clause-number : goal.returns-clause-number
returns-clause-number c =
    number_given-insert (λ key. key.items) c.self.inside.set.keys _ c.args.name.now c.self.view_is c.in_ok-key.key c.in_ok-key.ensures.items _ c.in_ok-at.ensures.index

pub returns-clause-ok : goal.returns-clause-ok
returns-clause-ok c =
    numbered-insert (λ key. key.items) c.self.inside.set.keys _ c.args.name.now c.self.view_is c.in_ok-key.key c.in_ok-key.ensures.items _ c.in_ok-at.ensures.keys
