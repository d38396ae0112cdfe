use Rattle.std.proofs.Common.{◌∙◌}
use Rattle.ir_core.proofs.Keys.{number_of-keys}
use Rattle.ir_core.proofs.tables.Names.find.Goals as goal

pub returns-in_err-at-clause-number : goal.returns-in_err-at-clause-number
returns-in_err-at-clause-number c =
    c.from_residual.ensures ∙ number_of-keys (λ key. key.items) c.self.inside.set.keys _ c.args.name.now c.self.view_is _ c.in_err-at.ensures.index

pub returns-clause-number : goal.returns-clause-number
returns-clause-number c = number_of-keys (λ key. key.items) c.self.inside.set.keys _ c.args.name.now c.self.view_is _ c.in_ok-at.ensures.index
