use Rattle.std.proofs.Common.{◌∙◌, ap, is_some}
use Rattle.line_sets.proofs.Chains.{has-place}
use Rattle.line_sets.proofs.LineSet.has.Goals as goal

pub returns : goal.returns
returns g c = c.is_some.ensures ∙ ap is_some c.place.ensures ∙ has-place c.args.self.now c.args.line
