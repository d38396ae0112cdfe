use Rattle.std.proofs.Common.{ap, ◌∙◌}
use Rattle.ir_core.specs.Names.{numbered}
use Rattle.ir_core.proofs.Keys.{numbered-take}
use Rattle.ir_core.proofs.tables.NamesCopied.copy.Goals as goal

pub loop-at-preserved : goal.loop-at-preserved
loop-at-preserved c =
    let name = c.name.result.now in
    c.in_ok-number.ensures.ok ∙ ap (λ names. numbered names name) c.loop-at.invariant ∙ numbered-take c.args.self.now c.loop-at.at name c.count-at-end.ensures.distinct c.name.ensures
