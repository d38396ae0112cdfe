use Rattle.std.proofs.Common.{◌≡◌, drop}
use Rattle.upset_model.specs.Guards.{target}
use Rattle.upset_model.proofs.edges.find.Given as goal

abbrev pub invariant-loop-block : goal.invariant-loop-block
invariant-loop-block l = target (drop l.block-index l.blocks) l.label.0 ≡ target l.fn.blocks l.label.0
