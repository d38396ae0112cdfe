use Rattle.std.proofs.Common.{List, subst}
use Rattle.std.proofs.lemmas.List.{take_all}
use Rattle.ir_lines.specs.declared.site.Site.{Site}
use Rattle.ir_lines.specs.declared.site.Named.{Named}
use Rattle.ir_names.specs.Sets.{HasNamesOf}
use Rattle.ir_names.proofs.Again.{past, set-more}
use Rattle.ir_names.proofs.mentions.names_of.Goals as goal

pub loop-name-preserved : goal.loop-name-preserved
loop-name-preserved c = set-more c.args.definitions.now c.loop-name.name-index past c.loop-name.set c.insert.new.self c.loop-name-test.true c.in_ok-insert.ensures.added c.loop-name.invariant

pub returns : goal.returns
returns c = subst (λ (defs : List (Site × Named)). HasNamesOf defs c.loop-name.set) (take_all c.loop-name.name-index c.args.definitions.now c.loop-name-test.false) c.loop-name.invariant
