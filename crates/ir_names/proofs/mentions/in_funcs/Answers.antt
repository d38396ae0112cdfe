use Rattle.std.proofs.Common.{arith}
use Rattle.std.proofs.lemmas.Grind.{common_steps}
use Rattle.ir_names.specs.Sets.{has_name}
use Rattle.ir_names.proofs.Telling.{at-func}
use Rattle.ir_names.proofs.mentions.in_funcs.Goals as goal

pub returns-in-Some : goal.returns-in-Some
returns-in-Some c = let told = at-func (has_name c.args.known.now) c.loop-n.n c.args.funcs.now c.index-funcs-n.result c.loop-n-test.true c.index-funcs-n.is in grind (arith, common_steps, told)

pub loop-n-preserved : goal.loop-n-preserved
loop-n-preserved c = let told = at-func (has_name c.args.known.now) c.loop-n.n c.args.funcs.now c.index-funcs-n.result c.loop-n-test.true c.index-funcs-n.is in grind (arith, common_steps, told)
