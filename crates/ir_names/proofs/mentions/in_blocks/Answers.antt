use Rattle.std.proofs.Common.{arith}
use Rattle.std.proofs.lemmas.Grind.{common_steps}
use Rattle.ir_names.specs.Sets.{has_name}
use Rattle.ir_names.proofs.Telling.{at-block}
use Rattle.ir_names.proofs.mentions.in_blocks.Goals as goal

pub returns-in-Some : goal.returns-in-Some
returns-in-Some c = let told = at-block (has_name c.args.known.now) c.args.n c.args.f.now c.loop-b.b c.args.blocks.now c.index-blocks-b.result c.loop-b-test.true c.index-blocks-b.is in grind (arith, common_steps, told)

pub loop-b-preserved : goal.loop-b-preserved
loop-b-preserved c = let told = at-block (has_name c.args.known.now) c.args.n c.args.f.now c.loop-b.b c.args.blocks.now c.index-blocks-b.result c.loop-b-test.true c.index-blocks-b.is in grind (arith, common_steps, told)
