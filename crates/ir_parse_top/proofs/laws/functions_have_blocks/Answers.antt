use Rattle.ir_parse_top.proofs.BlockLaws.{functions_have_blocks}
use Rattle.ir_parse_top.proofs.laws.functions_have_blocks.Goals as goal

pub returns : goal.returns
returns c = functions_have_blocks
