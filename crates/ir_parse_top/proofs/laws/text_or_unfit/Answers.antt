use Rattle.ir_parse_top.proofs.TextLaws.{texts_decided}
use Rattle.ir_parse_top.proofs.laws.text_or_unfit.Goals as goal

pub returns : goal.returns
returns c = texts_decided
