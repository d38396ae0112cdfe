use Rattle.std.proofs.Common.{◌∙◌, ap}
use Rattle.ir_core.specs.Names.{number_of}
use Rattle.tx_machine.proofs.StruckFrames.{named-is}
use Rattle.tx_machine.proofs.strikes.named_in.Goals as goal

pub returns : goal.returns
returns c = c.find_loc.ensures.number ∙ ap (number_of c.args.f.now.names) c.bytes.ensures ∙ named-is c.args.f.now c.args.name.now
