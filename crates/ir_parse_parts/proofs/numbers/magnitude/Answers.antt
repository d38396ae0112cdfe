use Rattle.std.proofs.Common.{◌∙◌}
use Rattle.ir_parse_parts.proofs.Digits.{digits_of}
use Rattle.ir_parse_parts.proofs.numbers.magnitude.Goals as goal

pub returns : goal.returns
returns c = c.read_digits.ensures ∙ digits_of c.args.digits.now
