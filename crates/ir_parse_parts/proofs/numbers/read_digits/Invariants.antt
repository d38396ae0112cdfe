use Rattle.std.proofs.Common.{◌≡◌, drop}
use Rattle.ir_parse_parts.specs.Numbers.{digits_from}
use Rattle.ir_parse_parts.proofs.numbers.read_digits.Given as goal

abbrev pub invariant-loop-digit : goal.invariant-loop-digit
invariant-loop-digit l = digits_from l.number (drop l.digit-index l.digits) ≡ digits_from 0 l.digits
