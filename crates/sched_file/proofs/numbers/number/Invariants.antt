use Rattle.std.proofs.Common.{◌≡◌, drop}
use Rattle.sched_file.specs.Reading.{number_from, number_in}
use Rattle.sched_file.proofs.numbers.number.Given as goal

abbrev pub invariant-loop-digit : goal.invariant-loop-digit
invariant-loop-digit l = number_from l.number (drop l.digit-index l.field) ≡ number_in l.field
