use Rattle.ir_parse_top.proofs.NumeralLaws.{numerals_read, names_stay}
use Rattle.ir_parse_top.proofs.laws.numerals_are_names.Goals as goal

pub returns-clause-numerals : goal.returns-clause-numerals
returns-clause-numerals c = numerals_read

pub returns-clause-names : goal.returns-clause-names
returns-clause-names c = names_stay
