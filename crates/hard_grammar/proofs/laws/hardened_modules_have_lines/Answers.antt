use Rattle.hard_grammar.proofs.Modules.{flow_has_lines, check_has_lines, relax_has_lines, place_has_lines, harden_has_lines}
use Rattle.hard_grammar.proofs.laws.hardened_modules_have_lines.Goals as goal

pub returns-clause-flow : goal.returns-clause-flow
returns-clause-flow c = flow_has_lines

pub returns-clause-checks : goal.returns-clause-checks
returns-clause-checks c = check_has_lines

pub returns-clause-relax : goal.returns-clause-relax
returns-clause-relax c = relax_has_lines

pub returns-clause-place : goal.returns-clause-place
returns-clause-place c = place_has_lines

pub returns-clause-whole : goal.returns-clause-whole
returns-clause-whole c = harden_has_lines
