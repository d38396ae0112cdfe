use Rattle.ir_parse_top.proofs.CountLaws.{modules_within, modules_small}
use Rattle.ir_parse_top.proofs.laws.module_is_small.Goals as goal

pub returns-clause-bytes : goal.returns-clause-bytes
returns-clause-bytes c = modules_within

pub returns-clause-limit : goal.returns-clause-limit
returns-clause-limit c = modules_small
