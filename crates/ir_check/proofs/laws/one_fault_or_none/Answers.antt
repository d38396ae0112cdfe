use Rattle.ir_check.proofs.OneFault.{one_fault, fault_excludes}
use Rattle.ir_check.proofs.laws.one_fault_or_none.Goals as goal

pub returns-clause-one : goal.returns-clause-one
returns-clause-one c = one_fault

pub returns-clause-none : goal.returns-clause-none
returns-clause-none c = fault_excludes
