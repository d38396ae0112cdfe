use Rattle.ir_check.proofs.Chains.{flow-refuses}
use Rattle.ir_check.proofs.accepted.checked.Goals as goal

pub returns-in-Err-clause-fault : goal.returns-in-Err-clause-fault
returns-in-Err-clause-fault c = flow-refuses c.args.m.now c.in-Err.error c.in_ok-layout.ensures.ok c.in-Err.ensures.fault
