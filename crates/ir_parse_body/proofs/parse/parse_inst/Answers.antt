use Rattle.ir_numbering.proofs.Results.{on_err}
use Rattle.ir_parse_body.specs.Instruction.{Named}
use Rattle.ir_parse_body.proofs.parse.parse_inst.Goals as goal

pub returns-in_err-inst-clause-err : goal.returns-in_err-inst-clause-err
returns-in_err-inst-clause-err c = on_err c.from_residual-in_err-inst.result (Named c.in_ok-tree.tree c.in_ok-tree.ensures.inst c.in_err-inst.ensures.err)
