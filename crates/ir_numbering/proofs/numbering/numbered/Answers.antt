use Rattle.ir_numbering.proofs.Results.{on_err}
use Rattle.ir_numbering.proofs.TakenNames.{HasFront-all}
use Rattle.ir_numbering.proofs.numbering.numbered.Goals as goal

pub returns-clause-err : goal.returns-clause-err
returns-clause-err g c = on_err c.renamed_in.result (HasFront-all _ _ _ _ _ _ c.in_ok-add_names.ensures.in_module c.in_ok-add_names.ensures.in_func)
