use Rattle.ir_numbering.proofs.Results.{on_err}
use Rattle.ir_numbering.proofs.TakenNames.{ModuleFront-all}
use Rattle.ir_numbering.proofs.numbering.numbered_outside.Goals as goal

pub returns-clause-err : goal.returns-clause-err
returns-clause-err g c = on_err c.renamed_outside.result (ModuleFront-all _ _ _ _ c.in_ok-add_outer_names.ensures.in_module)
