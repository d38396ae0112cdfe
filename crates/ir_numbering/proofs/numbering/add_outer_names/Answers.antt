use Rattle.ir_numbering.proofs.Results.{on_err}
use Rattle.ir_numbering.proofs.TakenNames.{ModuleFront-none}
use Rattle.ir_numbering.proofs.numbering.add_outer_names.Goals as goal

pub returns-in_err-places-clause-err : goal.returns-in_err-places-clause-err
returns-in_err-places-clause-err g c = on_err c.from_residual.result (ModuleFront-none _ _ _)

pub returns-then-not-has_room-clause-err : goal.returns-then-not-has_room-clause-err
returns-then-not-has_room-clause-err g c = ModuleFront-none _ _ _
