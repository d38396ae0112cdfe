use Rattle.std.proofs.Common.{◌∙◌}
use Rattle.ir_numbering.proofs.Results.{on_err}
use Rattle.ir_numbering.proofs.TakenNames.{HasFront-none, HasFront-outer}
use Rattle.ir_numbering.proofs.numbering.add_names.Goals as goal

pub returns-in_err-places-clause-err : goal.returns-in_err-places-clause-err
returns-in_err-places-clause-err g c = on_err c.from_residual.result (HasFront-none _ _ _ _)

pub returns-then-not-has_room-clause-err : goal.returns-then-not-has_room-clause-err
returns-then-not-has_room-clause-err g c = HasFront-none _ _ _ _

pub returns-in_err-number_in_module-clause-err : goal.returns-in_err-number_in_module-clause-err
returns-in_err-number_in_module-clause-err g c =
    on_err c.from_residual-in_err-number_in_module.result (HasFront-outer _ _ _ _ _ _ (c.items-places.ensures ∙ c.in_ok-places.ensures) c.in_err-number_in_module.ensures.err)
