use Rattle.std.proofs.Common.{refl}
use Rattle.ir_numbering.specs.Numbers.{with_names}
use Rattle.ir_numbering.proofs.TakenNames.{func_with-next, func_room}
use Rattle.ir_numbering.proofs.tables.number_in_func.Goals as goal

pub loop-place-init : goal.loop-place-init
unfolding with_names
loop-place-init c = refl

pub take_in_func-requires : goal.take_in_func-requires
take_in_func-requires c = func_room _ _ _ c.loop-place-test.true _ _ c.loop-place.invariant c.requires

pub loop-place-preserved : goal.loop-place-preserved
loop-place-preserved c = func_with-next _ _ _ _ c.loop-place-test.true _ _ _ c.loop-place.invariant c.in_ok-take_in_func.ensures.ok
