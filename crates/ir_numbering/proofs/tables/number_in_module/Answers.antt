use Rattle.std.proofs.Common.{refl}
use Rattle.ir_numbering.specs.Numbers.{with_names}
use Rattle.ir_numbering.proofs.TakenNames.{module_with-next, module_room}
use Rattle.ir_numbering.proofs.tables.number_in_module.Goals as goal

pub loop-place-init : goal.loop-place-init
unfolding with_names
loop-place-init c = refl

pub take_in_module-requires : goal.take_in_module-requires
take_in_module-requires c = module_room _ _ _ c.loop-place-test.true _ _ c.loop-place.invariant c.requires

pub loop-place-preserved : goal.loop-place-preserved
loop-place-preserved c = module_with-next _ _ _ _ c.loop-place-test.true _ _ _ c.loop-place.invariant c.in_ok-take_in_module.ensures.ok
