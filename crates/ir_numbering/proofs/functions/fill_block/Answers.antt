use Rattle.ir_numbering.specs.Numbers.{renaming_of}
use Rattle.ir_numbering.specs.Renaming.{renamed_loc}
use Rattle.ir_numbering.proofs.Adding.{next_of_insts}
use Rattle.ir_numbering.proofs.functions.fill_block.Goals as goal

pub loop-inst-preserved : goal.loop-inst-preserved
loop-inst-preserved c =
    let r = renaming_of c.args.text.now c.args.m.now c.args.f.now in
    next_of_insts c.args.text.now c.args.m.now c.args.f.now (renamed_loc r c.args.block.now.label) c.items-inst-items.result.now _ _ c.loop-inst.inst-index c.inst-item.result _ c.loop-inst-test.true c.inst-item.is c.in_ok-inst.ensures c.loop-inst.invariant c.in_ok-add_inst.ensures.ok
