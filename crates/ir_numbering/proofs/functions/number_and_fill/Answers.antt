use Rattle.ir_numbering.proofs.Adding.{filled_func}
use Rattle.ir_numbering.proofs.functions.number_and_fill.Goals as goal

pub returns : goal.returns
returns c =
    filled_func c.args.text.now c.args.m.now c.args.tree.now c.args.places.now _ _ c.args.f.now _ _ _ c.params.ensures c.blocks-2.ensures c.in_ok-number_in_func.ensures.ok c.in_ok-fill_params.ensures c.in_ok-fill_blocks.ensures
