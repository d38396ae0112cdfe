use Rattle.ir_numbering.specs.Numbers.{places_of_module}
use Rattle.ir_numbering.proofs.Adding.{filled}
use Rattle.ir_numbering.proofs.whole.fill_parts.Goals as goal

pub returns : goal.returns
returns c =
    filled c.args.text.now (places_of_module c.args.tree.now) c.args.tree.now _ _ _ _ c.args.m.now _ _ _ _ c.types.ensures c.globals.ensures c.declares.ensures c.funcs.ensures c.requires c.in_ok-fill_types.ensures c.in_ok-fill_globals.ensures c.in_ok-fill_declares.ensures c.in_ok-fill_funcs.ensures
