use Rattle.std.proofs.Common.{ap, ◌∙◌}
use Rattle.ir_core.specs.declared.types.Sym.{Sym}
use Rattle.ir_core.specs.declared.types.Ty.{Ty}
use Rattle.ir_numbering.specs.Renaming.{renamed_sym, renamed_ty}
use Rattle.ir_numbering.specs.Numbers.{renaming_outside}
use Rattle.ir_numbering.proofs.Adding.{numbered_by-filled}
use Rattle.ir_numbering.proofs.functions.numbered_by.Goals as goal

pub returns-in-Ok : goal.returns-in-Ok
returns-in-Ok c =
    let r = renaming_outside c.args.text.now c.args.m.now in
    numbered_by-filled c.args.text.now c.args.m.now c.args.tree.now c.args.places.now c.in_ok-sym.sym c.in_ok-ret.ret _ _
    (c.in_ok-sym.ensures ∙ ap (λ (s : Sym). renamed_sym r s) c.sym.ensures) (c.in_ok-ret.ensures ∙ ap (λ (t : Ty). renamed_ty r t) c.ret.ensures) c.new-f.ensures c.in-Ok.ensures
