use Rattle.std.proofs.Common.{◌<◌, ap, subst, ◌∙◌, sym, List, length, arith}
use Rattle.ir_core.specs.declared.instruction.Block.{Block}
use Rattle.ir_core.specs.Module.{FuncParts, with_inst}
use Rattle.ir_core.proofs.Blocks.{set-last}
use Rattle.ir_core.proofs.modules.Func.add_inst.Goals as goal

pub returns-clause-ok : goal.returns-clause-ok
returns-clause-ok c =
    let f = c.self.inside in
    let b = c.index_mut-block.result.now in
    let put : List Block → FuncParts = λ bs. record { sym = f.sym; ret = f.ret; params = f.params; blocks = bs; names = f.names } in
    let grown : FuncParts → FuncParts = λ p. record p { blocks = with_inst p.blocks c.args.i } in
    let some : 0 < length f.blocks.items = subst (λ (p : FuncParts). 0 < length p.blocks) (sym c.self.view_is) c.requires in
    let e = set-last f.blocks.items _ b _ c.args.i (omega arith) c.index_mut-block.ensures.value (ap (λ l. record { label = b.label; insts = l }) c.in_ok-push.ensures.ok) in
    ap put e ∙ ap grown c.self.view_is
