use Rattle.std.proofs.Common.{List, sym, subst}
use Rattle.std.specs.Prelude.{MatchBool}
use Rattle.ir_core.specs.declared.types.Loc.{Loc}
use Rattle.ir_core.specs.declared.values.Val.{Val}
use Rattle.ir_core.specs.declared.instruction.Block.{Block}
use Rattle.ir_core.specs.declared.instruction.Inst.{Inst}
use Rattle.ir_flow.specs.Phis.{FitsTo, AllFitting, FirstMismatch, phi_at}
use Rattle.ir_flow.proofs.PhiPlaces.{phi-told}
use Rattle.ir_flow.proofs.phis.inst_fits.Goals as goal

pub returns-in_ok-answer-in-Phi : goal.returns-in_ok-answer-in-Phi
returns-in_ok-answer-in-Phi c =
    let f = c.args.f.now in
    let blocks = subst (λ (bs : List Block). MatchBool c.in_ok-answer-in-Phi.answer (FitsTo bs c.args.preds.now c.items.result.now) (FitsTo bs c.args.preds.now c.items.result.now → ⊥)) c.blocks-in-Phi.ensures c.in_ok-answer-in-Phi.ensures in
    let arms = subst (λ (xs : List (Val × Loc)). MatchBool c.in_ok-answer-in-Phi.answer (FitsTo f.blocks c.args.preds.now xs) (FitsTo f.blocks c.args.preds.now xs → ⊥)) c.items.ensures blocks in
    subst (λ (i : Inst). MatchBool c.in_ok-answer-in-Phi.answer (AllFitting f (phi_at c.args.block c.args.number i)) (FirstMismatch f (phi_at c.args.block c.args.number i) c.args.block c.args.number)) (sym c.in-Phi.is) (phi-told f c.args.block c.args.number c.args.preds.now c.in-Phi.arms c.in_ok-answer-in-Phi.answer c.requires.preds arms)
