use Rattle.std.proofs.Common.{◌∙◌, ◌≤◌, ◌+◌, refl, sym, subst, length, List, Option, Some}
use Rattle.ir_core.specs.Module.{FuncParts}
use Rattle.ir_flow.specs.Phis.{IsFlowFault}
use Rattle.ir_flow.specs.declared.flow.FlowError.{FlowError}
use Rattle.ir_lines.specs.declared.site.Site.{Site}
use Rattle.ir_lines.specs.declared.site.Site.TheVariants.{Inst}
use Rattle.ir_check.specs.declared.flows.Unassigned.{Unassigned}
use Rattle.ir_check.specs.declared.fault.Kind.TheVariants.{PhiMismatch}
use Rattle.ir_check.specs.Flows.{PhisFit, UnfitPhi, IsFirstUse}
use Rattle.ir_check.specs.Faults.{fault_at, OfPhi, Tells}
use Rattle.ir_check.proofs.Chains.{flow-told}
use Rattle.ir_check.proofs.Used.{at-item, before-next, before-all, use-stays, use-found}
use Rattle.ir_check.proofs.flows.check_flows.Goals as goal
use Rattle.ir_check.proofs.flows.check_flows.Goals.{in-Ok, in-Err-UseBeforeDef}

pub returns-in-Err-PhiMismatch-clause-fault : goal.returns-in-Err-PhiMismatch-clause-fault
returns-in-Err-PhiMismatch-clause-fault c =
    let m = c.args.m.now in
    let n = c.loop-n.n in
    let block = c.in-Err-PhiMismatch.block in
    let inst = c.in-Err-PhiMismatch.inst in
    let stands = at-item c.funcs-f-items.result.now m.funcs n c.f-item.result c.funcs-f-items.ensures c.loop-n-test.true c.f-item.is in
    let unfit : UnfitPhi m.funcs n block inst = record { f = c.f-item.result; stands = stands; mismatch = subst (λ (e : FlowError). IsFlowFault c.f-item.result e) c.in-Err-PhiMismatch.field-0-is c.in-Err-PhiMismatch.ensures.fault; before = c.loop-n.invariant.phis } in
    let told : Tells (Some (fault_at m PhiMismatch (Inst n block inst))) c.fault_at.result =
    subst (λ (site : Site). Tells (Some (fault_at m PhiMismatch site)) c.fault_at.result) c.site.ensures c.fault_at.ensures in
    flow-told m (fault_at m PhiMismatch (Inst n block inst)) c.fault_at.result (OfPhi n block inst unfit refl) told

pub loop-n-preserved : goal.loop-n-preserved
loop-n-preserved c =
    let funcs = c.args.m.now.funcs in
    let n = c.loop-n.n in
    let f = c.f-item.result in
    let stands = at-item c.funcs-f-items.result.now funcs n f c.funcs-f-items.ensures c.loop-n-test.true c.f-item.is in
    elim c.match-flow_check.branch [
      | in-Ok w ↦ record {
        phis = before-next PhisFit funcs n f stands w.in-Ok.ensures.phis c.loop-n.invariant.phis;
        first = subst (λ (first : Option Unassigned). IsFirstUse funcs (n + 1) first) (sym w.first-is) (use-stays funcs n f c.loop-n.first stands w.in-Ok.ensures.uses c.loop-n.invariant.first);
      }
      | in-Err-UseBeforeDef w ↦ record {
        phis = before-next PhisFit funcs n f stands (subst (λ (e : FlowError). IsFlowFault f e) w.in-Err-UseBeforeDef.field-0-is w.in-Err-UseBeforeDef.ensures.fault).0 c.loop-n.invariant.phis;
        first = subst (λ (first : Option Unassigned). IsFirstUse funcs (n + 1) first) (sym (w.first-is ∙ w.or-first.ensures))
            (use-found funcs n f c.loop-n.first w.in-Err-UseBeforeDef.block w.in-Err-UseBeforeDef.inst w.in-Err-UseBeforeDef.reg stands
            (subst (λ (e : FlowError). IsFlowFault f e) w.in-Err-UseBeforeDef.field-0-is w.in-Err-UseBeforeDef.ensures.fault).1 c.loop-n.invariant.first);
      }
    ]

pub refused-requires-clause-phis : goal.refused-requires-clause-phis
refused-requires-clause-phis c =
    let past : length c.args.m.now.funcs ≤ c.loop-n.n = subst (λ (fs : List FuncParts). length fs ≤ c.loop-n.n) c.funcs-f-items.ensures c.loop-n-test.false in
    before-all PhisFit c.args.m.now.funcs c.loop-n.n past c.loop-n.invariant.phis
