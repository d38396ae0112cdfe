use Rattle.std.proofs.Common.{refl, subst, length, Option, Some}
use Rattle.ir_lines.specs.declared.site.Site.{Site}
use Rattle.ir_lines.specs.declared.site.Site.TheVariants.{Inst}
use Rattle.ir_lines.specs.declared.site.Named.TheVariants as names
use Rattle.ir_check.specs.declared.flows.Unassigned.{Unassigned}
use Rattle.ir_check.specs.declared.fault.Kind.TheVariants.{UseBeforeDef}
use Rattle.ir_check.specs.Flows.{UnassignedUse, IsFirstUse}
use Rattle.ir_check.specs.Faults.{fault_with, OfUse, Tells}
use Rattle.ir_check.proofs.Chains.{flow-told}
use Rattle.ir_check.proofs.flows.refused.Goals as goal

pub returns-in-Some-clause-fault : goal.returns-in-Some-clause-fault
returns-in-Some-clause-fault c =
    let m = c.args.m.now in
    let u = c.in-Some.u in
    let found : UnassignedUse m.funcs u.func u.block u.inst u.reg = subst (λ (first : Option Unassigned). IsFirstUse m.funcs (length m.funcs) first) c.in-Some.is c.requires.first in
    let told : Tells (Some (fault_with m UseBeforeDef (Inst u.func u.block u.inst, names.Loc u.func u.reg))) c.fault_with.result =
    subst (λ (site : Site). Tells (Some (fault_with m UseBeforeDef (site, names.Loc u.func u.reg))) c.fault_with.result) c.site.ensures c.fault_with.ensures in
    flow-told m (fault_with m UseBeforeDef (Inst u.func u.block u.inst, names.Loc u.func u.reg)) c.fault_with.result (OfUse c.requires.phis u.func u.block u.inst u.reg found refl) told
