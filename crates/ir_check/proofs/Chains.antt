-- What is told of one row of the table and of those behind it.
use Rattle.std.proofs.Common.{◌≡◌, ◌∙◌, ap, Option, Some, None, subst}
use Rattle.std.specs.Option.{option_or}
use Rattle.ir_core.specs.Module.{ModuleParts}
use Rattle.ir_check.specs.declared.fault.CheckError.{CheckError}
use Rattle.ir_check.specs.declared.fault.CheckError.TheVariants as errors
use Rattle.ir_check.specs.Faults.{Fault, OfLines, OfPhis, OfUses, IsFlowFault, OfPhi, OfUse, Tells, TellsFlow, Refuses, line_fault}

pub tells-first : (x y : Option Fault) (e : CheckError) → Tells x e → Tells (option_or x y) e
tells-first x y (errors.Fault kind at name) t = ap (λ (o : Option Fault). option_or o y) t
tells-first x y errors.NoMemory t = tt

pub tells-later : (x y : Option Fault) (e : CheckError) → x ≡ None → Tells y e → Tells (option_or x y) e
tells-later x y (errors.Fault kind at name) none t = ap (λ (o : Option Fault). option_or o y) none ∙ t
tells-later x y errors.NoMemory none t = tt

pub none-both : (x y : Option Fault) → x ≡ None → y ≡ None → option_or x y ≡ None
none-both x y p q = ap (λ (o : Option Fault). option_or o y) p ∙ q

abbrev OfSome : (m : ModuleParts) → Option Fault → Type 0
OfSome m None = ⊥
OfSome m (Some fault) = IsFlowFault m fault

-- an error that tells a fault of flow
pub flow-told : (m : ModuleParts) (fault : Fault) (e : CheckError) → IsFlowFault m fault → Tells (Some fault) e → TellsFlow m e
flow-told m fault (errors.Fault kind at name) is told = subst (λ (o : Option Fault). OfSome m o) told is
flow-told m fault errors.NoMemory is told = tt

-- and of a module
pub lines-refuse : (m : ModuleParts) (e : CheckError) → Tells (line_fault m) e → Refuses m e
lines-refuse m (errors.Fault kind at name) told = OfLines told
lines-refuse m errors.NoMemory told = tt

pub flow-refuses : (m : ModuleParts) (e : CheckError) → line_fault m ≡ None → TellsFlow m e → Refuses m e
flow-refuses m (errors.Fault kind at name) none (OfPhi n block inst unfit is) = OfPhis none n block inst unfit is
flow-refuses m (errors.Fault kind at name) none (OfUse fit n block inst reg unassigned is) = OfUses none fit n block inst reg unassigned is
flow-refuses m errors.NoMemory none told = tt
