-- What a check of uses answers.
use Rattle.ir_core.specs.Module.{FuncParts}
use Rattle.ir_flow.specs.Uses.{FirstUnassigned}
use Rattle.ir_flow.specs.declared.flow.FlowError.{FlowError}
use Rattle.ir_flow.specs.declared.flow.FlowError.TheVariants.{PhiMismatch, UseBeforeDef, NoMemory}

abbrev pub IsUseFault : FuncParts → FlowError → Type 0
IsUseFault f (PhiMismatch block inst) = ⊥
IsUseFault f (UseBeforeDef block inst reg) = FirstUnassigned f block inst reg
IsUseFault f NoMemory = Unit {0}
