-- When two register files are the same to every instruction, and what operators do without their flags.
use Rattle.std.specs.Prelude.{ℕ, ◌≡◌, List, Option}
use Rattle.ir_core.specs.declared.instruction.Inst.{Inst}
use Rattle.ir_core.specs.declared.instruction.Inst.TheVariants as insts
use Rattle.ir_core.specs.declared.instruction.Flags.{Flags}
use Rattle.inst_meaning.specs.Registers.{get}
use Rattle.inst_meaning.specs.declared.actions.Action.{Action}
use Rattle.inst_meaning.specs.declared.actions.Action.TheVariants.{Fault}

-- each register has the same word in both files, or in neither
pub record Agree (a b : List (Option ℕ)) : Type 0 where
  pub same : (at : ℕ) → get a at ≡ get b at

-- the instruction with other flags, where it is an operator
abbrev pub with_flags : Flags → Inst → Inst
with_flags flags (insts.Bin dst op own w a b) = insts.Bin dst op flags w a b
with_flags flags inst = inst

-- the action can be done, as far as its instruction's words tell
abbrev pub IsDefined : Action → Type 0
IsDefined (Fault cause) = ⊥
IsDefined action = Unit {0}
