-- Phis and uses over all functions of a module: whether all are right, and the first that isn't.
use Rattle.std.specs.Prelude.{ℕ, ◌≡◌, ◌<◌, List, Option, Some, None, slice_get}
use Rattle.ir_core.specs.declared.types.Loc.{Loc}
use Rattle.ir_core.specs.Module.{FuncParts}
use Rattle.ir_flow.specs.Phis.{phis_of, AllFitting, FirstMismatch}
use Rattle.ir_flow.specs.Uses.{AllAssigned, FirstUnassigned}
use Rattle.ir_check.specs.declared.flows.Unassigned.{Unassigned}

-- of the functions before a number, or of all of them
abbrev pub Before : (FuncParts → Type 0) → List FuncParts → ℕ → Type 0
Before fact funcs n = (k : ℕ) (f : FuncParts) → k < n → slice_get funcs k ≡ Some f → fact f

abbrev pub OfAll : (FuncParts → Type 0) → List FuncParts → Type 0
OfAll fact funcs = (k : ℕ) (f : FuncParts) → slice_get funcs k ≡ Some f → fact f

-- the labels of each phi are its block's predecessors, each with one value
abbrev pub PhisFit : FuncParts → Type 0
PhisFit f = AllFitting f (phis_of f)

-- the first phi that doesn't fit stands at this place
pub record UnfitPhi (funcs : List FuncParts) (n block inst : ℕ) : Type 0 where
  pub f : FuncParts
  pub stands : slice_get funcs n ≡ Some f
  pub mismatch : FirstMismatch f (phis_of f) block inst
  pub before : Before PhisFit funcs n

-- the first use of a register that some path reaches without an assignment
pub record UnassignedUse (funcs : List FuncParts) (n block inst : ℕ) (reg : Loc) : Type 0 where
  pub f : FuncParts
  pub stands : slice_get funcs n ≡ Some f
  pub unassigned : FirstUnassigned f block inst reg
  pub before : Before AllAssigned funcs n

-- the first such use of the functions before a number, or that there is none
abbrev pub IsFirstUse : List FuncParts → ℕ → Option Unassigned → Type 0
IsFirstUse funcs n None = Before AllAssigned funcs n
IsFirstUse funcs n (Some u) = UnassignedUse funcs u.func u.block u.inst u.reg
