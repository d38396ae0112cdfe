-- What stands before a thread that is outside transactions: copies, checks, cuts and calls of externals, up to the next `begin`.
use Rattle.std.specs.Prelude.{ℕ, ◌≡◌, ◌≢◌, Bool, List, ◌∷◌, Option}
use Rattle.ir_core.specs.declared.types.Loc.{Loc}
use Rattle.ir_core.specs.declared.types.Sym.{Sym}
use Rattle.ir_core.specs.declared.types.Ty.{Ty}
use Rattle.ir_core.specs.declared.values.Side.{Side}
use Rattle.ir_core.specs.declared.values.Val.{Val}
use Rattle.ir_core.specs.declared.instruction.Inst.TheVariants as insts
use Rattle.ir_calls.specs.Calls.{external_named}
use Rattle.hard_ir.specs.declared.instruction.When.{When}
use Rattle.hard_ir.specs.declared.instruction.HInst.{HInst}
use Rattle.hard_ir.specs.declared.instruction.HInst.TheVariants.{Cut, Begin, Chk, Mov, Do}
use Rattle.hard_ir.specs.Image.{Inner, kind_of}
use Rattle.hard_ir.specs.Hardened.{HardParts}

pub data IsOutside (h : HardParts) : List HInst → Type 0 where
  Begins : (list : List HInst) → IsOutside h (Begin ∷ list)
  Copies : (ty : Ty) (reg : Loc) (list : List HInst) → IsOutside h list → IsOutside h (Mov ty reg ∷ list)
  Checks : (when : When) (ty : Ty) (reg : Loc) (list : List HInst) → IsOutside h list → IsOutside h (Chk when ty reg ∷ list)
  Cuts : (list : List HInst) → IsOutside h list → IsOutside h (Cut ∷ list)
  Calls : (side : Side) (dst : Option Loc) (ret : Ty) (callee : Sym) (args : List (Ty × Val)) (retires : Bool) (list : List HInst)
      → kind_of (external_named h.heads callee) ≢ Inner → IsOutside h list → IsOutside h (Do side (insts.Call dst ret callee args) retires ∷ list)
