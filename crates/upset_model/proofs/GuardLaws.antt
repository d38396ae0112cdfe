-- A block's branch is checked by its targets exactly where the branch in which it ends is.
use Rattle.std.proofs.Common.{ℕ, zero, suc, ◌≡◌, Bool, true, false, ◌&&◌, not, List, [], ◌∷◌, length, refl, sym, get_or, arith}
use Rattle.std.specs.Prelude.{nat_eq}
use Rattle.ir_core.specs.declared.types.Loc.{Loc}
use Rattle.ir_core.specs.declared.values.Val.TheVariants as values
use Rattle.ir_core.specs.declared.instruction.Inst.TheVariants as insts
use Rattle.hard_ir.specs.declared.instruction.HInst.{HInst}
use Rattle.hard_ir.specs.declared.instruction.HInst.TheVariants.{Cut, Begin, End, Tick, Chk, ChkMem, Mov, Do}
use Rattle.hard_ir.specs.declared.instruction.HBlock.{HBlock}
use Rattle.upset_model.specs.declared.edges.Guard.{Guard}
use Rattle.upset_model.specs.Windows.{is_guarded, last_guarded}
use Rattle.upset_model.specs.Guards.{guard_if, guard_in, guard_of, both_check, checked_by}

module _ (blocks : List HBlock) (from : Loc) where
  two-labels : (same : Bool) (guard : Guard) → (not same && both_check blocks from guard) ≡ checked_by blocks from (guard_if same guard)
  two-labels true guard = refl
  two-labels false guard = refl

  guarded-is : (inst : HInst) → is_guarded blocks from inst ≡ checked_by blocks from (guard_in inst)
  guarded-is Cut = refl
  guarded-is Begin = refl
  guarded-is End = refl
  guarded-is (Tick work) = refl
  guarded-is (Chk when ty reg) = refl
  guarded-is (ChkMem ty ptr val) = refl
  guarded-is (Mov ty reg) = refl
  guarded-is (Do side (insts.CondBr (values.Reg on) first second) retires) =
      two-labels (nat_eq first.0 second.0) (record { on = on; first = first; second = second })
  guarded-is (Do side (insts.CondBr (values.Int n) first second) retires) = refl
  guarded-is (Do side (insts.CondBr values.Null first second) retires) = refl
  guarded-is (Do side (insts.CondBr (values.Global sym) first second) retires) = refl
  guarded-is (Do side (insts.CondBr (values.Gep gep) first second) retires) = refl
  guarded-is (Do side (insts.Bin dst op flags w a b) retires) = refl
  guarded-is (Do side (insts.Cmp dst pred ty a b) retires) = refl
  guarded-is (Do side (insts.Select dst cond ty a b) retires) = refl
  guarded-is (Do side (insts.Cast dst op from a to) retires) = refl
  guarded-is (Do side (insts.Gep dst base ptr index) retires) = refl
  guarded-is (Do side (insts.Alloca dst ty) retires) = refl
  guarded-is (Do side (insts.Load dst ty ptr atomic) retires) = refl
  guarded-is (Do side (insts.Store ty val ptr atomic) retires) = refl
  guarded-is (Do side (insts.Rmw dst op ptr ty val) retires) = refl
  guarded-is (Do side (insts.CmpXchg dst ptr ty old new) retires) = refl
  guarded-is (Do side insts.Fence retires) = refl
  guarded-is (Do side (insts.Extract dst elem pair index) retires) = refl
  guarded-is (Do side (insts.Call dst ret callee args) retires) = refl
  guarded-is (Do side (insts.Phi dst ty arms) retires) = refl
  guarded-is (Do side (insts.Br to) retires) = refl
  guarded-is (Do side (insts.Switch ty on default cases) retires) = refl
  guarded-is (Do side (insts.Ret ty val) retires) = refl
  guarded-is (Do side insts.Unreachable retires) = refl

  pub guarded-last : (list : List HInst) → last_guarded blocks from list ≡ checked_by blocks from (guard_of list)
  guarded-last [] = refl
  guarded-last (inst ∷ []) = guarded-is inst
  guarded-last (inst ∷ next ∷ code) = guarded-last (next ∷ code)

-- the branch is that of the last instruction
pub last-guard : (list : List HInst) (n : ℕ) (d : HInst) → suc n ≡ length list → guard_of list ≡ guard_in (get_or list n d)
last-guard [] n d e = absurd (omega (arith, e))
last-guard (inst ∷ []) zero d e = refl
last-guard (inst ∷ []) (suc n) d e = absurd (omega (arith, e))
last-guard (inst ∷ next ∷ code) zero d e = absurd (omega (arith, e))
last-guard (inst ∷ next ∷ code) (suc n) d e = last-guard (next ∷ code) n d (omega (arith, e))
