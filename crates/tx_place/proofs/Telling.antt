-- What stands for an instruction with late checks says what is retired, and transactions are a column.
use Rattle.std.proofs.Common.{◌≡◌, ◌∙◌, ◌&&◌, Bool, true, false, List, [], ◌∷◌, ◌++◌, map, Option, Some, None, refl, ap, sym, append-nil}
use mathlib.Core.Path.{fun_ext}
use Rattle.std.specs.List.{filter_map, flat_map, list_all}
use Rattle.std.proofs.lemmas.List.Elements.{filter_map-append}
use Rattle.std.proofs.lemmas.List.Folds.{list_all-append}
use Rattle.hard_laws.proofs.HardLines.{both}
use Rattle.ir_core.proofs.Lengths.{both_true}
use Rattle.ir_core.specs.declared.types.Ty.{Ty}
use Rattle.ir_core.specs.declared.types.Ty.TheVariants as types
use Rattle.ir_core.specs.declared.types.Loc.{Loc}
use Rattle.ir_core.specs.declared.values.Val.{Val}
use Rattle.ir_core.specs.declared.values.Val.TheVariants as values
use Rattle.ir_core.specs.declared.instruction.Inst.{Inst}
use Rattle.ir_core.specs.declared.instruction.Inst.TheVariants as insts
use Rattle.ir_core.specs.Module.{ModuleParts}
use Rattle.ir_check.specs.Faults.{IsAccepted}
use Rattle.hard_ir.specs.declared.instruction.When.{When}
use Rattle.hard_ir.specs.declared.instruction.When.TheVariants.{Tx}
use Rattle.hard_ir.specs.declared.instruction.HInst.{HInst}
use Rattle.hard_ir.specs.declared.instruction.HInst.TheVariants.{Cut, Begin, End, Tick, Chk, ChkMem, Mov, Do}
use Rattle.hard_ir.specs.Hardened.{HardParts, heads_of, hardened_by}
use Rattle.hard_ir.specs.Image.{Table, check_when, checked_when, checked_before, checks_before, checks_after, copy_of, core, cut_point, on_shadow, place_table, placed, relax_table, relaxed}
use Rattle.column_walk.specs.Columns.{retired_by, retired, ending_by, table_of, column_module}
use Rattle.column_walk.proofs.Made.{IsBlind, IsTelling, ending, kept, column_made}
use Rattle.relaxed_mem.proofs.Telling.{entry-retires, entry-ends}
use Rattle.tx_place.specs.Placed.{place_parts, placed_by}

-- ---- items that do no instruction

abbrev pub is_mute : HInst → Bool
is_mute (Do side inst retires) = false
is_mute (Mov ty reg) = true
is_mute (Chk when ty reg) = true
is_mute (ChkMem ty ptr val) = true
is_mute (Tick work) = true
is_mute Cut = true
is_mute Begin = true
is_mute End = true

pub mute-both : (xs ys : List HInst) → list_all is_mute xs ≡ true → list_all is_mute ys ≡ true → list_all is_mute (xs ++ ys) ≡ true
mute-both xs ys e f = list_all-append is_mute xs ys ∙ both e f

mute-retires : (xs : List HInst) → list_all is_mute xs ≡ true → retired xs ≡ []
mute-retires [] e = refl
mute-retires (Do side inst retires ∷ xs) e = absurd cc
mute-retires (Mov ty reg ∷ xs) e = mute-retires xs e
mute-retires (Chk when ty reg ∷ xs) e = mute-retires xs e
mute-retires (ChkMem ty ptr val ∷ xs) e = mute-retires xs e
mute-retires (Tick work ∷ xs) e = mute-retires xs e
mute-retires (Cut ∷ xs) e = mute-retires xs e
mute-retires (Begin ∷ xs) e = mute-retires xs e
mute-retires (End ∷ xs) e = mute-retires xs e

mute-ends : (xs : List HInst) → list_all is_mute xs ≡ true → filter_map ending_by xs ≡ []
mute-ends [] e = refl
mute-ends (Do side inst retires ∷ xs) e = absurd cc
mute-ends (Mov ty reg ∷ xs) e = mute-ends xs e
mute-ends (Chk when ty reg ∷ xs) e = mute-ends xs e
mute-ends (ChkMem ty ptr val ∷ xs) e = mute-ends xs e
mute-ends (Tick work ∷ xs) e = mute-ends xs e
mute-ends (Cut ∷ xs) e = mute-ends xs e
mute-ends (Begin ∷ xs) e = mute-ends xs e
mute-ends (End ∷ xs) e = mute-ends xs e

-- such items around others say nothing
pub record SaysSame (xs ys : List HInst) : Type 0 where
  pub retires : retired xs ≡ retired ys
  pub ends : filter_map ending_by xs ≡ filter_map ending_by ys

no-front : (by : HInst → Option Inst) (xs ys : List HInst) → filter_map by xs ≡ [] → filter_map by (xs ++ ys) ≡ filter_map by ys
no-front by xs ys e = filter_map-append by xs ys ∙ ap (λ (zs : List Inst). zs ++ filter_map by ys) e

no-back : (by : HInst → Option Inst) (xs ys : List HInst) → filter_map by ys ≡ [] → filter_map by (xs ++ ys) ≡ filter_map by xs
no-back by xs ys e = filter_map-append by xs ys ∙ ap (λ (zs : List Inst). filter_map by xs ++ zs) e ∙ append-nil (filter_map by xs)

pub mute-front : (xs ys : List HInst) → list_all is_mute xs ≡ true → SaysSame (xs ++ ys) ys
mute-front xs ys e = record { retires = no-front retired_by xs ys (mute-retires xs e); ends = no-front ending_by xs ys (mute-ends xs e) }

pub mute-back : (xs ys : List HInst) → list_all is_mute ys ≡ true → SaysSame (xs ++ ys) xs
mute-back xs ys e = record { retires = no-back retired_by xs ys (mute-retires ys e); ends = no-back ending_by xs ys (mute-ends ys e) }

-- ---- checks

check-mute : (when : When) (operand : Ty × Val) → list_all is_mute (check_when when operand) ≡ true
check-mute when (ty, values.Reg reg) = refl
check-mute when (ty, values.Int n) = refl
check-mute when (ty, values.Null) = refl
check-mute when (ty, values.Global symbol) = refl
check-mute when (ty, values.Gep gep) = refl

checks-mute : (when : When) (operands : List (Ty × Val)) → list_all is_mute (flat_map (check_when when) operands) ≡ true
checks-mute when [] = refl
checks-mute when (operand ∷ operands) = mute-both (check_when when operand) (flat_map (check_when when) operands) (check-mute when operand) (checks-mute when operands)

pub before-mute : (inst : Inst) → list_all is_mute (checks_before inst) ≡ true
before-mute inst = checks-mute (checked_when inst) (checked_before inst)

pub after-mute : (inst : Inst) → list_all is_mute (checks_after inst) ≡ true
after-mute (insts.Bin dst op flags w a b) = refl
after-mute (insts.Cmp dst pred ty a b) = refl
after-mute (insts.Select dst cond ty a b) = refl
after-mute (insts.Cast dst op from a to) = refl
after-mute (insts.Gep dst base ptr index) = refl
after-mute (insts.Extract dst elem pair index) = refl
after-mute (insts.Phi dst ty arms) = refl
after-mute (insts.Alloca dst ty) = refl
after-mute (insts.Load dst ty ptr atomic) = refl
after-mute (insts.Store ty val ptr true) = refl
after-mute (insts.Store ty val ptr false) = mute-both (check_when Tx (types.Ptr, ptr)) (ChkMem ty (on_shadow ptr) (on_shadow val) ∷ []) (check-mute Tx (types.Ptr, ptr)) refl
after-mute (insts.Rmw dst op ptr ty val) = refl
after-mute (insts.CmpXchg dst ptr ty old new) = refl
after-mute insts.Fence = refl
after-mute (insts.Call dst ret callee args) = refl
after-mute (insts.Br to) = refl
after-mute (insts.CondBr cond on_true on_false) = refl
after-mute (insts.Switch ty on default cases) = refl
after-mute (insts.Ret ty val) = refl
after-mute insts.Unreachable = refl

-- ---- the instruction by itself

pub core-retires : (inst : Inst) → retired (core inst) ≡ kept inst
core-retires (insts.Bin dst op flags w a b) = refl
core-retires (insts.Cmp dst pred ty a b) = refl
core-retires (insts.Select dst cond ty a b) = refl
core-retires (insts.Cast dst op from a to) = refl
core-retires (insts.Gep dst base ptr index) = refl
core-retires (insts.Extract dst elem pair index) = refl
core-retires (insts.Phi dst ty arms) = refl
core-retires (insts.Alloca dst ty) = refl
core-retires (insts.Load dst ty ptr true) = refl
core-retires (insts.Load dst ty ptr false) = refl
core-retires (insts.Store ty val ptr true) = refl
core-retires (insts.Store ty val ptr false) = refl
core-retires (insts.Rmw dst op ptr ty val) = refl
core-retires (insts.CmpXchg dst ptr ty old new) = refl
core-retires insts.Fence = refl
core-retires (insts.Call None ret callee args) = refl
core-retires (insts.Call (Some dst) ret callee args) = refl
core-retires (insts.Br to) = refl
core-retires (insts.CondBr cond on_true on_false) = refl
core-retires (insts.Switch ty on default cases) = refl
core-retires (insts.Ret ty val) = refl
core-retires insts.Unreachable = refl

pub core-ends : (inst : Inst) → filter_map ending_by (core inst) ≡ ending inst
core-ends (insts.Bin dst op flags w a b) = refl
core-ends (insts.Cmp dst pred ty a b) = refl
core-ends (insts.Select dst cond ty a b) = refl
core-ends (insts.Cast dst op from a to) = refl
core-ends (insts.Gep dst base ptr index) = refl
core-ends (insts.Extract dst elem pair index) = refl
core-ends (insts.Phi dst ty arms) = refl
core-ends (insts.Alloca dst ty) = refl
core-ends (insts.Load dst ty ptr true) = refl
core-ends (insts.Load dst ty ptr false) = refl
core-ends (insts.Store ty val ptr true) = refl
core-ends (insts.Store ty val ptr false) = refl
core-ends (insts.Rmw dst op ptr ty val) = refl
core-ends (insts.CmpXchg dst ptr ty old new) = refl
core-ends insts.Fence = refl
core-ends (insts.Call None ret callee args) = refl
core-ends (insts.Call (Some dst) ret callee args) = refl
core-ends (insts.Br to) = refl
core-ends (insts.CondBr cond on_true on_false) = refl
core-ends (insts.Switch ty on default cases) = refl
core-ends (insts.Ret ty val) = refl
core-ends insts.Unreachable = refl

relaxed-core : (inst : Inst) → SaysSame (relaxed inst) (core inst)
relaxed-core inst =
    let front = mute-front (checks_before inst) (core inst ++ checks_after inst) (before-mute inst) in
    let back = mute-back (core inst) (checks_after inst) (after-mute inst) in
    record { retires = front.retires ∙ back.retires; ends = front.ends ∙ back.ends }

pub relax-telling : IsTelling relax_table
relax-telling = record {
  each = λ inst. (relaxed-core inst).retires ∙ core-retires inst;
  ends = λ inst. (relaxed-core inst).ends ∙ core-ends inst;
  entry = entry-retires;
  entry_ends = entry-ends;
  head = refl;
  head_ends = refl;
}

-- ---- the column

pub placed-blind : (m : ModuleParts) (inst : Inst) → flat_map (placed m) (kept inst) ≡ placed m inst
placed-blind m (insts.Bin dst op flags w a b) = refl
placed-blind m (insts.Cmp dst pred ty a b) = append-nil (placed m (insts.Cmp dst pred ty a b))
placed-blind m (insts.Select dst cond ty a b) = append-nil (placed m (insts.Select dst cond ty a b))
placed-blind m (insts.Cast dst op from a to) = append-nil (placed m (insts.Cast dst op from a to))
placed-blind m (insts.Gep dst base ptr index) = append-nil (placed m (insts.Gep dst base ptr index))
placed-blind m (insts.Extract dst elem pair index) = append-nil (placed m (insts.Extract dst elem pair index))
placed-blind m (insts.Phi dst ty arms) = refl
placed-blind m (insts.Alloca dst ty) = append-nil (placed m (insts.Alloca dst ty))
placed-blind m (insts.Load dst ty ptr atomic) = append-nil (placed m (insts.Load dst ty ptr atomic))
placed-blind m (insts.Store ty val ptr atomic) = append-nil (placed m (insts.Store ty val ptr atomic))
placed-blind m (insts.Rmw dst op ptr ty val) = append-nil (placed m (insts.Rmw dst op ptr ty val))
placed-blind m (insts.CmpXchg dst ptr ty old new) = append-nil (placed m (insts.CmpXchg dst ptr ty old new))
placed-blind m insts.Fence = append-nil (placed m insts.Fence)
placed-blind m (insts.Call dst ret callee args) = append-nil (placed m (insts.Call dst ret callee args))
placed-blind m (insts.Br to) = append-nil (placed m (insts.Br to))
placed-blind m (insts.CondBr cond on_true on_false) = append-nil (placed m (insts.CondBr cond on_true on_false))
placed-blind m (insts.Switch ty on default cases) = append-nil (placed m (insts.Switch ty on default cases))
placed-blind m (insts.Ret ty val) = append-nil (placed m (insts.Ret ty val))
placed-blind m insts.Unreachable = append-nil (placed m insts.Unreachable)

-- only the names of a module count
pub placed-heads : (m : ModuleParts) (inst : Inst) → placed (heads_of m) inst ≡ placed m inst
placed-heads m (insts.Bin dst op flags w a b) = refl
placed-heads m (insts.Cmp dst pred ty a b) = refl
placed-heads m (insts.Select dst cond ty a b) = refl
placed-heads m (insts.Cast dst op from a to) = refl
placed-heads m (insts.Gep dst base ptr index) = refl
placed-heads m (insts.Extract dst elem pair index) = refl
placed-heads m (insts.Phi dst ty arms) = refl
placed-heads m (insts.Alloca dst ty) = refl
placed-heads m (insts.Load dst ty ptr atomic) = refl
placed-heads m (insts.Store ty val ptr atomic) = refl
placed-heads m (insts.Rmw dst op ptr ty val) = refl
placed-heads m (insts.CmpXchg dst ptr ty old new) = refl
placed-heads m insts.Fence = refl
placed-heads m (insts.Call dst ret callee args) = refl
placed-heads m (insts.Br to) = refl
placed-heads m (insts.CondBr cond on_true on_false) = refl
placed-heads m (insts.Switch ty on default cases) = refl
placed-heads m (insts.Ret ty val) = refl
placed-heads m insts.Unreachable = refl

place-table : (m : ModuleParts) → table_of (place_parts (heads_of m)) ≡ place_table m
place-table m = ap (λ (image : Inst → List HInst). let t : Table = record { entry = λ params. map copy_of params ++ cut_point; head = cut_point; image = image } in t) (fun_ext (placed-heads m))

pub placed_made : (m : ModuleParts) → IsAccepted m → column_module (place_parts (heads_of m)) (hardened_by relax_table m) ≡ placed_by m
placed_made m accepted = column_made relax_table relax-telling (place_parts (heads_of m)) (placed-blind (heads_of m)) m accepted ∙ ap (λ (table : Table). hardened_by table m) (place-table m)
