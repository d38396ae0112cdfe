-- What stands for an instruction with checks says what is retired, and double loads with late checks are a column.
use Rattle.std.proofs.Common.{◌≡◌, ◌∙◌, ◌+◌, ℕ, Bool, true, false, List, [], ◌∷◌, ◌++◌, map, Option, Some, None, refl, ap, sym, append-nil}
use mathlib.Core.Path.{fun_ext}
use Rattle.std.specs.List.{filter_map, flat_map}
use Rattle.std.proofs.lemmas.List.Elements.{filter_map-append}
use Rattle.ir_core.specs.declared.types.Ty.{Ty}
use Rattle.ir_core.specs.declared.types.Loc.{Loc}
use Rattle.ir_core.specs.declared.values.Val.{Val}
use Rattle.ir_core.specs.declared.values.Val.TheVariants as values
use Rattle.ir_core.specs.declared.instruction.Inst.{Inst}
use Rattle.ir_core.specs.declared.instruction.Inst.TheVariants as insts
use Rattle.ir_core.specs.Module.{ModuleParts}
use Rattle.ir_check.specs.Faults.{IsAccepted}
use Rattle.hard_ir.specs.declared.instruction.HInst.{HInst}
use Rattle.hard_ir.specs.Hardened.{HardParts, hardened_by}
use Rattle.hard_ir.specs.Image.{Table, check, checked, check_table, copies, copy_of, flow, flow_table, relax_table, relaxed, single_result, unflagged}
use Rattle.column_walk.specs.Columns.{retired_by, retired, ending_by, table_of, column_module}
use Rattle.column_walk.proofs.Made.{IsBlind, IsTelling, ending, kept, column_made}
use Rattle.relaxed_mem.specs.Relaxed.{relax_parts}

-- ---- checks and copies say nothing

check-silent : (by : HInst → Option Inst) → ((operand : Ty × Val) → filter_map by (check operand) ≡ []) → (operands : List (Ty × Val)) → filter_map by (flat_map check operands) ≡ []
check-silent by none [] = refl
check-silent by none (operand ∷ operands) =
    filter_map-append by (check operand) (flat_map check operands) ∙ ap (λ (xs : List Inst). xs ++ filter_map by (flat_map check operands)) (none operand) ∙ check-silent by none operands

check-retires : (operand : Ty × Val) → retired (check operand) ≡ []
check-retires (ty, values.Reg reg) = refl
check-retires (ty, values.Int n) = refl
check-retires (ty, values.Null) = refl
check-retires (ty, values.Global symbol) = refl
check-retires (ty, values.Gep gep) = refl

check-ends : (operand : Ty × Val) → filter_map ending_by (check operand) ≡ []
check-ends (ty, values.Reg reg) = refl
check-ends (ty, values.Int n) = refl
check-ends (ty, values.Null) = refl
check-ends (ty, values.Global symbol) = refl
check-ends (ty, values.Gep gep) = refl

pub copies-retire : (result : Option (Ty × Loc)) → retired (copies result) ≡ []
copies-retire None = refl
copies-retire (Some reg) = refl

pub copies-end : (result : Option (Ty × Loc)) → filter_map ending_by (copies result) ≡ []
copies-end None = refl
copies-end (Some reg) = refl

pub entry-retires : (params : List (Ty × Loc)) → retired (map copy_of params) ≡ []
entry-retires [] = refl
entry-retires (param ∷ params) = entry-retires params

pub entry-ends : (params : List (Ty × Loc)) → filter_map ending_by (map copy_of params) ≡ []
entry-ends [] = refl
entry-ends (param ∷ params) = entry-ends params

-- ---- the two flows

flow-retires : (inst : Inst) → retired (flow inst) ≡ kept inst
flow-retires (insts.Call dst ret callee args) = ap (λ (xs : List Inst). insts.Call dst ret callee args ∷ xs) (copies-retire (single_result (insts.Call dst ret callee args)))
flow-retires (insts.Bin dst op flags w a b) = refl
flow-retires (insts.Cmp dst pred ty a b) = refl
flow-retires (insts.Select dst cond ty a b) = refl
flow-retires (insts.Cast dst op from a to) = refl
flow-retires (insts.Gep dst base ptr index) = refl
flow-retires (insts.Extract dst elem pair index) = refl
flow-retires (insts.Phi dst ty arms) = refl
flow-retires (insts.Alloca dst ty) = refl
flow-retires (insts.Load dst ty ptr atomic) = refl
flow-retires (insts.Store ty val ptr atomic) = refl
flow-retires (insts.Rmw dst op ptr ty val) = refl
flow-retires (insts.CmpXchg dst ptr ty old new) = refl
flow-retires insts.Fence = refl
flow-retires (insts.Br to) = refl
flow-retires (insts.CondBr cond on_true on_false) = refl
flow-retires (insts.Switch ty on default cases) = refl
flow-retires (insts.Ret ty val) = refl
flow-retires insts.Unreachable = refl

flow-ends : (inst : Inst) → filter_map ending_by (flow inst) ≡ ending inst
flow-ends (insts.Call dst ret callee args) = copies-end (single_result (insts.Call dst ret callee args))
flow-ends (insts.Bin dst op flags w a b) = refl
flow-ends (insts.Cmp dst pred ty a b) = refl
flow-ends (insts.Select dst cond ty a b) = refl
flow-ends (insts.Cast dst op from a to) = refl
flow-ends (insts.Gep dst base ptr index) = refl
flow-ends (insts.Extract dst elem pair index) = refl
flow-ends (insts.Phi dst ty arms) = refl
flow-ends (insts.Alloca dst ty) = refl
flow-ends (insts.Load dst ty ptr atomic) = refl
flow-ends (insts.Store ty val ptr atomic) = refl
flow-ends (insts.Rmw dst op ptr ty val) = refl
flow-ends (insts.CmpXchg dst ptr ty old new) = refl
flow-ends insts.Fence = refl
flow-ends (insts.Br to) = refl
flow-ends (insts.CondBr cond on_true on_false) = refl
flow-ends (insts.Switch ty on default cases) = refl
flow-ends (insts.Ret ty val) = refl
flow-ends insts.Unreachable = refl

pub check-telling : IsTelling check_table
check-telling = record {
  each = λ inst.
      filter_map-append retired_by (flat_map check (checked inst)) (flow inst)
      ∙ ap (λ (xs : List Inst). xs ++ retired (flow inst)) (check-silent retired_by check-retires (checked inst)) ∙ flow-retires inst;
  ends = λ inst.
      filter_map-append ending_by (flat_map check (checked inst)) (flow inst)
      ∙ ap (λ (xs : List Inst). xs ++ filter_map ending_by (flow inst)) (check-silent ending_by check-ends (checked inst)) ∙ flow-ends inst;
  entry = entry-retires;
  entry_ends = entry-ends;
  head = refl;
  head_ends = refl;
}

-- ---- the column

-- the same of an instruction without its flags
pub relaxed-blind : (inst : Inst) → flat_map relaxed (kept inst) ≡ relaxed inst
relaxed-blind (insts.Phi dst ty arms) = refl
relaxed-blind (insts.Bin dst op flags w a b) = refl
relaxed-blind (insts.Cmp dst pred ty a b) = append-nil (relaxed (insts.Cmp dst pred ty a b))
relaxed-blind (insts.Select dst cond ty a b) = append-nil (relaxed (insts.Select dst cond ty a b))
relaxed-blind (insts.Cast dst op from a to) = append-nil (relaxed (insts.Cast dst op from a to))
relaxed-blind (insts.Gep dst base ptr index) = append-nil (relaxed (insts.Gep dst base ptr index))
relaxed-blind (insts.Extract dst elem pair index) = append-nil (relaxed (insts.Extract dst elem pair index))
relaxed-blind (insts.Alloca dst ty) = append-nil (relaxed (insts.Alloca dst ty))
relaxed-blind (insts.Load dst ty ptr atomic) = append-nil (relaxed (insts.Load dst ty ptr atomic))
relaxed-blind (insts.Store ty val ptr atomic) = append-nil (relaxed (insts.Store ty val ptr atomic))
relaxed-blind (insts.Rmw dst op ptr ty val) = append-nil (relaxed (insts.Rmw dst op ptr ty val))
relaxed-blind (insts.CmpXchg dst ptr ty old new) = append-nil (relaxed (insts.CmpXchg dst ptr ty old new))
relaxed-blind insts.Fence = append-nil (relaxed insts.Fence)
relaxed-blind (insts.Call dst ret callee args) = append-nil (relaxed (insts.Call dst ret callee args))
relaxed-blind (insts.Br to) = append-nil (relaxed (insts.Br to))
relaxed-blind (insts.CondBr cond on_true on_false) = append-nil (relaxed (insts.CondBr cond on_true on_false))
relaxed-blind (insts.Switch ty on default cases) = append-nil (relaxed (insts.Switch ty on default cases))
relaxed-blind (insts.Ret ty val) = append-nil (relaxed (insts.Ret ty val))
relaxed-blind insts.Unreachable = append-nil (relaxed insts.Unreachable)

relax-table : table_of relax_parts ≡ relax_table
relax-table = ap (λ (entry : List (Ty × Loc) → List HInst). let t : Table = record { entry = entry; head = []; image = relaxed } in t) (fun_ext (λ params. append-nil (map copy_of params)))

pub relaxed_made : (m : ModuleParts) → IsAccepted m → column_module relax_parts (hardened_by check_table m) ≡ hardened_by relax_table m
relaxed_made m accepted = column_made check_table check-telling relax_parts relaxed-blind m accepted ∙ ap (λ (table : Table). hardened_by table m) relax-table
