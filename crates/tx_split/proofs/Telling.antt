-- What stands for an instruction with transactions says what is retired, and ticks are a column.
use Rattle.std.proofs.Common.{◌≡◌, ◌∙◌, Bool, true, false, List, [], ◌∷◌, ◌++◌, map, Option, Some, None, refl, ap, sym, append-nil}
use mathlib.Core.Path.{fun_ext}
use Rattle.std.specs.List.{filter_map, flat_map, list_all}
use Rattle.std.proofs.lemmas.List.Elements.{filter_map-append}
use Rattle.ir_core.specs.declared.types.Ty.{Ty}
use Rattle.ir_core.specs.declared.types.Loc.{Loc}
use Rattle.ir_core.specs.declared.instruction.Inst.{Inst}
use Rattle.ir_core.specs.declared.instruction.Inst.TheVariants as insts
use Rattle.ir_core.specs.Module.{ModuleParts}
use Rattle.ir_calls.specs.Calls.{external_named}
use Rattle.ir_check.specs.Faults.{IsAccepted}
use Rattle.hard_ir.specs.declared.instruction.HInst.{HInst}
use Rattle.hard_ir.specs.Hardened.{HardParts, heads_of, hardened_by, harden, ticked_module}
use Rattle.hard_ir.specs.Image.{Table, CallKind, Inner, Outer, OfLock, kind_of, ends_for, begins_for, ends_before, begins_after, body_of, checks_before, checks_after, copy_of, core, cut_point, leaves, place_table, placed, row, split_table, tick_before, tick_if}
use Rattle.column_walk.specs.Columns.{retired_by, retired, ending_by, table_of, column_module}
use Rattle.column_walk.proofs.Made.{IsBlind, IsTelling, ending, kept, column_made}
use Rattle.relaxed_mem.proofs.Telling.{entry-retires, entry-ends}
use Rattle.tx_place.specs.Placed.{placed_by}
use Rattle.tx_place.proofs.Telling.{SaysSame, is_mute, mute-front, mute-back, before-mute, after-mute, core-retires, core-ends, placed-heads}
use Rattle.tx_split.specs.Split.{split_parts}

-- ---- what stands around calls

ends-for-mute : (kind : CallKind) → list_all is_mute (ends_for kind) ≡ true
ends-for-mute Inner = refl
ends-for-mute Outer = refl
ends-for-mute OfLock = refl

begins-for-mute : (kind : CallKind) → list_all is_mute (begins_for kind) ≡ true
begins-for-mute Inner = refl
begins-for-mute Outer = refl
begins-for-mute OfLock = refl

ends-mute : (m : ModuleParts) (inst : Inst) → list_all is_mute (ends_before m inst) ≡ true
ends-mute m (insts.Bin dst op flags w a b) = refl
ends-mute m (insts.Cmp dst pred ty a b) = refl
ends-mute m (insts.Select dst cond ty a b) = refl
ends-mute m (insts.Cast dst op from a to) = refl
ends-mute m (insts.Gep dst base ptr index) = refl
ends-mute m (insts.Extract dst elem pair index) = refl
ends-mute m (insts.Phi dst ty arms) = refl
ends-mute m (insts.Alloca dst ty) = refl
ends-mute m (insts.Load dst ty ptr atomic) = refl
ends-mute m (insts.Store ty val ptr atomic) = refl
ends-mute m (insts.Rmw dst op ptr ty val) = refl
ends-mute m (insts.CmpXchg dst ptr ty old new) = refl
ends-mute m insts.Fence = refl
ends-mute m (insts.Call dst ret callee args) = ends-for-mute (kind_of (external_named m callee))
ends-mute m (insts.Br to) = refl
ends-mute m (insts.CondBr cond on_true on_false) = refl
ends-mute m (insts.Switch ty on default cases) = refl
ends-mute m (insts.Ret ty val) = refl
ends-mute m insts.Unreachable = refl

begins-mute : (m : ModuleParts) (inst : Inst) → list_all is_mute (begins_after m inst) ≡ true
begins-mute m (insts.Bin dst op flags w a b) = refl
begins-mute m (insts.Cmp dst pred ty a b) = refl
begins-mute m (insts.Select dst cond ty a b) = refl
begins-mute m (insts.Cast dst op from a to) = refl
begins-mute m (insts.Gep dst base ptr index) = refl
begins-mute m (insts.Extract dst elem pair index) = refl
begins-mute m (insts.Phi dst ty arms) = refl
begins-mute m (insts.Alloca dst ty) = refl
begins-mute m (insts.Load dst ty ptr atomic) = refl
begins-mute m (insts.Store ty val ptr atomic) = refl
begins-mute m (insts.Rmw dst op ptr ty val) = refl
begins-mute m (insts.CmpXchg dst ptr ty old new) = refl
begins-mute m insts.Fence = refl
begins-mute m (insts.Call dst ret callee args) = begins-for-mute (kind_of (external_named m callee))
begins-mute m (insts.Br to) = refl
begins-mute m (insts.CondBr cond on_true on_false) = refl
begins-mute m (insts.Switch ty on default cases) = refl
begins-mute m (insts.Ret ty val) = refl
begins-mute m insts.Unreachable = refl

placed-core : (m : ModuleParts) (inst : Inst) → SaysSame (placed m inst) (core inst)
placed-core m inst =
    let a = mute-front (checks_before inst) (body_of m inst ++ begins_after m inst) (before-mute inst) in
    let b = mute-back (body_of m inst) (begins_after m inst) (begins-mute m inst) in
    let c = mute-front (ends_before m inst) (core inst ++ checks_after inst) (ends-mute m inst) in
    let d = mute-back (core inst) (checks_after inst) (after-mute inst) in
    record { retires = a.retires ∙ b.retires ∙ c.retires ∙ d.retires; ends = a.ends ∙ b.ends ∙ c.ends ∙ d.ends }

pub place-telling : (m : ModuleParts) → IsTelling (place_table m)
place-telling m = record {
  each = λ inst. (placed-core m inst).retires ∙ core-retires inst;
  ends = λ inst. (placed-core m inst).ends ∙ core-ends inst;
  entry = λ params. (mute-back (map copy_of params) cut_point refl).retires ∙ entry-retires params;
  entry_ends = λ params. (mute-back (map copy_of params) cut_point refl).ends ∙ entry-ends params;
  head = refl;
  head_ends = refl;
}

-- ---- the column

split-blind : (m : ModuleParts) (inst : Inst) → flat_map (row m 0) (kept inst) ≡ row m 0 inst
split-blind m (insts.Bin dst op flags w a b) = refl
split-blind m (insts.Cmp dst pred ty a b) = append-nil (row m 0 (insts.Cmp dst pred ty a b))
split-blind m (insts.Select dst cond ty a b) = append-nil (row m 0 (insts.Select dst cond ty a b))
split-blind m (insts.Cast dst op from a to) = append-nil (row m 0 (insts.Cast dst op from a to))
split-blind m (insts.Gep dst base ptr index) = append-nil (row m 0 (insts.Gep dst base ptr index))
split-blind m (insts.Extract dst elem pair index) = append-nil (row m 0 (insts.Extract dst elem pair index))
split-blind m (insts.Phi dst ty arms) = refl
split-blind m (insts.Alloca dst ty) = append-nil (row m 0 (insts.Alloca dst ty))
split-blind m (insts.Load dst ty ptr atomic) = append-nil (row m 0 (insts.Load dst ty ptr atomic))
split-blind m (insts.Store ty val ptr atomic) = append-nil (row m 0 (insts.Store ty val ptr atomic))
split-blind m (insts.Rmw dst op ptr ty val) = append-nil (row m 0 (insts.Rmw dst op ptr ty val))
split-blind m (insts.CmpXchg dst ptr ty old new) = append-nil (row m 0 (insts.CmpXchg dst ptr ty old new))
split-blind m insts.Fence = append-nil (row m 0 insts.Fence)
split-blind m (insts.Call dst ret callee args) = append-nil (row m 0 (insts.Call dst ret callee args))
split-blind m (insts.Br to) = append-nil (row m 0 (insts.Br to))
split-blind m (insts.CondBr cond on_true on_false) = append-nil (row m 0 (insts.CondBr cond on_true on_false))
split-blind m (insts.Switch ty on default cases) = append-nil (row m 0 (insts.Switch ty on default cases))
split-blind m (insts.Ret ty val) = append-nil (row m 0 (insts.Ret ty val))
split-blind m insts.Unreachable = append-nil (row m 0 insts.Unreachable)

split-table : (m : ModuleParts) → table_of (split_parts (heads_of m)) ≡ split_table m
split-table m =
    ap (λ (image : Inst → List HInst). let t : Table = record { entry = λ params. map copy_of params ++ cut_point; head = cut_point; image = image } in t)
    (fun_ext (λ inst. ap (λ (items : List HInst). tick_before 0 inst ++ items) (placed-heads m inst)))

rows_made : (m : ModuleParts) → IsAccepted m → column_module (split_parts (heads_of m)) (placed_by m) ≡ hardened_by (split_table m) m
rows_made m accepted = column_made (place_table m) (place-telling m) (split_parts (heads_of m)) (split-blind (heads_of m)) m accepted ∙ ap (λ (table : Table). hardened_by table m) (split-table m)

-- with the numbers of ticks
pub hardened_made : (m : ModuleParts) → IsAccepted m → ticked_module (column_module (split_parts (heads_of m)) (placed_by m)) ≡ harden m
hardened_made m accepted = ap ticked_module (rows_made m accepted)
