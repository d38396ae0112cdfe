-- Branches that their targets check, by the branch in which a block ends.
use Rattle.std.specs.Prelude.{ℕ, ◌≡◌, nat_eq, ◌&&◌, Bool, true, false, List, [], ◌∷◌, drop, Option, Some, None, slice_get}
use Rattle.std.specs.List.{find}
use Rattle.std.specs.Option.{option_map_or, option_and_then}
use Rattle.ir_core.specs.declared.types.Loc.{Loc}
use Rattle.ir_core.specs.declared.values.Val.{Val}
use Rattle.ir_core.specs.declared.values.Val.TheVariants as values
use Rattle.ir_core.specs.declared.instruction.Inst.{Inst}
use Rattle.ir_core.specs.declared.instruction.Inst.TheVariants as insts
use Rattle.inst_meaning.specs.Registers.{get}
use Rattle.hard_ir.specs.declared.instruction.HInst.{HInst}
use Rattle.hard_ir.specs.declared.instruction.HInst.TheVariants.{Cut, Begin, End, Tick, Chk, ChkMem, Mov, Do}
use Rattle.hard_ir.specs.declared.instruction.HBlock.{HBlock}
use Rattle.hard_ir.specs.Hardened.{HardParts}
use Rattle.upset_model.specs.declared.edges.Guard.{Guard}
use Rattle.upset_model.specs.Windows.{target_checks, is_edge_checked}

-- ---- the branch in which a block ends

abbrev pub guard_if : Bool → Guard → Option Guard
guard_if true guard = None
guard_if false guard = Some guard

-- a conditional branch on a register to two labels
abbrev pub guard_on : Val → Loc → Loc → Option Guard
guard_on (values.Reg on) first second = guard_if (nat_eq first.0 second.0) (record { on = on; first = first; second = second })
guard_on (values.Int n) first second = None
guard_on values.Null first second = None
guard_on (values.Global sym) first second = None
guard_on (values.Gep gep) first second = None

abbrev pub guard_of_inst : Inst → Option Guard
guard_of_inst (insts.CondBr condition first second) = guard_on condition first second
guard_of_inst other = None

abbrev pub guard_in : HInst → Option Guard
guard_in Cut = None
guard_in Begin = None
guard_in End = None
guard_in (Tick work) = None
guard_in (Chk when ty reg) = None
guard_in (ChkMem ty ptr val) = None
guard_in (Mov ty reg) = None
guard_in (Do side inst retires) = guard_of_inst inst

abbrev pub guard_of : List HInst → Option Guard
guard_of [] = None
guard_of (inst ∷ []) = guard_in inst
guard_of (inst ∷ next ∷ code) = guard_of (next ∷ code)

-- ---- its targets

abbrev pub is_labelled : ℕ → HBlock → Bool
is_labelled label block = nat_eq block.label.0 label

abbrev pub target : List HBlock → ℕ → Option HBlock
target blocks label = find (is_labelled label) blocks

-- both targets check their directions
abbrev pub both_check : List HBlock → Loc → Guard → Bool
both_check blocks from guard = target_checks blocks from 1 guard.on guard.first && target_checks blocks from 0 guard.on guard.second

abbrev pub checked_by : List HBlock → Loc → Option Guard → Bool
checked_by blocks from None = false
checked_by blocks from (Some guard) = both_check blocks from guard

-- a table from labels to numbers of blocks finds those from a number on
abbrev pub IsIndexFrom : List HBlock → ℕ → List (Option ℕ) → Type 0
IsIndexFrom blocks n table = (label : ℕ) → option_and_then (slice_get blocks) (get table label) ≡ target (drop n blocks) label

abbrev pub IsIndex : List HBlock → List (Option ℕ) → Type 0
IsIndex blocks table = IsIndexFrom blocks 0 table

-- ---- by numbers

abbrev pub blocks_of : HardParts → ℕ → List HBlock
blocks_of h func = option_map_or (λ blocks. blocks) (slice_get h.funcs func) []

-- a block's branch is checked by its targets; there is no such block, and it is not
abbrev pub edge_checked_at : HardParts → ℕ → ℕ → Bool
edge_checked_at h func block = option_map_or (is_edge_checked (blocks_of h func)) (slice_get (blocks_of h func) block) false
