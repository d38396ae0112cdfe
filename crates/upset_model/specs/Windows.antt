-- Windows: where a register can be struck between the check that found it right and what uses it, or between the making of a word and its copy.
--
-- Choices, the tool's own: windows are told by the hardened text alone: by what stands before the next instruction of a block, the last first,
-- and by what is left from that instruction on. A second check in between doesn't close a window. A conditional branch whose targets
-- check the direction that was taken is no effect, since a struck condition is found there.
use Rattle.std.specs.Prelude.{ℕ, not, nat_eq, ◌&&◌, ◌||◌, Bool, true, false, List, [], ◌∷◌, take, drop, reverse, Option, Some, None}
use Rattle.std.specs.List.{list_any, find}
use Rattle.std.specs.Option.{option_map_or}
use Rattle.ir_core.specs.declared.types.Loc.{Loc}
use Rattle.ir_core.specs.declared.types.Ty.{Ty}
use Rattle.ir_core.specs.declared.types.Ty.TheOpen.{Ty-F}
use Rattle.ir_core.specs.declared.types.Ty.TheViews.{out-Ty}
use Rattle.ir_core.specs.declared.types.Width.{Width}
use Rattle.ir_core.specs.declared.types.Width.TheVariants.{W1, W8, W16, W32, W64}
use Rattle.ir_core.specs.declared.values.Val.{Val}
use Rattle.ir_core.specs.declared.values.Val.TheVariants as values
use Rattle.ir_core.specs.declared.values.Side.{Side}
use Rattle.ir_core.specs.declared.values.Side.TheVariants.{M, S}
use Rattle.ir_core.specs.declared.instruction.Inst.{Inst}
use Rattle.ir_core.specs.declared.instruction.Inst.TheVariants as insts
use Rattle.ir_flow.specs.Uses.{regs_in}
use Rattle.inst_meaning.specs.Phis.{arm_from}
use Rattle.hard_ir.specs.declared.instruction.When.{When}
use Rattle.hard_ir.specs.declared.instruction.When.TheVariants.{Always, Plain, Tx}
use Rattle.hard_ir.specs.declared.instruction.HReg.{HReg}
use Rattle.hard_ir.specs.declared.instruction.HVal.{HVal}
use Rattle.hard_ir.specs.declared.instruction.HVal.TheVariants as operands
use Rattle.hard_ir.specs.declared.instruction.HInst.{HInst}
use Rattle.hard_ir.specs.declared.instruction.HInst.TheVariants.{Cut, Begin, End, Tick, Chk, ChkMem, Mov, Do}
use Rattle.hard_ir.specs.declared.instruction.HBlock.{HBlock}

-- ---- registers

abbrev pub same_side : Side → Side → Bool
same_side M M = true
same_side S S = true
same_side M S = false
same_side S M = false

abbrev pub same_reg : HReg → HReg → Bool
same_reg a b = same_side a.side b.side && nat_eq a.loc.0 b.loc.0

abbrev pub is_reg : HReg → HVal → Bool
is_reg r (operands.Reg reg) = same_reg r reg
is_reg r (operands.Const val) = false

abbrev pub is_among : HReg → Side → List Loc → Bool
is_among r side regs = same_side r.side side && list_any (λ reg. nat_eq r.loc.0 reg.0) regs

-- ---- what instructions do with a register

-- whether a check compares, inside a transaction or outside
abbrev pub is_active : When → Bool → Bool
is_active Always inside = true
is_active Plain inside = not inside
is_active Tx inside = inside

-- a check that is active inside or outside, and has it among its operands; one of registers has both sides'
abbrev pub checks : Bool → HReg → HInst → Bool
checks inside r Cut = false
checks inside r Begin = false
checks inside r End = false
checks inside r (Tick work) = false
checks inside r (Chk when ty reg) = is_active when inside && nat_eq r.loc.0 reg.0
checks inside r (ChkMem ty ptr val) = inside && (is_reg r ptr || is_reg r val)
checks inside r (Mov ty reg) = false
checks inside r (Do side inst retires) = false

-- a check of any kind, or `end`
abbrev pub is_between : HInst → Bool
is_between Cut = false
is_between Begin = false
is_between End = true
is_between (Tick work) = false
is_between (Chk when ty reg) = true
is_between (ChkMem ty ptr val) = true
is_between (Mov ty reg) = false
is_between (Do side inst retires) = false

-- an effect, inside or outside, in a block whose branch is checked by its targets or not
abbrev pub is_effect : Bool → Bool → Inst → Bool
is_effect inside edge_checked (insts.Bin dst op flags w a b) = false
is_effect inside edge_checked (insts.Cmp dst pred ty a b) = false
is_effect inside edge_checked (insts.Select dst cond ty a b) = false
is_effect inside edge_checked (insts.Cast dst op from a to) = false
is_effect inside edge_checked (insts.Gep dst base ptr index) = false
is_effect inside edge_checked (insts.Alloca dst ty) = false
is_effect inside edge_checked (insts.Load dst ty ptr atomic) = atomic
is_effect inside edge_checked (insts.Store ty val ptr atomic) = atomic || not inside
is_effect inside edge_checked (insts.Rmw dst op ptr ty val) = true
is_effect inside edge_checked (insts.CmpXchg dst ptr ty old new) = true
is_effect inside edge_checked insts.Fence = false
is_effect inside edge_checked (insts.Extract dst elem pair index) = false
is_effect inside edge_checked (insts.Call dst ret callee args) = true
is_effect inside edge_checked (insts.Phi dst ty arms) = false
is_effect inside edge_checked (insts.Br to) = false
is_effect inside edge_checked (insts.CondBr cond on_true on_false) = not edge_checked
is_effect inside edge_checked (insts.Switch ty on default cases) = true
is_effect inside edge_checked (insts.Ret ty val) = true
is_effect inside edge_checked insts.Unreachable = false

-- an effect that uses it
abbrev pub uses : Bool → Bool → HReg → HInst → Bool
uses inside edge_checked r Cut = false
uses inside edge_checked r Begin = false
uses inside edge_checked r End = false
uses inside edge_checked r (Tick work) = false
uses inside edge_checked r (Chk when ty reg) = false
uses inside edge_checked r (ChkMem ty ptr val) = false
uses inside edge_checked r (Mov ty reg) = false
uses inside edge_checked r (Do side inst retires) = is_effect inside edge_checked inst && is_among r side (regs_in inst)

abbrev pub is_copy : HInst → Bool
is_copy Cut = false
is_copy Begin = false
is_copy End = false
is_copy (Tick work) = false
is_copy (Chk when ty reg) = false
is_copy (ChkMem ty ptr val) = false
is_copy (Mov ty reg) = true
is_copy (Do side inst retires) = false

-- a copy of it, which is a master
abbrev pub copies : HReg → HInst → Bool
copies r Cut = false
copies r Begin = false
copies r End = false
copies r (Tick work) = false
copies r (Chk when ty reg) = false
copies r (ChkMem ty ptr val) = false
copies r (Mov ty reg) = same_reg r (record { side = M; loc = reg })
copies r (Do side inst retires) = false

-- ---- windows

-- what was passed, the last first, has a check of it with only checks and `end` after that
abbrev pub checked_before : Bool → HReg → List HInst → Bool
checked_before inside r [] = false
checked_before inside r (inst ∷ passed) = checks inside r inst || (is_between inst && checked_before inside r passed)

-- what is left has an effect that uses it with only checks and `end` before that
abbrev pub used_next : Bool → Bool → HReg → List HInst → Bool
used_next inside edge_checked r [] = false
used_next inside edge_checked r (inst ∷ code) =
    uses inside edge_checked r inst || (is_between inst && used_next inside edge_checked r code)

-- what is left has a copy of it with only copies before that
abbrev pub copied_next : HReg → List HInst → Bool
copied_next r [] = false
copied_next r (inst ∷ code) = copies r inst || (is_copy inst && copied_next r code)

-- a register is in a window, with these instructions passed, the last first, and those left
abbrev pub is_window : Bool → Bool → HReg → List HInst → List HInst → Bool
is_window inside edge_checked r passed code =
    (checked_before inside r passed && used_next inside edge_checked r code) || copied_next r code

-- the same by the index of the next instruction in a block's list
abbrev pub in_window : Bool → Bool → HReg → List HInst → ℕ → Bool
in_window inside edge_checked r list index = is_window inside edge_checked r (reverse (take index list)) (drop index list)

-- ---- branches that are checked by their targets

abbrev pub is_one_bit_width : Width → Bool
is_one_bit_width W1 = true
is_one_bit_width W8 = false
is_one_bit_width W16 = false
is_one_bit_width W32 = false
is_one_bit_width W64 = false

abbrev pub is_one_bit_step : Ty-F Ty → Bool
is_one_bit_step Ty-F.Void = false
is_one_bit_step (Ty-F.Int w) = is_one_bit_width w
is_one_bit_step Ty-F.Ptr = false
is_one_bit_step (Ty-F.Array count element) = false
is_one_bit_step (Ty-F.Struct fields) = false
is_one_bit_step (Ty-F.Named id) = false

abbrev pub is_one_bit : Ty → Bool
is_one_bit ty = is_one_bit_step (out-Ty ty)

-- the register whose two sides a block's list begins by comparing, always and as one bit
abbrev pub first_compared : List HInst → Option Loc
first_compared [] = None
first_compared (Cut ∷ code) = None
first_compared (Begin ∷ code) = None
first_compared (End ∷ code) = None
first_compared (Tick work ∷ code) = None
first_compared (Chk Always ty reg ∷ code) = if_one_bit (is_one_bit ty)
  where
    if_one_bit : Bool → Option Loc
    if_one_bit true = Some reg
    if_one_bit false = None
first_compared (Chk Plain ty reg ∷ code) = None
first_compared (Chk Tx ty reg ∷ code) = None
first_compared (ChkMem ty ptr val ∷ code) = None
first_compared (Mov ty reg ∷ code) = None
first_compared (Do side inst retires ∷ code) = None

-- a phi of a side that assigns a register
abbrev pub assigns_on : Side → Loc → Side × Inst → Bool
assigns_on side reg phi = same_side side phi.0 && assigns reg phi.1
  where
    assigns : Loc → Inst → Bool
    assigns reg (insts.Phi dst ty arms) = nat_eq reg.0 dst.0
    assigns reg other = false

-- the value that it takes from a label
abbrev pub arm_of : Loc → Side × Inst → Option Val
arm_of label (side, insts.Phi dst ty arms) = arm_from label arms
arm_of label (side, other) = None

abbrev pub phi_value : HBlock → Side → Loc → Loc → Option Val
phi_value block side reg label = option_map_or (arm_of label) (find (assigns_on side reg) block.phis) None

abbrev pub is_number : ℕ → Option Val → Bool
is_number n (Some (values.Int m)) = nat_eq n m
is_number n (Some (values.Reg reg)) = false
is_number n (Some values.Null) = false
is_number n (Some (values.Global sym)) = false
is_number n (Some (values.Gep gep)) = false
is_number n None = false

abbrev pub is_register : Loc → Option Val → Bool
is_register reg (Some (values.Reg other)) = nat_eq reg.0 other.0
is_register reg (Some (values.Int m)) = false
is_register reg (Some values.Null) = false
is_register reg (Some (values.Global sym)) = false
is_register reg (Some (values.Gep gep)) = false
is_register reg None = false

-- a target compares the number of the direction with the condition's shadow, as they come from a label
abbrev pub compares_in : HBlock → Loc → ℕ → Loc → Loc → Bool
compares_in target from number condition d =
    is_number number (phi_value target M d from) && is_register condition (phi_value target S d from)

abbrev pub checks_direction : Loc → ℕ → Loc → HBlock → Bool
checks_direction from number condition target = option_map_or (compares_in target from number condition) (first_compared target.list) false

abbrev pub target_checks : List HBlock → Loc → ℕ → Loc → Loc → Bool
target_checks blocks from number condition label =
    option_map_or (checks_direction from number condition) (find (λ block. nat_eq block.label.0 label.0) blocks) false

-- a conditional branch on a register to two blocks, each of which checks its direction
abbrev pub is_guarded : List HBlock → Loc → HInst → Bool
is_guarded blocks from Cut = false
is_guarded blocks from Begin = false
is_guarded blocks from End = false
is_guarded blocks from (Tick work) = false
is_guarded blocks from (Chk when ty reg) = false
is_guarded blocks from (ChkMem ty ptr val) = false
is_guarded blocks from (Mov ty reg) = false
is_guarded blocks from (Do side inst retires) = branches inst
  where
    on_register : Val → Loc → Loc → Bool
    on_register (values.Reg condition) on_true on_false = not (nat_eq on_true.0 on_false.0)
        && (target_checks blocks from 1 condition on_true && target_checks blocks from 0 condition on_false)
    on_register other on_true on_false = false

    branches : Inst → Bool
    branches (insts.CondBr condition on_true on_false) = on_register condition on_true on_false
    branches other = false

abbrev pub last_guarded : List HBlock → Loc → List HInst → Bool
last_guarded blocks from [] = false
last_guarded blocks from (inst ∷ []) = is_guarded blocks from inst
last_guarded blocks from (inst ∷ next ∷ code) = last_guarded blocks from (next ∷ code)

-- a block's branch is checked by its targets
abbrev pub is_edge_checked : List HBlock → HBlock → Bool
is_edge_checked blocks block = last_guarded blocks block.label block.list
