-- The windows of a block as intervals: for each effect or copy, each register that it uses and each mode, the indices of the next instruction
-- at which it makes a window for that register.
--
-- Choices: an instruction's intervals are told by what was passed before it, the last first, as windows are.
use Rattle.std.specs.Prelude.{ℕ, suc, nat_eq, nat_le, ◌&&◌, Bool, true, false, List, [], ◌∷◌, ◌++◌, length, Option, Some, None}
use Rattle.std.specs.List.{list_any}
use Rattle.std.specs.Option.{option_or}
use Rattle.ir_core.specs.declared.types.Loc.{Loc}
use Rattle.ir_core.specs.declared.values.Side.{Side}
use Rattle.ir_core.specs.declared.values.Side.TheVariants.{M}
use Rattle.ir_core.specs.declared.instruction.Inst.{Inst}
use Rattle.ir_core.specs.declared.instruction.Inst.TheVariants as insts
use Rattle.ir_flow.specs.Uses.{regs_in}
use Rattle.hard_ir.specs.declared.instruction.HReg.{HReg}
use Rattle.hard_ir.specs.declared.instruction.HInst.{HInst}
use Rattle.hard_ir.specs.declared.instruction.HInst.TheVariants.{Cut, Begin, End, Tick, Chk, ChkMem, Mov, Do}
use Rattle.upset_model.specs.declared.blocks.Interval.{Interval}
use Rattle.upset_model.specs.Windows.{same_reg, checks, is_between, is_effect, is_copy}

-- ---- registers

abbrev pub is_in : Loc → List Loc → Bool
is_in reg regs = list_any (λ other. nat_eq reg.0 other.0) regs

-- those that an instruction reads, if it is one that can be an effect
abbrev pub used_by : Inst → List Loc
used_by (insts.Bin dst op flags w a b) = []
used_by (insts.Cmp dst pred ty a b) = []
used_by (insts.Select dst cond ty a b) = []
used_by (insts.Cast dst op from a to) = []
used_by (insts.Gep dst base ptr index) = []
used_by (insts.Alloca dst ty) = []
used_by (insts.Load dst ty ptr atomic) = regs_in (insts.Load dst ty ptr atomic)
used_by (insts.Store ty val ptr atomic) = regs_in (insts.Store ty val ptr atomic)
used_by (insts.Rmw dst op ptr ty val) = regs_in (insts.Rmw dst op ptr ty val)
used_by (insts.CmpXchg dst ptr ty old new) = regs_in (insts.CmpXchg dst ptr ty old new)
used_by insts.Fence = []
used_by (insts.Extract dst elem pair index) = []
used_by (insts.Call dst ret callee args) = regs_in (insts.Call dst ret callee args)
used_by (insts.Phi dst ty arms) = []
used_by (insts.Br to) = []
used_by (insts.CondBr cond on_true on_false) = regs_in (insts.CondBr cond on_true on_false)
used_by (insts.Switch ty on default cases) = regs_in (insts.Switch ty on default cases)
used_by (insts.Ret ty val) = regs_in (insts.Ret ty val)
used_by insts.Unreachable = []

-- ---- where windows begin

abbrev pub where_between : Bool → Option ℕ → Option ℕ
where_between true found = found
where_between false found = None

abbrev pub number_if : Bool → ℕ → Option ℕ
number_if true n = Some n
number_if false n = None

-- the index of the first active check of a register with only checks and `end` after it
abbrev pub first_checked : Bool → HReg → List HInst → Option ℕ
first_checked inside r [] = None
first_checked inside r (inst ∷ passed) =
    where_between (is_between inst) (option_or (first_checked inside r passed) (number_if (checks inside r inst) (length passed)))

abbrev pub index_if : Bool → ℕ → ℕ → ℕ
index_if true before here = before
index_if false before here = here

-- the index after which there are only copies
abbrev pub copies_from : List HInst → ℕ
copies_from [] = 0
copies_from (inst ∷ passed) = index_if (is_copy inst) (copies_from passed) (suc (length passed))

-- ---- the intervals of an instruction

abbrev pub on_side : Side → Loc → HReg
on_side side reg = record { side = side; loc = reg }

abbrev pub after_check : HReg → Bool → ℕ → Option ℕ → List Interval
after_check r inside until None = []
after_check r inside until (Some check) = record { reg = r; inside = inside; from = suc check; until = until } ∷ []

abbrev pub checked_intervals : Bool → Side → List HInst → List Loc → List Interval
checked_intervals inside side passed [] = []
checked_intervals inside side passed (reg ∷ regs) =
    after_check (on_side side reg) inside (length passed) (first_checked inside (on_side side reg) passed) ++ checked_intervals inside side passed regs

abbrev pub intervals_if : Bool → Bool → Side → List HInst → List Loc → List Interval
intervals_if true inside side passed regs = checked_intervals inside side passed regs
intervals_if false inside side passed regs = []

abbrev pub effect_intervals : Bool → Bool → Side → List HInst → Inst → List Interval
effect_intervals edge_checked inside side passed inst =
    intervals_if (is_effect inside edge_checked inst) inside side passed (used_by inst)

abbrev pub copy_interval : Loc → List HInst → Bool → Interval
copy_interval reg passed inside = record { reg = on_side M reg; inside = inside; from = copies_from passed; until = length passed }

abbrev pub intervals_at : Bool → List HInst → HInst → List Interval
intervals_at edge_checked passed Cut = []
intervals_at edge_checked passed Begin = []
intervals_at edge_checked passed End = []
intervals_at edge_checked passed (Tick work) = []
intervals_at edge_checked passed (Chk when ty reg) = []
intervals_at edge_checked passed (ChkMem ty ptr val) = []
intervals_at edge_checked passed (Mov ty reg) = copy_interval reg passed false ∷ copy_interval reg passed true ∷ []
intervals_at edge_checked passed (Do side inst retires) =
    effect_intervals edge_checked false side passed inst ++ effect_intervals edge_checked true side passed inst

-- ---- the intervals of a block

abbrev pub intervals_from : Bool → List HInst → List HInst → List Interval
intervals_from edge_checked passed [] = []
intervals_from edge_checked passed (inst ∷ code) = intervals_at edge_checked passed inst ++ intervals_from edge_checked (inst ∷ passed) code

abbrev pub intervals_of : Bool → List HInst → List Interval
intervals_of edge_checked list = intervals_from edge_checked [] list

-- ---- what intervals hold

abbrev pub same_mode : Bool → Bool → Bool
same_mode true inside = inside
same_mode false true = false
same_mode false false = true

-- an interval is one of a register in a mode, and an index lies in it
abbrev pub holds : HReg → Bool → ℕ → Interval → Bool
holds r inside q interval =
    same_reg r interval.reg && (same_mode inside interval.inside && (nat_le interval.from q && nat_le q interval.until))

abbrev pub is_held : HReg → Bool → ℕ → List Interval → Bool
is_held r inside q intervals = list_any (holds r inside q) intervals
