-- The image table: what stands for each instruction of an accepted module in its hardened program, column by column. The hardening is
-- the tool's own; it follows the two flows, master and shadow, and the checks before effects of 'HAFT: Hardware-Assisted Fault
-- Tolerance' (EuroSys 2016).
--
-- Choices: each row is the image of one instruction, and a block is the concatenation of the images of its instructions. A column is
-- added by a function on one instruction's image, and never at a place of a block. A check stands for each operand that is a register,
-- also where one is written twice. An instruction that is done once is done on the master's side, and its result is copied.
-- The one of the image that does the instruction last retires it.
-- A check that stands after a plain store compares what the store has left in memory. A transaction ends before a call of an external, whose
-- effects no abort undoes; lock and unlock calls are done inside, where they can be. What a callee is, its name says.
use Rattle.std.specs.Prelude.{ℕ, suc, ◌+◌, ◌&&◌, Bool, true, false, List, [], ◌∷◌, ◌++◌, map, Option, Some, None, if◌then◌else◌}
use Rattle.std.specs.List.{flat_map}
use Rattle.ir_core.specs.declared.types.Ty.{Ty}
use Rattle.ir_core.specs.declared.types.Ty.TheVariants as types
use Rattle.ir_core.specs.declared.types.Loc.{Loc}
use Rattle.ir_core.specs.declared.types.Width.TheVariants.{W1}
use Rattle.ir_core.specs.declared.values.Val.{Val}
use Rattle.ir_core.specs.declared.values.Val.TheVariants as values
use Rattle.ir_core.specs.declared.values.Side.{Side}
use Rattle.ir_core.specs.declared.values.Side.TheVariants.{M, S}
use Rattle.ir_core.specs.declared.instruction.Inst.{Inst}
use Rattle.ir_core.specs.declared.instruction.Inst.TheVariants as insts
use Rattle.ir_core.specs.declared.instruction.Flags.{Flags}
use Rattle.ir_core.specs.Module.{ModuleParts}
use Rattle.ir_calls.specs.declared.externals.External.{External}
use Rattle.ir_calls.specs.declared.externals.External.TheVariants.{PthreadCreate, PthreadJoin, MutexLock, MutexUnlock, Putchar, Exit, Malloc, Free, HaftOut, HaftArg}
use Rattle.ir_calls.specs.Calls.{external_named}
use Rattle.hard_ir.specs.declared.instruction.When.{When}
use Rattle.hard_ir.specs.declared.instruction.When.TheVariants.{Always, Plain, Tx}
use Rattle.hard_ir.specs.declared.instruction.HVal.{HVal}
use Rattle.hard_ir.specs.declared.instruction.HVal.TheVariants as operands
use Rattle.hard_ir.specs.declared.instruction.HInst.{HInst}
use Rattle.hard_ir.specs.declared.instruction.HInst.TheVariants.{Cut, Begin, End, Tick, Chk, ChkMem, Mov, Do}

-- what a set of columns makes: of a function's parameters at its entry, at a loop head behind its phis, and of each instruction
pub record Table : Type 0 where
  pub entry : List (Ty × Loc) → List HInst
  pub head : List HInst
  pub image : Inst → List HInst

-- ---- the column of masters and shadows

-- hardened operators have no flags: a result that a flag makes poison is no concern of the hardening
abbrev pub no_flags : Flags
no_flags = record { nuw = false; nsw = false; exact = false }

abbrev pub unflagged : Inst → Inst
unflagged (insts.Bin dst op flags w a b) = insts.Bin dst op no_flags w a b
unflagged inst = inst

-- what only computes is done on each side; all else is done once
abbrev pub is_doubled : Inst → Bool
is_doubled (insts.Bin dst op flags w a b) = true
is_doubled (insts.Cmp dst pred ty a b) = true
is_doubled (insts.Select dst cond ty a b) = true
is_doubled (insts.Cast dst op from a to) = true
is_doubled (insts.Gep dst base ptr index) = true
is_doubled (insts.Extract dst elem pair index) = true
is_doubled inst = false

-- what a `cmpxchg` gives: the old word, and whether it succeeded
abbrev pub pair_of : Ty → Ty
pair_of ty = types.Struct (ty ∷ types.Int W1 ∷ [])

-- the result of an instruction that is done once, with its type
abbrev pub single_result : Inst → Option (Ty × Loc)
single_result (insts.Alloca dst ty) = Some (types.Ptr, dst)
single_result (insts.Load dst ty ptr atomic) = Some (ty, dst)
single_result (insts.Rmw dst op ptr ty val) = Some (ty, dst)
single_result (insts.CmpXchg dst ptr ty old new) = Some (pair_of ty, dst)
single_result (insts.Call (Some dst) ret callee args) = Some (ret, dst)
single_result inst = None

-- a register of a type is copied to its shadow
abbrev pub copy_of : Ty × Loc → HInst
copy_of reg = Mov reg.0 reg.1

abbrev pub copies : Option (Ty × Loc) → List HInst
copies None = []
copies (Some reg) = copy_of reg ∷ []

-- an instruction that is done on each side, or once
abbrev pub done_by : Bool → Inst → List HInst
done_by true inst = Do M inst false ∷ Do S inst true ∷ []
done_by false inst = Do M inst true ∷ copies (single_result inst)

-- phis stand apart, at the head of their block
abbrev pub flow : Inst → List HInst
flow (insts.Phi dst ty arms) = []
flow inst = done_by (is_doubled inst) (unflagged inst)

-- a phi takes a word for each side
abbrev pub phi_image : Inst → List (Side × Inst)
phi_image (insts.Phi dst ty arms) = (M, insts.Phi dst ty arms) ∷ (S, insts.Phi dst ty arms) ∷ []
phi_image inst = []

-- masters, shadows and copies
abbrev pub flow_table : Table
flow_table = record { entry = map copy_of; head = []; image = flow }

-- ---- the column of checks

-- the operands that are checked before an instruction is done, in the order in which its line writes them, but of a store the pointer first
abbrev pub checked : Inst → List (Ty × Val)
checked (insts.Load dst ty ptr atomic) = (types.Ptr, ptr) ∷ []
checked (insts.Store ty val ptr atomic) = (types.Ptr, ptr) ∷ (ty, val) ∷ []
checked (insts.Rmw dst op ptr ty val) = (types.Ptr, ptr) ∷ (ty, val) ∷ []
checked (insts.CmpXchg dst ptr ty old new) = (types.Ptr, ptr) ∷ (ty, old) ∷ (ty, new) ∷ []
checked (insts.Call dst ret callee args) = args
checked (insts.CondBr cond on_true on_false) = (types.Int W1, cond) ∷ []
checked (insts.Switch ty on default cases) = (ty, on) ∷ []
checked (insts.Ret ty (Some val)) = (ty, val) ∷ []
checked inst = []

-- the check of an operand, where it is a register
abbrev pub check : Ty × Val → List HInst
check (ty, values.Reg reg) = Chk Always ty reg ∷ []
check (ty, val) = []

-- the checks of an instruction stand before its image
abbrev pub with_checks : Inst → List HInst → List HInst
with_checks inst image = flat_map check (checked inst) ++ image

-- those, and checks
abbrev pub check_table : Table
check_table = record flow_table { image = λ inst. with_checks inst (flow inst) }

-- ---- the column of double loads and of late checks

-- a plain load is done on each side too: the shadow reads memory at its own address
abbrev pub is_done_twice : Inst → Bool
is_done_twice (insts.Bin dst op flags w a b) = true
is_done_twice (insts.Cmp dst pred ty a b) = true
is_done_twice (insts.Select dst cond ty a b) = true
is_done_twice (insts.Cast dst op from a to) = true
is_done_twice (insts.Gep dst base ptr index) = true
is_done_twice (insts.Extract dst elem pair index) = true
is_done_twice (insts.Load dst ty ptr false) = true
is_done_twice (insts.Load dst ty ptr true) = false
is_done_twice (insts.Alloca dst ty) = false
is_done_twice (insts.Store ty val ptr atomic) = false
is_done_twice (insts.Rmw dst op ptr ty val) = false
is_done_twice (insts.CmpXchg dst ptr ty old new) = false
is_done_twice insts.Fence = false
is_done_twice (insts.Call dst ret callee args) = false
is_done_twice (insts.Phi dst ty arms) = false
is_done_twice (insts.Br to) = false
is_done_twice (insts.CondBr cond on_true on_false) = false
is_done_twice (insts.Switch ty on default cases) = false
is_done_twice (insts.Ret ty val) = false
is_done_twice insts.Unreachable = false

-- so its address isn't checked
abbrev pub checked_before : Inst → List (Ty × Val)
checked_before (insts.Load dst ty ptr false) = []
checked_before inst = checked inst

-- the operands of a plain store are checked before it only outside a transaction
abbrev pub checked_when : Inst → When
checked_when (insts.Store ty val ptr false) = Plain
checked_when inst = Always

abbrev pub check_when : When → Ty × Val → List HInst
check_when when (ty, values.Reg reg) = Chk when ty reg ∷ []
check_when when (ty, val) = []

abbrev pub checks_before : Inst → List HInst
checks_before inst = flat_map (check_when (checked_when inst)) (checked_before inst)

-- the instruction by itself, on each side or once
abbrev pub core : Inst → List HInst
core (insts.Phi dst ty arms) = []
core inst = done_by (is_done_twice inst) (unflagged inst)

-- an operand on the shadow's side
abbrev pub on_shadow : Val → HVal
on_shadow (values.Reg reg) = operands.Reg (record { side = S; loc = reg })
on_shadow val = operands.Const val

-- Inside a transaction a plain store is checked after it: its pointer, and what stands there against the shadow's word.
abbrev pub checks_after : Inst → List HInst
checks_after (insts.Store ty val ptr false) = check_when Tx (types.Ptr, ptr) ++ ChkMem ty (on_shadow ptr) (on_shadow val) ∷ []
checks_after inst = []

abbrev pub relaxed : Inst → List HInst
relaxed inst = checks_before inst ++ (core inst ++ checks_after inst)

-- masters, shadows, copies and checks, with double loads and late checks
abbrev pub relax_table : Table
relax_table = record flow_table { image = relaxed }

-- ---- the column of transactions

-- how a call stands to transactions: it goes into a function of the module, leaves the module, or takes or gives a lock
pub data CallKind : Type 0 where
  Inner : CallKind
  Outer : CallKind
  OfLock : CallKind

-- by the external that its callee's name names
abbrev pub kind_of : Option External → CallKind
kind_of None = Inner
kind_of (Some MutexLock) = OfLock
kind_of (Some MutexUnlock) = OfLock
kind_of (Some PthreadCreate) = Outer
kind_of (Some PthreadJoin) = Outer
kind_of (Some Putchar) = Outer
kind_of (Some Exit) = Outer
kind_of (Some Malloc) = Outer
kind_of (Some Free) = Outer
kind_of (Some HaftOut) = Outer
kind_of (Some HaftArg) = Outer

abbrev pub ends_for : CallKind → List HInst
ends_for Inner = []
ends_for Outer = End ∷ []
ends_for OfLock = []

abbrev pub begins_for : CallKind → List HInst
begins_for Inner = Cut ∷ Begin ∷ []
begins_for Outer = Begin ∷ []
begins_for OfLock = Begin ∷ []

-- a transaction ends before what leaves the module
abbrev pub ends_before : ModuleParts → Inst → List HInst
ends_before m (insts.Call dst ret callee args) = ends_for (kind_of (external_named m callee))
ends_before m inst = []

-- and one begins after each call
abbrev pub begins_after : ModuleParts → Inst → List HInst
begins_after m (insts.Call dst ret callee args) = begins_for (kind_of (external_named m callee))
begins_after m inst = []

-- what does the instruction, between its checks before and what begins after it
abbrev pub body_of : ModuleParts → Inst → List HInst
body_of m inst = ends_before m inst ++ (core inst ++ checks_after inst)

abbrev pub placed : ModuleParts → Inst → List HInst
placed m inst = checks_before inst ++ (body_of m inst ++ begins_after m inst)

-- where a long transaction may be cut
abbrev pub cut_point : List HInst
cut_point = Cut ∷ Begin ∷ []

-- and transactions: at the entry of a function, at loop heads and after calls one may be cut or begins
abbrev pub place_table : ModuleParts → Table
place_table m = record { entry = λ params. map copy_of params ++ cut_point; head = cut_point; image = placed m }

-- ---- the column of ticks

-- what leaves a block or its function, or calls
abbrev pub leaves : Inst → Bool
leaves (insts.Br to) = true
leaves (insts.CondBr cond on_true on_false) = true
leaves (insts.Switch ty on default cases) = true
leaves (insts.Call dst ret callee args) = true
leaves (insts.Ret ty val) = true
leaves insts.Unreachable = true
leaves (insts.Bin dst op flags w a b) = false
leaves (insts.Cmp dst pred ty a b) = false
leaves (insts.Select dst cond ty a b) = false
leaves (insts.Cast dst op from a to) = false
leaves (insts.Gep dst base ptr index) = false
leaves (insts.Alloca dst ty) = false
leaves (insts.Load dst ty ptr atomic) = false
leaves (insts.Store ty val ptr atomic) = false
leaves (insts.Rmw dst op ptr ty val) = false
leaves (insts.CmpXchg dst ptr ty old new) = false
leaves insts.Fence = false
leaves (insts.Extract dst elem pair index) = false
leaves (insts.Phi dst ty arms) = false

-- a tick of this much work
abbrev pub tick_if : Bool → ℕ → List HInst
tick_if true work = Tick work ∷ []
tick_if false work = []

-- before what leaves stands a tick
abbrev pub tick_before : ℕ → Inst → List HInst
tick_before work inst = tick_if (leaves inst) work

-- the whole row of an instruction, with a tick of this much work
abbrev pub row : ModuleParts → ℕ → Inst → List HInst
row m work inst = tick_before work inst ++ placed m inst

-- and ticks, which have no number yet
abbrev pub split_table : ModuleParts → Table
split_table m = record (place_table m) { image = row m 0 }

-- ---- the numbers of ticks, over the list of a block

-- an ender retires what leaves
abbrev pub is_ender : HInst → Bool
is_ender (Do side inst retires) = retires && leaves inst
is_ender (Mov ty reg) = false
is_ender (Chk when ty reg) = false
is_ender (ChkMem ty ptr val) = false
is_ender (Tick work) = false
is_ender Cut = false
is_ender Begin = false
is_ender End = false

-- how many items there are up to the first ender, with it
abbrev pub to_ender : List HInst → ℕ
to_ender [] = 0
to_ender (item ∷ list) = if is_ender item then 1 else suc (to_ender list)

-- how many there are after the last ender, once an item comes after so many
abbrev pub since_ender : ℕ → HInst → ℕ
since_ender since item = if is_ender item then 0 else suc since

-- a tick gets this number
abbrev pub with_work : ℕ → HInst → HInst
with_work work (Tick old) = Tick work
with_work work (Do side inst retires) = Do side inst retires
with_work work (Mov ty reg) = Mov ty reg
with_work work (Chk when ty reg) = Chk when ty reg
with_work work (ChkMem ty ptr val) = ChkMem ty ptr val
with_work work Cut = Cut
with_work work Begin = Begin
with_work work End = End

-- A tick's number is how many items stand after the last ender, up to the next one and with it; so many stood there before.
abbrev pub ticked : ℕ → List HInst → List HInst
ticked since [] = []
ticked since (item ∷ list) = with_work (since + to_ender (item ∷ list)) item ∷ ticked (since_ender since item) list
