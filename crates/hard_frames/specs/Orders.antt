-- What the code decodes, for a machine without transactions: each instruction is a failed check, or an action with the register that takes its result.
use Rattle.std.specs.Prelude.{ℕ, ◌==◌, Bool, true, false, Option, Some, None}
use Rattle.std.specs.Option.{option_map}
use Rattle.ir_core.specs.declared.types.Loc.{Loc}
use Rattle.ir_core.specs.declared.values.Side.{Side}
use Rattle.ir_core.specs.declared.values.Side.TheVariants.{S}
use Rattle.inst_meaning.specs.declared.actions.Cause.TheVariants.{Unreachable}
use Rattle.inst_meaning.specs.declared.actions.Reply.{Reply}
use Rattle.inst_meaning.specs.declared.actions.Reply.TheVariants.{Answers, Waits, Refuses}
use Rattle.inst_meaning.specs.declared.actions.Action.TheVariants.{Assign, Pass, Fault}
use Rattle.inst_meaning.specs.Accesses.{IsFitting}
use Rattle.inst_meaning.specs.Registers.{get}
use Rattle.hard_ir.specs.declared.instruction.When.{When}
use Rattle.hard_ir.specs.declared.instruction.When.TheVariants.{Always, Plain, Tx}
use Rattle.hard_ir.specs.declared.instruction.HInst.{HInst}
use Rattle.hard_ir.specs.declared.instruction.HInst.TheVariants.{Cut, Begin, End, Tick, Chk, ChkMem, Mov, Do}
use Rattle.hard_ir.specs.Hardened.{HardParts}
use Rattle.hard_frames.specs.declared.state.Frame.{Frame}
use Rattle.hard_frames.specs.declared.orders.Order.{Order}
use Rattle.hard_frames.specs.declared.orders.Order.TheVariants.{Acts, Fails}
use Rattle.hard_frames.specs.Code.{inst_at}
use Rattle.hard_frames.specs.Frames.{given_to, action_on, destination_on}

-- whether a check compares outside a transaction
abbrev pub is_active : When → Bool
is_active Always = true
is_active Plain = true
is_active Tx = false

-- it writes only words that fit
abbrev pub IsFittingOrder : Order → Type 0
IsFittingOrder (Acts dst retires action) = IsFitting action
IsFittingOrder Fails = Unit {0}

-- to go on, and to do nothing that can be done
abbrev pub passing : Order
passing = Acts None false Pass

abbrev pub undefined : Order
undefined = Acts None false (Fault Unreachable)

-- a check that compares these words
abbrev pub agreeing : Bool → Order
agreeing true = passing
agreeing false = Fails

abbrev pub comparing : Option ℕ → Option ℕ → Order
comparing (Some a) (Some b) = agreeing (a == b)
comparing (Some a) None = undefined
comparing None b = undefined

abbrev pub checking : Frame → Loc → Bool → Order
checking frame reg true = comparing (get frame.masters reg.0) (get frame.shadows reg.0)
checking frame reg false = passing

-- a copy of this word to a register's shadow
abbrev pub copying : Loc → Option ℕ → Order
copying reg (Some n) = Acts (Some (S, reg)) false (Assign n)
copying reg None = undefined

abbrev pub order_of : HardParts → Frame → HInst → Order
order_of h frame Cut = passing
order_of h frame Begin = passing
order_of h frame End = passing
order_of h frame (Tick n) = passing
order_of h frame (Chk when ty reg) = checking frame reg (is_active when)
order_of h frame (ChkMem ty ptr val) = passing
order_of h frame (Mov ty reg) = copying reg (get frame.masters reg.0)
order_of h frame (Do side inst retires) = Acts (destination_on side inst) retires (action_on h side frame inst)

abbrev pub ordered : HardParts → Frame → Option Order
ordered h frame = option_map (order_of h frame) (inst_at h frame)

-- ---- the environment

-- a frame that has asked has the reply's word
abbrev pub answered : Option (Side × Loc) → Reply → Frame → Frame
answered dst (Answers n) frame = given_to dst n frame
answered dst Waits frame = frame
answered dst (Refuses cause) frame = frame
