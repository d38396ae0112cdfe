-- What an instruction asks for, on the words of one register file.
--
-- Choices: an action names no destination, so that equal words give equal actions on either copy of the registers and under any
-- numbering. An instruction that reads a register without a word asks for nothing that can be done, which counts as
-- `unreachable`; so no proof above needs definite assignment. Every operand is read, also the value that a `select` doesn't
-- take, and all arguments of a call. What operators give are the rows of `op_table`. What no accepted module has, as a cast
-- between types that it doesn't join, counts as `unreachable` too.
use Rattle.std.specs.Prelude.{ℕ, ◌+◌, ◌/◌, ◌%◌, ◌^◌, ◌==◌, nat_eq, nat_lt, Bool, true, false, List, [], ◌∷◌, map, length, Option, Some, None, Result, Ok, Err, if◌then◌else◌, unwrap_or}
use Rattle.std.specs.List.{slice_index_or, position, range_with_len}
use Rattle.std.specs.Map.{lookup}
use Rattle.ir_core.specs.declared.types.Width.{Width}
use Rattle.ir_core.specs.declared.types.Width.TheVariants.{W1}
use Rattle.ir_core.specs.declared.types.Ty.{Ty}
use Rattle.ir_core.specs.declared.types.Loc.{Loc}
use Rattle.ir_core.specs.declared.types.Sym.{Sym}
use Rattle.ir_core.specs.declared.values.Val.{Val}
use Rattle.ir_core.specs.declared.values.Val.TheVariants as values
use Rattle.ir_core.specs.declared.instruction.BinOp.{BinOp}
use Rattle.ir_core.specs.declared.instruction.Flags.{Flags}
use Rattle.ir_core.specs.declared.instruction.Pred.{Pred}
use Rattle.ir_core.specs.declared.instruction.CastOp.{CastOp}
use Rattle.ir_core.specs.declared.instruction.CastOp.TheVariants.{Zext, Sext, Trunc, Ptrtoint, Inttoptr}
use Rattle.ir_core.specs.declared.instruction.RmwOp.{RmwOp}
use Rattle.ir_core.specs.declared.instruction.Inst.{Inst}
use Rattle.ir_core.specs.declared.instruction.Inst.TheVariants as insts
use Rattle.ir_core.specs.Module.{ModuleParts}
use Rattle.op_table.specs.declared.OpCause.{OpCause}
use Rattle.op_table.specs.declared.OpCause.TheVariants as causes
use Rattle.op_table.specs.Operators.{bits, binary, compares, converted}
use Rattle.ir_layout.specs.Memory.{LayoutParts}
use Rattle.ir_layout.specs.KeptShapes.{word}
use Rattle.ir_layout.specs.Offsets.{offset_of}
use Rattle.ir_calls.specs.declared.externals.External.{External}
use Rattle.ir_calls.specs.declared.externals.External.TheVariants.{PthreadCreate, PthreadJoin, MutexLock, MutexUnlock, Putchar, Exit as ExitProgram, Malloc, Free as FreeMemory, HaftOut, HaftArg}
use Rattle.ir_calls.specs.Externals.{external_of}
use Rattle.ir_calls.specs.Calls.{external_named}
use Rattle.mem_image.specs.Opening.{size_in}
use Rattle.inst_meaning.specs.Registers.{get}
use Rattle.inst_meaning.specs.declared.actions.Callee.{Callee}
use Rattle.inst_meaning.specs.declared.actions.Callee.TheVariants.{Defined, Outside, Unknown}
use Rattle.inst_meaning.specs.declared.actions.Cause.{Cause}
use Rattle.inst_meaning.specs.declared.actions.Cause.TheVariants.{Divide, Poison, Unreachable}
use Rattle.inst_meaning.specs.declared.actions.Place.{Place}
use Rattle.inst_meaning.specs.declared.actions.Update.TheVariants.{Combine, Exchange}
use Rattle.inst_meaning.specs.declared.actions.Request.TheVariants.{Lock, Unlock, Put, Output, Allocate, Free, Argument}
use Rattle.inst_meaning.specs.declared.actions.Action.{Action}
use Rattle.inst_meaning.specs.declared.actions.Action.TheVariants.{Assign, Reserve, Read, Write, Update, Pass, Jump, Call, Ask, Create, Join, Exit, Return, Fault}
use Rattle.inst_meaning.specs.Operands.{width_of, memory_width, size_of_width, word_at, typed_word, pointer_word, argument_words, index_words}

-- ---- callees

-- the number of the function with a name
abbrev pub numbered_function : ModuleParts → Sym → Option ℕ
numbered_function m sym = position (λ f. nat_eq f.sym.0 sym.0) m.funcs

abbrev pub callee_with : Option ℕ → Option External → Callee
callee_with (Some n) external = Defined n
callee_with None (Some external) = Outside external
callee_with None None = Unknown

-- what an @ name stands for where it is called
abbrev pub callee_of : ModuleParts → Sym → Callee
callee_of m sym = callee_with (numbered_function m sym) (external_named m sym)

-- what a name stands for outside the module
abbrev pub outside_callee : List ℕ → Callee
outside_callee name = callee_with None (external_of name)

-- what each @ name stands for there, by number
abbrev pub callees_of : ModuleParts → List Callee
callees_of m = map (λ n. callee_of m (record { 0 = n })) (range_with_len 0 (length m.syms))

-- ---- actions that need words

-- an action on a word, where there is one
abbrev pub on_word : Option ℕ → (ℕ → Action) → Action
on_word None ask = Fault Unreachable
on_word (Some word) ask = ask word

-- an action at a width, where there is one
abbrev pub on_width : Option Width → (Width → Action) → Action
on_width None ask = Fault Unreachable
on_width (Some w) ask = ask w

-- ---- operators ('Binary Operations', 'Bitwise Binary Operations', 'icmp', 'select' and 'Conversion Operations')

abbrev pub cause_of : OpCause → Cause
cause_of causes.Divide = Divide
cause_of causes.Poison = Poison

-- an operator's result is assigned, or is undefined for its cause
abbrev pub operated : Result ℕ OpCause → Action
operated (Ok word) = Assign word
operated (Err cause) = Fault (cause_of cause)

abbrev pub operation : LayoutParts → List (Option ℕ) → BinOp → Flags → Width → Val → Val → Action
operation l registers op flags w a b =
    on_word (word_at l registers w a) (λ x. on_word (word_at l registers w b) (λ y. operated (binary op flags (bits w) x y)))

-- a word of one bit
abbrev pub truth : Bool → ℕ
truth false = 0
truth true = 1

abbrev pub comparison : LayoutParts → List (Option ℕ) → Pred → Ty → Val → Val → Action
comparison l registers pred ty a b =
    on_width (width_of ty) (λ w. on_word (word_at l registers w a) (λ x. on_word (word_at l registers w b) (λ y. Assign (truth (compares pred (bits w) x y)))))

abbrev pub selection : LayoutParts → List (Option ℕ) → Val → Ty → Val → Val → Action
selection l registers condition ty a b =
    on_word (word_at l registers W1 condition) (λ c. on_word (typed_word l registers ty a) (λ x. on_word (typed_word l registers ty b) (λ y. Assign (if c == 1 then x else y))))

-- the widths between which a cast goes
abbrev pub is_cast : CastOp → Width → Width → Bool
is_cast Zext from to = nat_lt (bits from) (bits to)
is_cast Sext from to = nat_lt (bits from) (bits to)
is_cast Trunc from to = nat_lt (bits to) (bits from)
is_cast Ptrtoint from to = bits from == 64
is_cast Inttoptr from to = bits to == 64

abbrev pub conversion : LayoutParts → List (Option ℕ) → CastOp → Ty → Val → Ty → Action
conversion l registers op from a to =
    on_width (width_of from) (λ v. on_width (width_of to) (λ w.
    if is_cast op v w then on_word (word_at l registers v a) (λ x. Assign (converted op (bits v) (bits w) x)) else Fault Unreachable))

-- ---- addresses and memory ('getelementptr', 'alloca', 'load', 'store', 'atomicrmw', 'cmpxchg' and 'extractvalue' Instruction)

abbrev pub inner_pointer : LayoutParts → Ty → ℕ → Option (List (Width × ℕ)) → Action
inner_pointer l base address None = Fault Unreachable
inner_pointer l base address (Some words) = on_word (offset_of l.types base words) (λ offset. Assign (word (address + offset)))

abbrev pub element : LayoutParts → List (Option ℕ) → Ty → Val → List (Width × Val) → Action
element l registers base ptr index = on_word (pointer_word l registers ptr) (λ address. inner_pointer l base address (index_words l registers index))

-- the bytes of a word of this width
abbrev pub place_at : ℕ → Width → Place
place_at address w = record { address = address; size = size_of_width w }

abbrev pub loading : LayoutParts → List (Option ℕ) → Ty → Val → Bool → Action
loading l registers ty ptr atomic = on_width (memory_width ty) (λ w. on_word (pointer_word l registers ptr) (λ address. Read (place_at address w) atomic))

abbrev pub storing : LayoutParts → List (Option ℕ) → Ty → Val → Val → Bool → Action
storing l registers ty val ptr atomic =
    on_width (memory_width ty) (λ w. on_word (pointer_word l registers ptr) (λ address. on_word (word_at l registers w val) (λ x. Write (place_at address w) x atomic)))

abbrev pub combining : LayoutParts → List (Option ℕ) → RmwOp → Val → Ty → Val → Action
combining l registers op ptr ty val =
    on_width (memory_width ty) (λ w. on_word (pointer_word l registers ptr) (λ address. on_word (word_at l registers w val) (λ x. Update (place_at address w) (Combine op w x))))

abbrev pub exchanging : LayoutParts → List (Option ℕ) → Val → Ty → Val → Val → Action
exchanging l registers ptr ty expected desired =
    on_width (memory_width ty) (λ w. on_word (pointer_word l registers ptr) (λ address.
    on_word (word_at l registers w expected) (λ x. on_word (word_at l registers w desired) (λ y. Update (place_at address w) (Exchange w x y)))))

-- the old word of what a `cmpxchg` gave, or the bit above it
abbrev pub extracted : ℕ → Width → ℕ → ℕ
extracted index w pair = if index == 0 then pair % 2 ^ bits w else pair / 2 ^ bits w

abbrev pub extraction : List (Option ℕ) → Ty → Loc → ℕ → Action
extraction registers elem pair index = on_width (width_of elem) (λ w. on_word (get registers pair.0) (λ p. Assign (extracted index w p)))

-- ---- control ('br', 'switch' and 'ret' Instruction)

abbrev pub branching : LayoutParts → List (Option ℕ) → Val → Loc → Loc → Action
branching l registers condition on_true on_false = on_word (word_at l registers W1 condition) (λ c. Jump (if c == 1 then on_true else on_false))

-- the label of the first case that is equal, or the default
abbrev pub case_of : ℕ → List (ℕ × Loc) → Loc → Loc
case_of n cases default = unwrap_or (lookup (nat_eq n) cases) default

abbrev pub switching : LayoutParts → List (Option ℕ) → Ty → Val → Loc → List (ℕ × Loc) → Action
switching l registers ty on default cases = on_word (typed_word l registers ty on) (λ n. Jump (case_of n cases default))

abbrev pub returning : LayoutParts → List (Option ℕ) → Ty → Option Val → Action
returning l registers ty None = Return 0
returning l registers ty (Some value) = on_word (typed_word l registers ty value) (λ n. Return n)

-- ---- calls ('call' Instruction)

-- an external that takes one word
abbrev pub asked : External → ℕ → Action
asked PthreadCreate n = Fault Unreachable
asked PthreadJoin n = Join n
asked MutexLock n = Ask (Lock n)
asked MutexUnlock n = Ask (Unlock n)
asked Putchar n = Ask (Put n)
asked ExitProgram n = Exit n
asked Malloc n = Ask (Allocate n)
asked FreeMemory n = Ask Free
asked HaftOut n = Ask (Output n)
asked HaftArg n = Ask (Argument n)

-- the function that a value names
abbrev pub function_of : Callee → Option ℕ
function_of (Defined n) = Some n
function_of other = None

abbrev pub named_function : List Callee → Val → Option ℕ
named_function callees (values.Global sym) = function_of (slice_index_or callees sym.0 Unknown)
named_function callees other = None

-- where the number goes, the attributes, what the thread runs, and what that is given
abbrev pub creating : LayoutParts → List Callee → List (Option ℕ) → List (Ty × Val) → Action
creating l callees registers (to ∷ attributes ∷ start ∷ argument ∷ []) =
    on_word (typed_word l registers to.0 to.1) (λ address. on_word (named_function callees start.1) (λ n. on_word (typed_word l registers argument.0 argument.1) (λ x. Create address n x)))
creating l callees registers arguments = Fault Unreachable

-- the others take their first argument; what follows it is a constant
abbrev pub asking : LayoutParts → List (Option ℕ) → External → List (Ty × Val) → Action
asking l registers external (argument ∷ others) = on_word (typed_word l registers argument.0 argument.1) (asked external)
asking l registers external [] = Fault Unreachable

abbrev pub outside : LayoutParts → List Callee → List (Option ℕ) → External → List (Ty × Val) → Action
outside l callees registers PthreadCreate arguments = creating l callees registers arguments
outside l callees registers external arguments = asking l registers external arguments

abbrev pub entering : ℕ → Option (List ℕ) → Action
entering n None = Fault Unreachable
entering n (Some words) = Call n words

abbrev pub calling : LayoutParts → List Callee → List (Option ℕ) → Callee → List (Ty × Val) → Action
calling l callees registers (Defined n) arguments = entering n (argument_words l registers arguments)
calling l callees registers (Outside external) arguments = outside l callees registers external arguments
calling l callees registers Unknown arguments = Fault Unreachable

-- ---- instructions

-- what an instruction asks for
abbrev pub action_of : LayoutParts → List Callee → List (Option ℕ) → Inst → Action
action_of l callees registers (insts.Bin dst op flags w a b) = operation l registers op flags w a b
action_of l callees registers (insts.Cmp dst pred ty a b) = comparison l registers pred ty a b
action_of l callees registers (insts.Select dst condition ty a b) = selection l registers condition ty a b
action_of l callees registers (insts.Cast dst op from a to) = conversion l registers op from a to
action_of l callees registers (insts.Gep dst base ptr index) = element l registers base ptr index
action_of l callees registers (insts.Alloca dst ty) = Reserve (size_in l ty)
action_of l callees registers (insts.Load dst ty ptr atomic) = loading l registers ty ptr atomic
action_of l callees registers (insts.Store ty val ptr atomic) = storing l registers ty val ptr atomic
action_of l callees registers (insts.Rmw dst op ptr ty val) = combining l registers op ptr ty val
action_of l callees registers (insts.CmpXchg dst ptr ty old new) = exchanging l registers ptr ty old new
action_of l callees registers insts.Fence = Pass
action_of l callees registers (insts.Extract dst elem pair index) = extraction registers elem pair index
action_of l callees registers (insts.Call dst ret callee args) = calling l callees registers (slice_index_or callees callee.0 Unknown) args
action_of l callees registers (insts.Br to) = Jump to
action_of l callees registers (insts.CondBr condition on_true on_false) = branching l registers condition on_true on_false
action_of l callees registers (insts.Switch ty on default cases) = switching l registers ty on default cases
action_of l callees registers (insts.Ret ty value) = returning l registers ty value
action_of l callees registers other = Fault Unreachable

-- the register that takes an instruction's result
abbrev pub destination : Inst → Option Loc
destination (insts.Bin dst op flags w a b) = Some dst
destination (insts.Cmp dst pred ty a b) = Some dst
destination (insts.Select dst condition ty a b) = Some dst
destination (insts.Cast dst op from a to) = Some dst
destination (insts.Gep dst base ptr index) = Some dst
destination (insts.Alloca dst ty) = Some dst
destination (insts.Load dst ty ptr atomic) = Some dst
destination (insts.Rmw dst op ptr ty val) = Some dst
destination (insts.CmpXchg dst ptr ty old new) = Some dst
destination (insts.Extract dst elem pair index) = Some dst
destination (insts.Call dst ret callee args) = dst
destination other = None
