-- What the calls of a module must keep (LLVM Language Reference, 'call Instruction', 'Functions', 'Global Variables').
--
-- Choices: a function's name stands only where it is called, and as what a new thread runs; anywhere else it is refused as a
-- value. A global isn't called. What a thread's start and its end ask of arguments goes by the callee's name, also where the
-- module defines a function of that name; where such an argument lacks, the call is bad. A name that is defined twice stands
-- for what comes first: globals, then declares, then functions.
use Rattle.std.specs.Prelude.{Bool, true, false, not, ◌&&◌, List, [], ◌∷◌, ◌++◌, map, nat_eq, slice_index_or, Option, Some, None, is_none}
use Rattle.std.specs.List.{list_all}
use Rattle.std.specs.Map.{lookup}
use Rattle.ir_core.specs.declared.types.Ty.{Ty}
use Rattle.ir_core.specs.declared.types.Ty.TheVariants as types
use Rattle.ir_core.specs.declared.types.Sym.{Sym}
use Rattle.ir_core.specs.declared.types.Loc.{Loc}
use Rattle.ir_core.specs.declared.values.Val.{Val}
use Rattle.ir_core.specs.declared.values.Val.TheVariants as values
use Rattle.ir_core.specs.declared.values.Init.{Init, fold-Init}
use Rattle.ir_core.specs.declared.values.Init.TheOpen.{Init-F}
use Rattle.ir_core.specs.declared.values.GlobalVar.{GlobalVar}
use Rattle.ir_core.specs.declared.values.Declare.{Declare}
use Rattle.ir_core.specs.declared.instruction.Inst.{Inst}
use Rattle.ir_core.specs.declared.instruction.Inst.TheVariants as insts
use Rattle.ir_core.specs.Module.{ModuleParts, FuncParts}
use Rattle.ir_lines.specs.Lines.{Line, TypeLine, GlobalLine, DeclareLine, HeadLine, BlockLine, InstLine}
use Rattle.ir_lines.specs.SameTypes.{same_ty}
use Rattle.ir_calls.specs.declared.externals.External.{External}
use Rattle.ir_calls.specs.declared.externals.External.TheVariants.{PthreadCreate, PthreadJoin}
use Rattle.ir_calls.specs.Externals.{Signature, external_of, signature_of, has_signature}

-- ---- what an @ name stands for

-- a global, an external function, or a function of the module
pub data Standing : Type 0 where
  Variable : Standing
  Declared : Signature → Standing
  Defined : Signature → Standing

abbrev pub of_global : GlobalVar → Sym × Standing
of_global global = (global.sym, Variable)

abbrev pub of_declare : Declare → Sym × Standing
of_declare declare = (declare.sym, Declared (record { result = declare.ret; params = declare.params }))

abbrev pub of_func : FuncParts → Sym × Standing
of_func f = (f.sym, Defined (record { result = f.ret; params = map (λ param. param.0) f.params }))

-- each name with what it stands for
abbrev pub standings : ModuleParts → List (Sym × Standing)
standings m = map of_global m.globals ++ map of_declare m.declares ++ map of_func m.funcs

-- what the first of these tells that has the name
abbrev pub first_standing : Sym → List (Sym × Standing) → Option Standing
first_standing sym named = lookup (λ other. nat_eq other.0 sym.0) named

abbrev pub standing_of : ModuleParts → Sym → Option Standing
standing_of m sym = first_standing sym (standings m)

-- a function
abbrev pub is_callable : Option Standing → Bool
is_callable (Some (Declared signature)) = true
is_callable (Some (Defined signature)) = true
is_callable other = false

-- the name is a function's
abbrev pub is_function : ModuleParts → Sym → Bool
is_function m sym = is_callable (standing_of m sym)

-- the external that an @ name names
abbrev pub external_named : ModuleParts → Sym → Option External
external_named m sym = external_of (slice_index_or m.syms sym.0 [])

-- ---- functions as values

-- the value isn't a function's name, nor an address computed from one
abbrev pub is_plain : ModuleParts → Val → Bool
is_plain m (values.Global sym) = not (is_function m sym)
is_plain m (values.Gep gep) = not (is_function m gep.sym)
is_plain m other = true

abbrev pub are_plain : ModuleParts → List Val → Bool
are_plain m vals = list_all (is_plain m) vals

-- the values of arguments are so
abbrev pub args_plain : ModuleParts → List (Ty × Val) → Bool
args_plain m args = list_all (λ arg. is_plain m arg.1) args

-- the values that an instruction writes, in order
abbrev pub values_of : Inst → List Val
values_of (insts.Bin dst op flags w a b) = a ∷ b ∷ []
values_of (insts.Cmp dst pred ty a b) = a ∷ b ∷ []
values_of (insts.Select dst cond ty a b) = cond ∷ a ∷ b ∷ []
values_of (insts.Cast dst op from a to) = a ∷ []
values_of (insts.Gep dst base ptr index) = ptr ∷ map (λ each. each.1) index
values_of (insts.Alloca dst ty) = []
values_of (insts.Load dst ty ptr atomic) = ptr ∷ []
values_of (insts.Store ty val ptr atomic) = val ∷ ptr ∷ []
values_of (insts.Rmw dst op ptr ty val) = ptr ∷ val ∷ []
values_of (insts.CmpXchg dst ptr ty old new) = ptr ∷ old ∷ new ∷ []
values_of insts.Fence = []
values_of (insts.Extract dst elem pair index) = []
values_of (insts.Call dst ret callee args) = map (λ arg. arg.1) args
values_of (insts.Phi dst ty arms) = map (λ arm. arm.0) arms
values_of (insts.Br to) = []
values_of (insts.CondBr cond on_true on_false) = cond ∷ []
values_of (insts.Switch ty on default cases) = on ∷ []
values_of (insts.Ret ty None) = []
values_of (insts.Ret ty (Some val)) = val ∷ []
values_of insts.Unreachable = []

-- one layer of an initialiser, its parts' answers given
abbrev pub plain_step : ModuleParts → Init-F Bool → Bool
plain_step m (Init-F.Addr sym) = not (is_function m sym)
plain_step m (Init-F.Gep gep) = not (is_function m gep.sym)
plain_step m (Init-F.Parts parts) = list_all (λ part. part.1) parts
plain_step m other = true

-- no function's name stands in the initialiser
abbrev pub is_plain_init : ModuleParts → Init → Bool
is_plain_init m = fold-Init Bool (plain_step m)

-- ---- a call

-- the callee is a function of the types that the call writes
abbrev pub takes : Option Standing → Ty → List Ty → Bool
takes (Some (Declared signature)) ret args = has_signature ret args signature
takes (Some (Defined signature)) ret args = has_signature ret args signature
takes other ret args = false

-- a call without a result has no name for it
abbrev pub result_keeps : Option Loc → Ty → Bool
result_keeps None ret = true
result_keeps (Some dst) ret = not (same_ty ret types.Void)

abbrev pub is_null : Val → Bool
is_null values.Null = true
is_null other = false

-- the second argument is `null`
abbrev pub second_is_null : List (Ty × Val) → Bool
second_is_null (first ∷ second ∷ rest) = is_null second.1
second_is_null args = false

-- what a thread runs: a function of the module from `ptr` to `ptr`
abbrev pub start_signature : Signature
start_signature = record { result = types.Ptr; params = types.Ptr ∷ [] }

abbrev pub is_start : Option Standing → Bool
is_start (Some (Defined signature)) = has_signature signature.result signature.params start_signature
is_start other = false

abbrev pub names_start : ModuleParts → Val → Bool
names_start m (values.Global sym) = is_start (standing_of m sym)
names_start m other = false

-- the third argument names such a function
abbrev pub third_is_start : ModuleParts → List (Ty × Val) → Bool
third_is_start m (first ∷ second ∷ third ∷ rest) = names_start m third.1
third_is_start m args = false

-- the other arguments
abbrev pub without_third : List (Ty × Val) → List (Ty × Val)
without_third (first ∷ second ∷ third ∷ rest) = first ∷ second ∷ rest
without_third args = args

-- what a callee asks of its arguments by its name
abbrev pub args_keep : ModuleParts → Option External → List (Ty × Val) → Bool
args_keep m (Some PthreadCreate) args = second_is_null args && third_is_start m args && args_plain m (without_third args)
args_keep m (Some PthreadJoin) args = second_is_null args && args_plain m args
args_keep m other args = args_plain m args

-- a call is good
abbrev pub call_keeps : ModuleParts → Option Loc → Ty → Sym → List (Ty × Val) → Bool
call_keeps m dst ret callee args =
    takes (standing_of m callee) ret (map (λ arg. arg.0) args) && result_keeps dst ret && args_keep m (external_named m callee) args

-- ---- lines

-- an instruction is a good call, or no function's name stands in it
abbrev pub inst_keeps : ModuleParts → Inst → Bool
inst_keeps m (insts.Call dst ret callee args) = call_keeps m dst ret callee args
inst_keeps m inst = are_plain m (values_of inst)

-- a declare of an external's name has the external's signature
abbrev pub declares_as : Ty → List Ty → Option External → Bool
declares_as ret params None = true
declares_as ret params (Some external) = has_signature ret params (signature_of external)

abbrev pub declare_keeps : ModuleParts → Declare → Bool
declare_keeps m declare = declares_as declare.ret declare.params (external_named m declare.sym)

-- no function of the module has an external's name
abbrev pub head_keeps : ModuleParts → FuncParts → Bool
head_keeps m f = is_none (external_named m f.sym)

-- the line keeps all that is asked of calls
abbrev pub calls_keep : ModuleParts → Line → Bool
calls_keep m (TypeLine named) = true
calls_keep m (GlobalLine global) = is_plain_init m global.init
calls_keep m (DeclareLine declare) = declare_keeps m declare
calls_keep m (HeadLine n f) = head_keeps m f
calls_keep m (BlockLine n f b block) = true
calls_keep m (InstLine n f b i inst) = inst_keeps m inst
