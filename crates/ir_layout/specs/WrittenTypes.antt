-- The types that the lines of a module write, in order, and whether the names in them are defined
-- (LLVM Language Reference, 'Type System', 'Named Types').
use Rattle.std.specs.Prelude.{ℕ, Bool, true, not, ◌&&◌, List, [], ◌∷◌, ◌++◌, map, nat_eq, Option, Some, None}
use Rattle.std.specs.List.{flat_map, list_all, list_any}
use Rattle.ir_core.specs.declared.types.Ty.{Ty, fold-Ty}
use Rattle.ir_core.specs.declared.types.Ty.TheOpen.{Ty-F}
use Rattle.ir_core.specs.declared.types.Loc.{Loc}
use Rattle.ir_core.specs.declared.types.TypeId.{TypeId}
use Rattle.ir_core.specs.declared.types.Width.{Width}
use Rattle.ir_core.specs.declared.values.Val.{Val}
use Rattle.ir_core.specs.declared.values.Val.TheVariants as values
use Rattle.ir_core.specs.declared.values.Init.{Init, fold-Init}
use Rattle.ir_core.specs.declared.values.Init.TheOpen.{Init-F}
use Rattle.ir_core.specs.declared.values.GlobalVar.{GlobalVar}
use Rattle.ir_core.specs.declared.values.Declare.{Declare}
use Rattle.ir_core.specs.declared.instruction.Inst.{Inst}
use Rattle.ir_core.specs.declared.instruction.Inst.TheVariants as insts
use Rattle.ir_core.specs.declared.instruction.Block.{Block}
use Rattle.ir_core.specs.Module.{ModuleParts, FuncParts}

-- ---- the types of a line

abbrev pub types_in_val : Val → List Ty
types_in_val (values.Reg at) = []
types_in_val (values.Int n) = []
types_in_val values.Null = []
types_in_val (values.Global sym) = []
types_in_val (values.Gep gep) = gep.base ∷ []

-- one layer of an initialiser, its parts' types given
abbrev pub init_step : Init-F (List Ty) → List Ty
init_step Init-F.Zero = []
init_step (Init-F.Int n) = []
init_step Init-F.Null = []
init_step (Init-F.Addr sym) = []
init_step (Init-F.Gep gep) = gep.base ∷ []
init_step (Init-F.Bytes bytes) = []
init_step (Init-F.Parts parts) = flat_map (λ part. part.0 ∷ part.1) parts

abbrev pub types_in_init : Init → List Ty
types_in_init = fold-Init (List Ty) init_step

abbrev pub types_in_global : GlobalVar → List Ty
types_in_global global = global.ty ∷ types_in_init global.init

abbrev pub types_in_declare : Declare → List Ty
types_in_declare declare = declare.ret ∷ declare.params

abbrev pub types_in_arg : Ty × Val → List Ty
types_in_arg arg = arg.0 ∷ types_in_val arg.1

-- the arms of a phi, the indices of a `getelementptr`
abbrev pub types_in_arm : Val × Loc → List Ty
types_in_arm arm = types_in_val arm.0

abbrev pub types_in_index : Width × Val → List Ty
types_in_index index = types_in_val index.1

abbrev pub types_in_option : Option Val → List Ty
types_in_option None = []
types_in_option (Some val) = types_in_val val

abbrev pub types_in_inst : Inst → List Ty
types_in_inst (insts.Bin dst op flags w a b) = types_in_val a ++ types_in_val b
types_in_inst (insts.Cmp dst pred ty a b) = ty ∷ types_in_val a ++ types_in_val b
types_in_inst (insts.Select dst cond ty a b) = ty ∷ types_in_val cond ++ types_in_val a ++ types_in_val b
types_in_inst (insts.Cast dst op from a to) = from ∷ to ∷ types_in_val a
types_in_inst (insts.Gep dst base ptr index) = base ∷ types_in_val ptr ++ flat_map types_in_index index
types_in_inst (insts.Alloca dst ty) = ty ∷ []
types_in_inst (insts.Load dst ty ptr atomic) = ty ∷ types_in_val ptr
types_in_inst (insts.Store ty val ptr atomic) = ty ∷ types_in_val val ++ types_in_val ptr
types_in_inst (insts.Rmw dst op ptr ty val) = ty ∷ types_in_val ptr ++ types_in_val val
types_in_inst (insts.CmpXchg dst ptr ty old new) = ty ∷ types_in_val ptr ++ types_in_val old ++ types_in_val new
types_in_inst insts.Fence = []
types_in_inst (insts.Extract dst elem pair index) = elem ∷ []
types_in_inst (insts.Call dst ret callee args) = ret ∷ flat_map types_in_arg args
types_in_inst (insts.Phi dst ty arms) = ty ∷ flat_map types_in_arm arms
types_in_inst (insts.Br to) = []
types_in_inst (insts.CondBr cond on_true on_false) = types_in_val cond
types_in_inst (insts.Switch ty on default cases) = ty ∷ types_in_val on
types_in_inst (insts.Ret ty val) = ty ∷ types_in_option val
types_in_inst insts.Unreachable = []

abbrev pub types_in_block : Block → List Ty
types_in_block block = flat_map types_in_inst block.insts

-- a function's head
abbrev pub types_in_head : FuncParts → List Ty
types_in_head f = f.ret ∷ map (λ param. param.0) f.params

abbrev pub types_in_func : FuncParts → List Ty
types_in_func f = types_in_head f ++ flat_map types_in_block f.blocks

abbrev pub types_in_module : ModuleParts → List Ty
types_in_module m = map (λ named. named.1) m.types ++ flat_map types_in_global m.globals ++ flat_map types_in_declare m.declares ++ flat_map types_in_func m.funcs

-- ---- defined names

abbrev pub is_defined : List (TypeId × Ty) → ℕ → Bool
is_defined types id = list_any (λ named. nat_eq named.0.0 id) types

-- one layer of a type, its parts' answers given
abbrev pub defined_step : List (TypeId × Ty) → Ty-F Bool → Bool
defined_step types Ty-F.Void = true
defined_step types (Ty-F.Int width) = true
defined_step types Ty-F.Ptr = true
defined_step types (Ty-F.Array count element) = element
defined_step types (Ty-F.Struct parts) = list_all (λ part. part) parts
defined_step types (Ty-F.Named id) = is_defined types id.0

-- each name in the type is defined
abbrev pub are_defined : List (TypeId × Ty) → Ty → Bool
are_defined types = fold-Ty Bool (defined_step types)

-- no name is defined again behind its definition
abbrev pub are_distinct : List (TypeId × Ty) → Bool
are_distinct [] = true
are_distinct (named ∷ types) = not (is_defined types named.0.0) && are_distinct types

-- each name of a type that the module writes is defined, and none is defined twice
abbrev pub types_known : ModuleParts → Bool
types_known m = are_distinct m.types && list_all (are_defined m.types) (types_in_module m)
