-- The places of a tree: where the names begin that it mentions, in the order in which its line writes them.
--
-- Choices: one list for all kinds of names, so that one definition says the order of all three tables.
use Rattle.std.specs.Prelude.{ℕ, List, [], ◌∷◌, ◌++◌, map, Option, Some, None}
use Rattle.std.specs.List.{flat_map}
use Rattle.ir_core.specs.declared.types.Ty.{Ty, fold-Ty}
use Rattle.ir_core.specs.declared.types.Ty.TheOpen.{Ty-F}
use Rattle.ir_core.specs.declared.types.Loc.{Loc}
use Rattle.ir_core.specs.declared.types.Width.{Width}
use Rattle.ir_core.specs.declared.values.ConstGep.{ConstGep}
use Rattle.ir_core.specs.declared.values.Val.{Val}
use Rattle.ir_core.specs.declared.values.Val.TheVariants as values
use Rattle.ir_core.specs.declared.values.Init.{Init, fold-Init}
use Rattle.ir_core.specs.declared.values.Init.TheOpen.{Init-F}
use Rattle.ir_core.specs.declared.values.GlobalVar.{GlobalVar}
use Rattle.ir_core.specs.declared.values.Declare.{Declare}
use Rattle.ir_core.specs.declared.instruction.Inst.{Inst}
use Rattle.ir_core.specs.declared.instruction.Inst.TheVariants as insts
use Rattle.ir_core.specs.declared.instruction.Block.{Block}
use Rattle.ir_core.specs.Instructions.{result_of}
use Rattle.ir_core.specs.Module.{FuncParts}
use Rattle.ir_numbering.specs.declared.places.Place.{Place}
use Rattle.ir_numbering.specs.declared.places.Place.TheVariants.{Local, Struct, Global}

-- the places of one layer of a type, its parts' places given
abbrev pub places_step : Ty-F (List Place) → List Place
places_step Ty-F.Void = []
places_step (Ty-F.Int width) = []
places_step Ty-F.Ptr = []
places_step (Ty-F.Array count element) = element
places_step (Ty-F.Struct parts) = flat_map (λ part. part) parts
places_step (Ty-F.Named id) = Struct id ∷ []

abbrev pub places_of_ty : Ty → List Place
places_of_ty = fold-Ty (List Place) places_step

abbrev pub places_of_gep : ConstGep → List Place
places_of_gep gep = places_of_ty gep.base ++ Global gep.sym ∷ []

abbrev pub places_of_val : Val → List Place
places_of_val (values.Reg at) = Local at ∷ []
places_of_val (values.Int n) = []
places_of_val values.Null = []
places_of_val (values.Global sym) = Global sym ∷ []
places_of_val (values.Gep gep) = places_of_gep gep

-- the places of one layer of an initialiser, its parts' places given
abbrev pub places_init_step : Init-F (List Place) → List Place
places_init_step Init-F.Zero = []
places_init_step (Init-F.Int n) = []
places_init_step Init-F.Null = []
places_init_step (Init-F.Addr sym) = Global sym ∷ []
places_init_step (Init-F.Gep gep) = places_of_gep gep
places_init_step (Init-F.Bytes bytes) = []
places_init_step (Init-F.Parts parts) = flat_map (λ part. places_of_ty part.0 ++ part.1) parts

abbrev pub places_of_init : Init → List Place
places_of_init = fold-Init (List Place) places_init_step

-- the arguments of a call, the arms of a phi, the cases of a switch, the indices of a `getelementptr`
abbrev pub places_of_args : List (Ty × Val) → List Place
places_of_args = flat_map (λ arg. places_of_ty arg.0 ++ places_of_val arg.1)

abbrev pub places_of_arms : List (Val × Loc) → List Place
places_of_arms = flat_map (λ arm. places_of_val arm.0 ++ Local arm.1 ∷ [])

abbrev pub places_of_cases : List (ℕ × Loc) → List Place
places_of_cases = flat_map (λ case. Local case.1 ∷ [])

abbrev pub places_of_index : List (Width × Val) → List Place
places_of_index = flat_map (λ index. places_of_val index.1)

-- what may be missing
abbrev pub places_of_option : {A : Type 0} → (A → List Place) → Option A → List Place
places_of_option places None = []
places_of_option places (Some tree) = places tree

-- The result, and then as written (LLVM Language Reference, 'Instruction Reference').
abbrev pub places_of_inst : Inst → List Place
places_of_inst (insts.Bin dst op flags w a b) = Local dst ∷ places_of_val a ++ places_of_val b
places_of_inst (insts.Cmp dst pred ty a b) = Local dst ∷ places_of_ty ty ++ places_of_val a ++ places_of_val b
places_of_inst (insts.Select dst cond ty a b) = Local dst ∷ places_of_val cond ++ places_of_ty ty ++ places_of_val a ++ places_of_val b
places_of_inst (insts.Cast dst op from a to) = Local dst ∷ places_of_ty from ++ places_of_val a ++ places_of_ty to
places_of_inst (insts.Gep dst base ptr index) = Local dst ∷ places_of_ty base ++ places_of_val ptr ++ places_of_index index
places_of_inst (insts.Alloca dst ty) = Local dst ∷ places_of_ty ty
places_of_inst (insts.Load dst ty ptr atomic) = Local dst ∷ places_of_ty ty ++ places_of_val ptr
places_of_inst (insts.Store ty val ptr atomic) = places_of_ty ty ++ places_of_val val ++ places_of_val ptr
places_of_inst (insts.Rmw dst op ptr ty val) = Local dst ∷ places_of_val ptr ++ places_of_ty ty ++ places_of_val val
places_of_inst (insts.CmpXchg dst ptr ty old new) = Local dst ∷ places_of_val ptr ++ places_of_ty ty ++ places_of_val old ++ places_of_val new
places_of_inst insts.Fence = []
places_of_inst (insts.Extract dst elem pair index) = Local dst ∷ places_of_ty elem ++ Local pair ∷ []
places_of_inst (insts.Call dst ret callee args) = places_of_option (λ at. Local at ∷ []) dst ++ places_of_ty ret ++ Global callee ∷ [] ++ places_of_args args
places_of_inst (insts.Phi dst ty arms) = Local dst ∷ places_of_ty ty ++ places_of_arms arms
places_of_inst (insts.Br to) = Local to ∷ []
places_of_inst (insts.CondBr cond on_true on_false) = places_of_val cond ++ Local on_true ∷ [] ++ Local on_false ∷ []
places_of_inst (insts.Switch ty on default cases) = places_of_ty ty ++ places_of_val on ++ Local default ∷ [] ++ places_of_cases cases
places_of_inst (insts.Ret ty val) = places_of_ty ty ++ places_of_option places_of_val val
places_of_inst insts.Unreachable = []

abbrev pub places_of_block : Block → List Place
places_of_block block = Local block.label ∷ flat_map places_of_inst block.insts

abbrev pub places_of_global : GlobalVar → List Place
places_of_global global = Global global.sym ∷ places_of_ty global.ty ++ places_of_init global.init

-- a declare is written with its result before its name
abbrev pub places_of_declare : Declare → List Place
places_of_declare declare = places_of_ty declare.ret ++ Global declare.sym ∷ [] ++ flat_map places_of_ty declare.params

-- ---- functions

-- what a block defines: its label, and its results in order
abbrev pub results_of_block : Block → List Place
results_of_block block = Local block.label ∷ flat_map (λ inst. places_of_option (λ at. Local at ∷ []) (result_of inst)) block.insts

-- what a function defines: its parameters, and then block by block
abbrev pub definitions_of_func : FuncParts → List Place
definitions_of_func f = map (λ param. Local param.1) f.params ++ flat_map results_of_block f.blocks

-- the line that begins a function (LLVM Language Reference, 'Functions')
abbrev pub places_of_head : FuncParts → List Place
places_of_head f = places_of_ty f.ret ++ Global f.sym ∷ [] ++ flat_map (λ param. places_of_ty param.0 ++ Local param.1 ∷ []) f.params

-- what a function mentions, as written
abbrev pub mentions_of_func : FuncParts → List Place
mentions_of_func f = places_of_head f ++ flat_map places_of_block f.blocks

-- A function's definitions stand before all that it mentions: so its registers and labels are numbered by their
-- first definitions, and those that are nowhere defined by first sight.
abbrev pub places_of_func : FuncParts → List Place
places_of_func f = definitions_of_func f ++ mentions_of_func f
