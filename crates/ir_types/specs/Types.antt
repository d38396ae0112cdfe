-- When the types of a line fit (LLVM Language Reference, 'Type System', 'Instruction Reference', 'Global Variables').
--
-- Choices: the result of a `cmpxchg` on T has the type `{ T, i1 }`. A constant has its type by its form: a number an integer type,
-- all others `ptr`. A register in a further index of a `getelementptr` goes into an array and into no struct. Parts of an
-- initialiser write their types, which are the element's or the fields'. Named types keep the rule whatever they are.
use Rattle.std.specs.Prelude.{ℕ, Bool, true, false, not, ◌&&◌, List, [], ◌∷◌, map, length, Option, Some, None, nat_eq, nat_lt}
use Rattle.std.specs.List.{list_all}
use Rattle.std.specs.Option.{is_some}
use Rattle.ir_core.specs.declared.types.Ty.{Ty}
use Rattle.ir_core.specs.declared.types.Ty.TheOpen.{Ty-F}
use Rattle.ir_core.specs.declared.types.Ty.TheVariants as types
use Rattle.ir_core.specs.declared.types.Ty.TheViews.{out-Ty}
use Rattle.ir_core.specs.declared.types.Loc.{Loc}
use Rattle.ir_core.specs.declared.types.TypeId.{TypeId}
use Rattle.ir_core.specs.declared.types.Width.{Width}
use Rattle.ir_core.specs.declared.types.Width.TheVariants.{W1, W8, W64}
use Rattle.ir_core.specs.declared.values.ConstGep.{ConstGep}
use Rattle.ir_core.specs.declared.values.Val.{Val}
use Rattle.ir_core.specs.declared.values.Val.TheVariants as values
use Rattle.ir_core.specs.declared.values.Init.{Init, fold-Init}
use Rattle.ir_core.specs.declared.values.Init.TheOpen.{Init-F}
use Rattle.ir_core.specs.declared.instruction.CastOp.{CastOp}
use Rattle.ir_core.specs.declared.instruction.CastOp.TheVariants.{Zext, Sext, Trunc, Ptrtoint, Inttoptr}
use Rattle.ir_core.specs.declared.instruction.Inst.{Inst}
use Rattle.ir_core.specs.declared.instruction.Inst.TheVariants as insts
use Rattle.ir_core.specs.Module.{ModuleParts}
use Rattle.ir_layout.specs.Offsets.{fields, entered, offset_of}
use Rattle.ir_lines.specs.Lines.{Line, TypeLine, GlobalLine, DeclareLine, HeadLine, BlockLine, InstLine}
use Rattle.ir_lines.specs.SameTypes.{same_ty}
use Rattle.ir_types.specs.Firsts.{first_of}
use Rattle.ir_types.specs.Meanings.{Meaning, Label, Register, Pair, meanings, bits}

-- ---- kinds of types

abbrev pub int_width_step : Ty-F Ty → Option Width
int_width_step (Ty-F.Int width) = Some width
int_width_step other = None

-- the width of an integer type
abbrev pub int_width : Ty → Option Width
int_width ty = int_width_step (out-Ty ty)

abbrev pub is_int : Ty → Bool
is_int ty = is_some (int_width ty)

abbrev pub is_ptr_step : Ty-F Ty → Bool
is_ptr_step Ty-F.Ptr = true
is_ptr_step other = false

abbrev pub is_ptr : Ty → Bool
is_ptr ty = is_ptr_step (out-Ty ty)

abbrev pub is_void_step : Ty-F Ty → Bool
is_void_step Ty-F.Void = true
is_void_step other = false

abbrev pub is_void : Ty → Bool
is_void ty = is_void_step (out-Ty ty)

abbrev pub is_aggregate_step : Ty-F Ty → Bool
is_aggregate_step (Ty-F.Array count element) = true
is_aggregate_step (Ty-F.Struct parts) = true
is_aggregate_step (Ty-F.Named id) = true
is_aggregate_step other = false

-- a type has parts
abbrev pub is_aggregate : Ty → Bool
is_aggregate ty = is_aggregate_step (out-Ty ty)

-- the type of what a `cmpxchg` on a type gives
abbrev pub pair_type : Ty → Ty
pair_type ty = types.Struct (ty ∷ types.Int W1 ∷ [])

-- ---- names and operands

-- what a name stands for is a register of this type
abbrev pub is_register_of : Ty → Option Meaning → Bool
is_register_of ty (Some (Register own)) = same_ty own ty
is_register_of ty (Some (Pair own)) = same_ty (pair_type own) ty
is_register_of ty other = false

-- it is a label; the name stands for one
abbrev pub is_label : Option Meaning → Bool
is_label (Some Label) = true
is_label other = false

abbrev pub names_label : List (Loc × Meaning) → Loc → Bool
names_label names at = is_label (first_of names at)

-- it is the result of a `cmpxchg` on this type
abbrev pub is_pair_of : Ty → Option Meaning → Bool
is_pair_of ty (Some (Pair own)) = same_ty own ty
is_pair_of ty other = false

-- the indices of a constant `getelementptr` fit
abbrev pub gep_fits : List (TypeId × Ty) → ConstGep → Bool
gep_fits named gep = is_some (offset_of named gep.base gep.index)

-- an operand has the type that is written of it
abbrev pub operand_fits : List (TypeId × Ty) → List (Loc × Meaning) → Ty × Val → Bool
operand_fits named names (ty, values.Reg at) = is_register_of ty (first_of names at)
operand_fits named names (ty, values.Int n) = is_int ty
operand_fits named names (ty, values.Null) = is_ptr ty
operand_fits named names (ty, values.Global sym) = is_ptr ty
operand_fits named names (ty, values.Gep gep) = is_ptr ty && gep_fits named gep

-- an index, a value of a phi and a result, each with the type that is written of it
abbrev pub typed_index : Width × Val → Ty × Val
typed_index index = (types.Int index.0, index.1)

abbrev pub typed_arm : Ty → Val × Loc → Ty × Val
typed_arm ty arm = (ty, arm.0)

abbrev pub typed_result : Ty → Option Val → List (Ty × Val)
typed_result ty None = []
typed_result ty (Some val) = (ty, val) ∷ []

-- the operands of an instruction, each with the type that is written of it
abbrev pub typed_operands : Inst → List (Ty × Val)
typed_operands (insts.Bin dst op flags w a b) = (types.Int w, a) ∷ (types.Int w, b) ∷ []
typed_operands (insts.Cmp dst pred ty a b) = (ty, a) ∷ (ty, b) ∷ []
typed_operands (insts.Select dst cond ty a b) = (types.Int W1, cond) ∷ (ty, a) ∷ (ty, b) ∷ []
typed_operands (insts.Cast dst op from a to) = (from, a) ∷ []
typed_operands (insts.Gep dst base ptr index) = (types.Ptr, ptr) ∷ map typed_index index
typed_operands (insts.Load dst ty ptr atomic) = (types.Ptr, ptr) ∷ []
typed_operands (insts.Store ty val ptr atomic) = (ty, val) ∷ (types.Ptr, ptr) ∷ []
typed_operands (insts.Rmw dst op ptr ty val) = (types.Ptr, ptr) ∷ (ty, val) ∷ []
typed_operands (insts.CmpXchg dst ptr ty old new) = (types.Ptr, ptr) ∷ (ty, old) ∷ (ty, new) ∷ []
typed_operands (insts.Call dst ret callee args) = args
typed_operands (insts.Phi dst ty arms) = map (typed_arm ty) arms
typed_operands (insts.CondBr cond on_true on_false) = (types.Int W1, cond) ∷ []
typed_operands (insts.Switch ty on default cases) = (ty, on) ∷ []
typed_operands (insts.Ret ty val) = typed_result ty val
typed_operands inst = []

-- the names of an instruction that stand where labels do
abbrev pub labels_in : Inst → List Loc
labels_in (insts.Phi dst ty arms) = map (λ arm. arm.1) arms
labels_in (insts.Br to) = to ∷ []
labels_in (insts.CondBr cond on_true on_false) = on_true ∷ on_false ∷ []
labels_in (insts.Switch ty on default cases) = default ∷ map (λ target. target.1) cases
labels_in inst = []

-- ---- single instructions

-- both are there, and the first has fewer bits
abbrev pub is_narrower : Option Width → Option Width → Bool
is_narrower (Some a) (Some b) = nat_lt (bits a) (bits b)
is_narrower a b = false

-- a conversion goes from the one type to the other
abbrev pub cast_fits : CastOp → Ty → Ty → Bool
cast_fits Zext from to = is_narrower (int_width from) (int_width to)
cast_fits Sext from to = is_narrower (int_width from) (int_width to)
cast_fits Trunc from to = is_narrower (int_width to) (int_width from)
cast_fits Ptrtoint from to = is_ptr from && is_int to
cast_fits Inttoptr from to = is_int from && is_ptr to

-- the test of what is there, and false where nothing is
abbrev pub holds_of : {A : Type 0} → (A → Bool) → Option A → Bool
holds_of test None = false
holds_of test (Some x) = test x

-- an index as a constant: a register counts as the number 0 of 64 bits
abbrev pub as_constant : Width × Val → Width × ℕ
as_constant (width, values.Int n) = (width, n)
as_constant (width, other) = (W64, 0)

-- further indices go into a type one after another
abbrev pub enter : List (TypeId × Ty) → Ty → List (Width × Val) → Bool
enter named ty [] = true
enter named ty (index ∷ indices) = holds_of (λ step. enter named step.0 indices) (entered named (as_constant index) ty)

-- the indices of a `getelementptr` fit, of which the first counts whole types
abbrev pub indices_fit : List (TypeId × Ty) → Ty → List (Width × Val) → Bool
indices_fit named base [] = true
indices_fit named base (index ∷ indices) = enter named base indices

-- a `ret` has the type of its function's result, and a value unless that is `void`
abbrev pub ret_fits : Ty → Ty → Option Val → Bool
ret_fits ret ty None = same_ty ty ret && is_void ty
ret_fits ret ty (Some val) = same_ty ty ret

-- what an instruction asks beside its operands and labels
abbrev pub form_fits : List (TypeId × Ty) → List (Loc × Meaning) → Ty → Inst → Bool
form_fits named names ret (insts.Cast dst op from a to) = cast_fits op from to
form_fits named names ret (insts.Gep dst base ptr index) = indices_fit named base index
form_fits named names ret (insts.Extract dst elem pair index) = is_pair_of elem (first_of names pair)
form_fits named names ret (insts.Ret ty val) = ret_fits ret ty val
form_fits named names ret inst = true

-- an instruction of a function with these names and this result
abbrev pub inst_fits : List (TypeId × Ty) → List (Loc × Meaning) → Ty → Inst → Bool
inst_fits named names ret inst =
    list_all (operand_fits named names) (typed_operands inst)
    && list_all (names_label names) (labels_in inst)
    && form_fits named names ret inst

-- ---- initialisers

-- a type is an array of just so many `i8`
abbrev pub is_byte_array_step : ℕ → Ty-F Ty → Bool
is_byte_array_step count (Ty-F.Array own element) = nat_eq own count && same_ty (types.Int W8) element
is_byte_array_step count other = false

abbrev pub is_byte_array : ℕ → Ty → Bool
is_byte_array count ty = is_byte_array_step count (out-Ty ty)

-- a part writes this type, and fits it
abbrev pub part_fits : Ty → Ty × (Ty → Bool) → Bool
part_fits ty part = same_ty part.0 ty && part.1 ty

-- each part fits the field beside it, and there are as many
abbrev pub fields_fit : List Ty → List (Ty × (Ty → Bool)) → Bool
fields_fit [] [] = true
fields_fit (field ∷ types) (part ∷ parts) = part_fits field part && fields_fit types parts
fields_fit types parts = false

-- each part fits the element of an array, and there are as many
abbrev pub elements_fit : List (Ty × (Ty → Bool)) → Ty-F Ty → Bool
elements_fit parts (Ty-F.Array count element) = nat_eq count (length parts) && list_all (part_fits element) parts
elements_fit parts other = false

-- parts fit the fields of a struct; where the type is no struct, they fit an array
abbrev pub parts_fit : List (Ty × (Ty → Bool)) → Ty → Option (List Ty) → Bool
parts_fit parts ty (Some types) = fields_fit types parts
parts_fit parts ty None = elements_fit parts (out-Ty ty)

-- one layer of an initialiser, with what its parts ask of their types
abbrev pub init_step : List (TypeId × Ty) → Init-F (Ty → Bool) → Ty → Bool
init_step named Init-F.Zero ty = true
init_step named (Init-F.Int n) ty = is_int ty
init_step named Init-F.Null ty = is_ptr ty
init_step named (Init-F.Addr sym) ty = is_ptr ty
init_step named (Init-F.Gep gep) ty = is_ptr ty && gep_fits named gep
init_step named (Init-F.Bytes bytes) ty = is_byte_array (length bytes) ty
init_step named (Init-F.Parts parts) ty = parts_fit parts ty (fields named ty)

-- an initialiser fits a type
abbrev pub init_fits : List (TypeId × Ty) → Init → Ty → Bool
init_fits named = fold-Init (Ty → Bool) (init_step named)

-- ---- lines

abbrev pub has_no_parts : Ty → Bool
has_no_parts ty = not (is_aggregate ty)

-- no parameter and no result has parts
abbrev pub signature_fits : Ty → List Ty → Bool
signature_fits ret params = has_no_parts ret && list_all has_no_parts params

-- the types of a line of a module fit
abbrev pub types_keep : ModuleParts → Line → Bool
types_keep m (TypeLine named) = true
types_keep m (GlobalLine global) = init_fits m.types global.init global.ty
types_keep m (DeclareLine declare) = signature_fits declare.ret declare.params
types_keep m (HeadLine n f) = signature_fits f.ret (map (λ param. param.0) f.params)
types_keep m (BlockLine n f b block) = true
types_keep m (InstLine n f b i inst) = inst_fits m.types (meanings f) f.ret inst
