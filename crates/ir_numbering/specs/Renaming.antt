-- What becomes of the numbers of a tree, and the tree with those in place of these.
use Rattle.std.specs.Prelude.{ℕ, List, [], map, Option, Some, None}
use Rattle.ir_core.specs.declared.types.Ty.{Ty, fold-Ty}
use Rattle.ir_core.specs.declared.types.Ty.TheVariants as types
use Rattle.ir_core.specs.declared.types.Ty.TheOpen.{Ty-F}
use Rattle.ir_core.specs.declared.types.Sym.{Sym}
use Rattle.ir_core.specs.declared.types.TypeId.{TypeId}
use Rattle.ir_core.specs.declared.types.Loc.{Loc}
use Rattle.ir_core.specs.declared.types.Width.{Width}
use Rattle.ir_core.specs.declared.values.ConstGep.{ConstGep}
use Rattle.ir_core.specs.declared.values.Val.{Val}
use Rattle.ir_core.specs.declared.values.Val.TheVariants as values
use Rattle.ir_core.specs.declared.values.Init.{Init, fold-Init}
use Rattle.ir_core.specs.declared.values.Init.TheVariants as inits
use Rattle.ir_core.specs.declared.values.Init.TheOpen.{Init-F}
use Rattle.ir_core.specs.declared.values.GlobalVar.{GlobalVar}
use Rattle.ir_core.specs.declared.values.Declare.{Declare}
use Rattle.ir_core.specs.declared.instruction.Inst.{Inst}
use Rattle.ir_core.specs.declared.instruction.Inst.TheVariants as insts
use Rattle.ir_core.specs.declared.instruction.Block.{Block}
use Rattle.ir_core.specs.Module.{FuncParts}

-- what becomes of the number of a register or a label, of a type name, and of an `@` name
pub record Renaming : Type 0 where
  pub loc : ℕ → ℕ
  pub type_id : ℕ → ℕ
  pub sym : ℕ → ℕ

abbrev pub renamed_loc : Renaming → Loc → Loc
renamed_loc r at = record { 0 = r.loc at.0 }

abbrev pub renamed_type_id : Renaming → TypeId → TypeId
renamed_type_id r id = record { 0 = r.type_id id.0 }

abbrev pub renamed_sym : Renaming → Sym → Sym
renamed_sym r sym = record { 0 = r.sym sym.0 }

-- one layer of a type, its parts renamed already; no names of other kinds stand in a type
abbrev pub renamed_step : (ℕ → ℕ) → Ty-F Ty → Ty
renamed_step type_id Ty-F.Void = types.Void
renamed_step type_id (Ty-F.Int width) = types.Int width
renamed_step type_id Ty-F.Ptr = types.Ptr
renamed_step type_id (Ty-F.Array count element) = types.Array count element
renamed_step type_id (Ty-F.Struct parts) = types.Struct parts
renamed_step type_id (Ty-F.Named id) = types.Named (record { 0 = type_id id.0 })

abbrev pub renamed_ty : Renaming → Ty → Ty
renamed_ty r = fold-Ty Ty (renamed_step r.type_id)

abbrev pub renamed_gep : Renaming → ConstGep → ConstGep
renamed_gep r gep = record gep { base = renamed_ty r gep.base; sym = renamed_sym r gep.sym }

abbrev pub renamed_val : Renaming → Val → Val
renamed_val r (values.Reg at) = values.Reg (renamed_loc r at)
renamed_val r (values.Int n) = values.Int n
renamed_val r values.Null = values.Null
renamed_val r (values.Global sym) = values.Global (renamed_sym r sym)
renamed_val r (values.Gep gep) = values.Gep (renamed_gep r gep)

-- one layer of an initialiser, its parts renamed already
abbrev pub renamed_init_step : Renaming → Init-F Init → Init
renamed_init_step r Init-F.Zero = inits.Zero
renamed_init_step r (Init-F.Int n) = inits.Int n
renamed_init_step r Init-F.Null = inits.Null
renamed_init_step r (Init-F.Addr sym) = inits.Addr (renamed_sym r sym)
renamed_init_step r (Init-F.Gep gep) = inits.Gep (renamed_gep r gep)
renamed_init_step r (Init-F.Bytes bytes) = inits.Bytes bytes
renamed_init_step r (Init-F.Parts parts) = inits.Parts (map (λ part. (renamed_ty r part.0, part.1)) parts)

abbrev pub renamed_init : Renaming → Init → Init
renamed_init r = fold-Init Init (renamed_init_step r)

abbrev pub renamed_args : Renaming → List (Ty × Val) → List (Ty × Val)
renamed_args r = map (λ arg. (renamed_ty r arg.0, renamed_val r arg.1))

abbrev pub renamed_arms : Renaming → List (Val × Loc) → List (Val × Loc)
renamed_arms r = map (λ arm. (renamed_val r arm.0, renamed_loc r arm.1))

abbrev pub renamed_cases : Renaming → List (ℕ × Loc) → List (ℕ × Loc)
renamed_cases r = map (λ case. (case.0, renamed_loc r case.1))

abbrev pub renamed_index : Renaming → List (Width × Val) → List (Width × Val)
renamed_index r = map (λ index. (index.0, renamed_val r index.1))

-- what may be missing
abbrev pub renamed_option : {A : Type 0} → (A → A) → Option A → Option A
renamed_option renamed None = None
renamed_option renamed (Some tree) = Some (renamed tree)

abbrev pub renamed_inst : Renaming → Inst → Inst
renamed_inst r (insts.Bin dst op flags w a b) = insts.Bin (renamed_loc r dst) op flags w (renamed_val r a) (renamed_val r b)
renamed_inst r (insts.Cmp dst pred ty a b) = insts.Cmp (renamed_loc r dst) pred (renamed_ty r ty) (renamed_val r a) (renamed_val r b)
renamed_inst r (insts.Select dst cond ty a b) = insts.Select (renamed_loc r dst) (renamed_val r cond) (renamed_ty r ty) (renamed_val r a) (renamed_val r b)
renamed_inst r (insts.Cast dst op from a to) = insts.Cast (renamed_loc r dst) op (renamed_ty r from) (renamed_val r a) (renamed_ty r to)
renamed_inst r (insts.Gep dst base ptr index) = insts.Gep (renamed_loc r dst) (renamed_ty r base) (renamed_val r ptr) (renamed_index r index)
renamed_inst r (insts.Alloca dst ty) = insts.Alloca (renamed_loc r dst) (renamed_ty r ty)
renamed_inst r (insts.Load dst ty ptr atomic) = insts.Load (renamed_loc r dst) (renamed_ty r ty) (renamed_val r ptr) atomic
renamed_inst r (insts.Store ty val ptr atomic) = insts.Store (renamed_ty r ty) (renamed_val r val) (renamed_val r ptr) atomic
renamed_inst r (insts.Rmw dst op ptr ty val) = insts.Rmw (renamed_loc r dst) op (renamed_val r ptr) (renamed_ty r ty) (renamed_val r val)
renamed_inst r (insts.CmpXchg dst ptr ty old new) = insts.CmpXchg (renamed_loc r dst) (renamed_val r ptr) (renamed_ty r ty) (renamed_val r old) (renamed_val r new)
renamed_inst r insts.Fence = insts.Fence
renamed_inst r (insts.Extract dst elem pair index) = insts.Extract (renamed_loc r dst) (renamed_ty r elem) (renamed_loc r pair) index
renamed_inst r (insts.Call dst ret callee args) = insts.Call (renamed_option (renamed_loc r) dst) (renamed_ty r ret) (renamed_sym r callee) (renamed_args r args)
renamed_inst r (insts.Phi dst ty arms) = insts.Phi (renamed_loc r dst) (renamed_ty r ty) (renamed_arms r arms)
renamed_inst r (insts.Br to) = insts.Br (renamed_loc r to)
renamed_inst r (insts.CondBr cond on_true on_false) = insts.CondBr (renamed_val r cond) (renamed_loc r on_true) (renamed_loc r on_false)
renamed_inst r (insts.Switch ty on default cases) = insts.Switch (renamed_ty r ty) (renamed_val r on) (renamed_loc r default) (renamed_cases r cases)
renamed_inst r (insts.Ret ty val) = insts.Ret (renamed_ty r ty) (renamed_option (renamed_val r) val)
renamed_inst r insts.Unreachable = insts.Unreachable

abbrev pub renamed_block : Renaming → Block → Block
renamed_block r block = record { label = renamed_loc r block.label; insts = map (renamed_inst r) block.insts }

abbrev pub renamed_global : Renaming → GlobalVar → GlobalVar
renamed_global r global = record { sym = renamed_sym r global.sym; ty = renamed_ty r global.ty; init = renamed_init r global.init }

abbrev pub renamed_declare : Renaming → Declare → Declare
renamed_declare r declare = record { sym = renamed_sym r declare.sym; ret = renamed_ty r declare.ret; params = map (renamed_ty r) declare.params }

abbrev pub renamed_param : Renaming → Ty × Loc → Ty × Loc
renamed_param r param = (renamed_ty r param.0, renamed_loc r param.1)

-- a function without its name table, which numbers other places
abbrev pub renamed_func : Renaming → FuncParts → FuncParts
renamed_func r f = record {
  sym = renamed_sym r f.sym;
  ret = renamed_ty r f.ret;
  params = map (renamed_param r) f.params;
  blocks = map (renamed_block r) f.blocks;
  names = [];
}
