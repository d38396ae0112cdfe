-- What contracts see of a module and of a function.
use Rattle.std.specs.Prelude.{ℕ, List, [], ◌∷◌, ◌++◌}
use Rattle.ir_core.specs.declared.types.Ty.{Ty}
use Rattle.ir_core.specs.declared.types.Sym.{Sym}
use Rattle.ir_core.specs.declared.types.TypeId.{TypeId}
use Rattle.ir_core.specs.declared.types.Loc.{Loc}
use Rattle.ir_core.specs.declared.values.GlobalVar.{GlobalVar}
use Rattle.ir_core.specs.declared.values.Declare.{Declare}
use Rattle.ir_core.specs.declared.instruction.Block.{Block}
use Rattle.ir_core.specs.declared.instruction.Inst.{Inst}

-- a function, with its % names: the place of a name is its number
pub record FuncParts : Type 0 where
  pub sym : Sym
  pub ret : Ty
  pub params : List (Ty × Loc)
  pub blocks : List Block
  pub names : List (List ℕ)

-- a module, with its @ names and the names of its types
pub record ModuleParts : Type 0 where
  pub types : List (TypeId × Ty)
  pub globals : List GlobalVar
  pub declares : List Declare
  pub funcs : List FuncParts
  pub syms : List (List ℕ)
  pub type_names : List (List ℕ)

abbrev pub empty_module : ModuleParts
empty_module = record { types = []; globals = []; declares = []; funcs = []; syms = []; type_names = [] }

abbrev pub empty_func : Sym → Ty → FuncParts
empty_func sym ret = record { sym = sym; ret = ret; params = []; blocks = []; names = [] }

-- the blocks once the last one ends in the instruction too
abbrev pub with_inst : List Block → Inst → List Block
with_inst [] i = []
with_inst (b ∷ []) i = record b { insts = b.insts ++ i ∷ [] } ∷ []
with_inst (b ∷ c ∷ bs) i = b ∷ with_inst (c ∷ bs) i
