-- The functions outside a module that it may call: the C library's, and the tool's own. The table is the tool's; a call
-- of one is written as that of any function (LLVM Language Reference, 'call Instruction').
use Rattle.std.specs.Prelude.{ℕ, Bool, ◌&&◌, List, [], ◌∷◌, Option}
use Rattle.std.specs.List.{zip}
use Rattle.std.specs.Map.{lookup}
use Rattle.std.specs.Str.{bytes_eq}
use Rattle.ir_core.specs.declared.types.Ty.{Ty}
use Rattle.ir_core.specs.declared.types.Ty.TheVariants as types
use Rattle.ir_core.specs.declared.types.Width.TheVariants.{W32, W64}
use Rattle.ir_core.specs.Lines.{externals}
use Rattle.ir_lines.specs.SameTypes.{same_ty, same_types}
use Rattle.ir_calls.specs.declared.externals.External.{External}
use Rattle.ir_calls.specs.declared.externals.External.TheVariants.{PthreadCreate, PthreadJoin, MutexLock, MutexUnlock, Putchar, Exit, Malloc, Free, HaftOut, HaftArg}

-- ---- names

-- in the order in which the names of externals stand
abbrev pub every_external : List External
every_external = PthreadCreate ∷ PthreadJoin ∷ MutexLock ∷ MutexUnlock ∷ Putchar ∷ Exit ∷ Malloc ∷ Free ∷ HaftOut ∷ HaftArg ∷ []

-- the external that has a name
abbrev pub external_of : List ℕ → Option External
external_of name = lookup (bytes_eq name) (zip externals every_external)

-- ---- signatures

-- the types of a function's result and of its parameters
pub record Signature : Type 0 where
  pub result : Ty
  pub params : List Ty

abbrev pub i32 : Ty
i32 = types.Int W32

abbrev pub i64 : Ty
i64 = types.Int W64

-- thread, attributes, what it runs and what that is given; thread and where its result goes; a lock; a byte; a status;
-- a size; an address; a number; the number of an argument
abbrev pub signature_of : External → Signature
signature_of PthreadCreate = record { result = i32; params = types.Ptr ∷ types.Ptr ∷ types.Ptr ∷ types.Ptr ∷ [] }
signature_of PthreadJoin = record { result = i32; params = i64 ∷ types.Ptr ∷ [] }
signature_of MutexLock = record { result = i32; params = types.Ptr ∷ [] }
signature_of MutexUnlock = record { result = i32; params = types.Ptr ∷ [] }
signature_of Putchar = record { result = i32; params = i32 ∷ [] }
signature_of Exit = record { result = types.Void; params = i32 ∷ [] }
signature_of Malloc = record { result = types.Ptr; params = i64 ∷ [] }
signature_of Free = record { result = types.Void; params = types.Ptr ∷ [] }
signature_of HaftOut = record { result = types.Void; params = i64 ∷ [] }
signature_of HaftArg = record { result = i64; params = i64 ∷ [] }

-- a result and parameters of these types are a signature's
abbrev pub has_signature : Ty → List Ty → Signature → Bool
has_signature result params signature = same_ty result signature.result && same_types params signature.params
