-- How the code writes the types in signatures of externals.
use Rattle.ir_core.specs.declared.types.Ty.{Ty}
use Rattle.ir_core.specs.declared.types.Ty.TheVariants as types
use Rattle.ir_calls.specs.Externals.{i32, i64}
use Rattle.ir_calls.specs.declared.scalars.Scalar.{Scalar}
use Rattle.ir_calls.specs.declared.scalars.Scalar.TheVariants as scalars

abbrev pub type_of : Scalar → Ty
type_of scalars.Void = types.Void
type_of scalars.I32 = i32
type_of scalars.I64 = i64
type_of scalars.Ptr = types.Ptr
