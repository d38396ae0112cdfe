-- What contracts see of named types: their definitions, and how many names deep they are followed.
use Rattle.std.specs.Prelude.{ℕ, List}
use Rattle.ir_core.specs.declared.types.Ty.{Ty}
use Rattle.ir_core.specs.declared.types.TypeId.{TypeId}

pub record Followed : Type 0 where
  pub types : List (TypeId × Ty)
  pub rounds : ℕ
