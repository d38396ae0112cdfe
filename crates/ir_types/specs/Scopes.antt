-- What an operand is held against, as contracts see it.
use Rattle.std.specs.Prelude.{Bool}
use Rattle.ir_core.specs.declared.types.Ty.{Ty}
use Rattle.ir_core.specs.declared.values.Val.{Val}
use Rattle.ir_types.specs.Types.{operand_fits}
use Rattle.ir_types.specs.declared.operands.Scope.{Scope}

-- an operand has the type that is written of it
abbrev pub fits_in : Scope → Ty × Val → Bool
fits_in scope = operand_fits scope.layout.now.types scope.names.now
