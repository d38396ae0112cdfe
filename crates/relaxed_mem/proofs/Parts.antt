-- Checks that compare always.
use Rattle.std.proofs.Common.{◌≡◌, List, [], ◌∷◌, ◌++◌, refl, ap, ◌∙◌}
use Rattle.std.specs.List.{flat_map}
use Rattle.ir_core.specs.declared.types.Ty.{Ty}
use Rattle.ir_core.specs.declared.values.Val.{Val}
use Rattle.ir_core.specs.declared.values.Val.TheVariants as values
use Rattle.hard_ir.specs.declared.instruction.HInst.{HInst}
use Rattle.hard_ir.specs.declared.instruction.When.TheVariants.{Always}
use Rattle.hard_ir.specs.Image.{check, check_when}

same-check : (operand : Ty × Val) → check_when Always operand ≡ check operand
same-check (ty, values.Reg reg) = refl
same-check (ty, values.Int n) = refl
same-check (ty, values.Null) = refl
same-check (ty, values.Global symbol) = refl
same-check (ty, values.Gep gep) = refl

pub always : (operands : List (Ty × Val)) → flat_map (check_when Always) operands ≡ flat_map check operands
always [] = refl
always (operand ∷ operands) =
    ap (λ (items : List HInst). items ++ flat_map (check_when Always) operands) (same-check operand) ∙ ap (λ (items : List HInst). check operand ++ items) (always operands)
