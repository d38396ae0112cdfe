use Rattle.std.proofs.Common.{◌≡◌, List, [], ℕ, map, drop}
use Rattle.std.specs.Prelude.{fold}
use Rattle.ir_core.specs.declared.types.Ty.{Ty}
use Rattle.ir_core.specs.declared.values.Init.{Init}
use Rattle.mem_image.specs.Opening.{with_part, bytes_given}
use Rattle.mem_image.proofs.opening.+bytes_given.Given as goal

abbrev pub invariant-loop-ty : goal.invariant-loop-ty
invariant-loop-ty l = let seen : List (Ty × Init) → List (Ty × List ℕ) = λ parts. map (λ (part : Ty × Init). (part.0, bytes_given l.l part.1)) parts in fold (with_part l.l) l.bytes.items (seen (drop l.ty-index l.ty-items)) ≡ fold (with_part l.l) [] (seen l.ty-items)
