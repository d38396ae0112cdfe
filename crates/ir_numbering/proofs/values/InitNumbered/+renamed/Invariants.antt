use Rattle.std.proofs.Common.{◌≡◌, List, map, take}
use Rattle.ir_core.specs.declared.types.Ty.{Ty}
use Rattle.ir_core.specs.declared.values.Init.{Init}
use Rattle.ir_numbering.specs.Numbers.{renaming_of}
use Rattle.ir_numbering.specs.Renaming.{Renaming, renamed_ty, renamed_init}
use Rattle.ir_numbering.proofs.values.InitNumbered.+renamed.Given as goal

-- the parts with each initialiser renamed first, as the definition takes them
abbrev seen : Renaming → List (Ty × Init) → List (Ty × Init)
seen r parts = map (λ (part : Ty × Init). (renamed_ty r part.0, part.1)) (map (λ (part : Ty × Init). (part.0, renamed_init r part.1)) parts)

abbrev pub invariant-loop-ty : goal.invariant-loop-ty
invariant-loop-ty l = l.copies ≡ seen (renaming_of l.numbers.text.now l.numbers.in_module.now l.numbers.in_func.now) (take l.ty-index l.ty-items)
