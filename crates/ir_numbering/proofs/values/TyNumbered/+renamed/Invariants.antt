use Rattle.std.proofs.Common.{◌≡◌, map, take}
use Rattle.ir_numbering.specs.Numbers.{renaming_of}
use Rattle.ir_numbering.specs.Renaming.{renamed_ty}
use Rattle.ir_numbering.proofs.values.TyNumbered.+renamed.Given as goal

abbrev pub invariant-loop-part : goal.invariant-loop-part
invariant-loop-part l = l.copies ≡ map (renamed_ty (renaming_of l.numbers.text.now l.numbers.in_module.now l.numbers.in_func.now)) (take l.part-index l.part-items)
