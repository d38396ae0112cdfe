use Rattle.std.proofs.Common.{◌≡◌, map, take}
use Rattle.ir_numbering.specs.Numbers.{renaming_of}
use Rattle.ir_numbering.proofs.trees.SeqNumbered.renamed.Given as goal

abbrev pub invariant-loop-item : goal.invariant-loop-item
invariant-loop-item g l = l.copies.items ≡ map (g.T.Numbered.renamed_by (renaming_of l.numbers.text.now l.numbers.in_module.now l.numbers.in_func.now)) (take l.item-index l.item-items)
