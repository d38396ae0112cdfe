use Rattle.std.proofs.Common.{◌≡◌, ◌++◌, map, take}
use Rattle.ir_numbering.specs.Renaming.{renamed_declare}
use Rattle.ir_numbering.specs.Numbers.{renaming_outside}
use Rattle.ir_numbering.proofs.whole.fill_declares.Given as goal

abbrev pub invariant-loop-declare : goal.invariant-loop-declare
invariant-loop-declare l = l.m ≡ record l.fn.m { declares = l.fn.m.declares ++ map (renamed_declare (renaming_outside l.text l.fn.m)) (take l.declare-index l.declares) }
