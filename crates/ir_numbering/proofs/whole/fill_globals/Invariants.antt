use Rattle.std.proofs.Common.{◌≡◌, ◌++◌, map, take}
use Rattle.ir_numbering.specs.Renaming.{renamed_global}
use Rattle.ir_numbering.specs.Numbers.{renaming_outside}
use Rattle.ir_numbering.proofs.whole.fill_globals.Given as goal

abbrev pub invariant-loop-global : goal.invariant-loop-global
invariant-loop-global l = l.m ≡ record l.fn.m { globals = l.fn.m.globals ++ map (renamed_global (renaming_outside l.text l.fn.m)) (take l.global-index l.globals) }
