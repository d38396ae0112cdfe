use Rattle.std.proofs.Common.{◌≡◌, ◌++◌, map, take}
use Rattle.ir_numbering.specs.Numbers.{renaming_outside, renamed_named}
use Rattle.ir_numbering.proofs.whole.fill_types.Given as goal

abbrev pub invariant-loop-named : goal.invariant-loop-named
invariant-loop-named l = l.m ≡ record l.fn.m { types = l.fn.m.types ++ map (renamed_named (renaming_outside l.text l.fn.m)) (take l.named-index l.types) }
