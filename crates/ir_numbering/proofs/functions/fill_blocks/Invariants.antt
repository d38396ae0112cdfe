use Rattle.std.proofs.Common.{◌≡◌, ◌++◌, map, take}
use Rattle.ir_numbering.specs.Numbers.{renaming_of}
use Rattle.ir_numbering.specs.Renaming.{renamed_block}
use Rattle.ir_numbering.proofs.functions.fill_blocks.Given as goal

abbrev pub invariant-loop-block : goal.invariant-loop-block
invariant-loop-block l = l.f ≡ record l.fn.f { blocks = l.fn.f.blocks ++ map (renamed_block (renaming_of l.text l.m l.fn.f)) (take l.block-index l.blocks) }
