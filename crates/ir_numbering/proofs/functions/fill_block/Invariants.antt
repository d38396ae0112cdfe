use Rattle.std.proofs.Common.{◌≡◌, ◌++◌, [], ◌∷◌, map, take}
use Rattle.ir_numbering.specs.Numbers.{renaming_of}
use Rattle.ir_numbering.specs.Renaming.{renamed_loc, renamed_inst}
use Rattle.ir_numbering.proofs.functions.fill_block.Given as goal

abbrev pub invariant-loop-inst : goal.invariant-loop-inst
invariant-loop-inst l =
    let r = renaming_of l.text l.m l.fn.f in
    l.f ≡ record l.fn.f { blocks = l.fn.f.blocks ++ record { label = renamed_loc r l.block.label; insts = map (renamed_inst r) (take l.inst-index l.inst-items) } ∷ [] }
