use Rattle.std.proofs.Common.{◌≡◌, ◌++◌, map, take}
use Rattle.ir_numbering.specs.Numbers.{renaming_of}
use Rattle.ir_numbering.specs.Renaming.{renamed_param}
use Rattle.ir_numbering.proofs.functions.fill_params.Given as goal

abbrev pub invariant-loop-param : goal.invariant-loop-param
invariant-loop-param l = l.f ≡ record l.fn.f { params = l.fn.f.params ++ map (renamed_param (renaming_of l.text l.m l.fn.f)) (take l.param-index l.params) }
