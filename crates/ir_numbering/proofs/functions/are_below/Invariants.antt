use Rattle.std.proofs.Common.{◌≡◌, drop}
use Rattle.std.specs.List.{list_all}
use Rattle.ir_numbering.specs.Numbers.{is_below}
use Rattle.ir_numbering.proofs.functions.are_below.Given as goal

abbrev pub invariant-loop-place : goal.invariant-loop-place
invariant-loop-place l = list_all (is_below l.count) (drop l.place-index l.places) ≡ list_all (is_below l.count) l.places
