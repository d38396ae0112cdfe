use Rattle.std.proofs.Common.{◌≡◌, take}
use Rattle.column_walk.proofs.walk.copied_phis.Given as goal

abbrev pub invariant-loop-side : goal.invariant-loop-side
invariant-loop-side l = l.copies ≡ take l.side-index l.phis
