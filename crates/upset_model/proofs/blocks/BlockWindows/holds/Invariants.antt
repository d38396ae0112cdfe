use Rattle.std.proofs.Common.{◌≡◌, drop}
use Rattle.upset_model.specs.Intervals.{is_held}
use Rattle.upset_model.proofs.blocks.BlockWindows.holds.Given as goal

abbrev pub invariant-loop-interval : goal.invariant-loop-interval
invariant-loop-interval l = is_held l.r l.inside l.q (drop l.interval-index l.interval-items) ≡ is_held l.r l.inside l.q l.self
