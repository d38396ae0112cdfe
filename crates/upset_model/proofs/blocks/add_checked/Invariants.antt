use Rattle.std.proofs.Common.{◌≡◌, ◌++◌, drop, reverse}
use Rattle.upset_model.specs.Intervals.{checked_intervals}
use Rattle.upset_model.proofs.blocks.add_checked.Given as goal

abbrev pub invariant-loop-loc : goal.invariant-loop-loc
invariant-loop-loc l = l.intervals.items ++ checked_intervals l.inside l.side (reverse l.passed) (drop l.loc-index l.regs)
    ≡ l.fn.intervals.items ++ checked_intervals l.inside l.side (reverse l.passed) l.regs
