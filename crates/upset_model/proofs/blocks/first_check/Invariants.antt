use Rattle.std.proofs.Common.{◌≡◌, ◌<◌, ◌≤◌, length, reverse, take, IfSome}
use Rattle.std.specs.Option.{option_or}
use Rattle.upset_model.specs.Intervals.{first_checked}
use Rattle.upset_model.proofs.blocks.first_check.Given as goal

abbrev pub invariant-loop-at : goal.invariant-loop-at
invariant-loop-at l = record {
  within : l.at ≤ length l.passed;
  found : IfSome l.first (λ at. at < length l.passed);
  first : option_or (first_checked l.inside l.r (reverse (take l.at l.passed))) l.first ≡ first_checked l.inside l.r (reverse l.passed);
}

abbrev pub decreases-loop-at : goal.decreases-loop-at
decreases-loop-at l = l.at
