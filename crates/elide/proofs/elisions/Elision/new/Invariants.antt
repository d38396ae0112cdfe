use Rattle.std.proofs.Common.{◌≡◌, replicate}
use Rattle.elide.specs.Watches.{nothing_watched}
use Rattle.elide.proofs.elisions.Elision.new.Given as goal

abbrev pub invariant-threads : goal.invariant-threads
invariant-threads l = l.watches.items ≡ replicate l._turn nothing_watched
