use Rattle.std.proofs.Common.{ℕ, ◌≡◌, ◌<◌, false}
use Rattle.race_watch.specs.Tables.{clashes_in}
use Rattle.race_watch.proofs.table.race_with.Given as goal

-- no thread so far clashes with t
abbrev pub invariant-earlier : goal.invariant-earlier
invariant-earlier l = (a : ℕ) → a < l.u → clashes_in l.accesses (a, l.t) ≡ false

abbrev pub invariant-later : goal.invariant-later
invariant-later l = (b : ℕ) → l.t < b → b < l.u → clashes_in l.accesses (l.t, b) ≡ false
