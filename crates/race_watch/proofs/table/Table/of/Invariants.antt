use Rattle.std.proofs.Common.{ℕ, ◌≡◌, ◌<◌, length}
use Rattle.src_meaning.specs.Races.{next_access}
use Rattle.race_watch.specs.Tables.{access_at}
use Rattle.race_watch.proofs.table.Table.of.Given as goal

-- the next accesses of the threads so far
abbrev pub invariant-threads : goal.invariant-threads
invariant-threads l = (length l.accesses.items ≡ l.t) × ((u : ℕ) → u < l.t → access_at l.accesses.items u ≡ next_access l.s.program l.s.state u)
