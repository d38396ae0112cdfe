use Rattle.std.proofs.Common.{ℕ, ◌≡◌, ◌<◌, false, length}
use Rattle.src_meaning.specs.Races.{is_race}
use Rattle.race_watch.proofs.pairs.race.Given as goal

-- no thread so far races with a later one
abbrev pub invariant-rows : goal.invariant-rows
invariant-rows l = (a b : ℕ) → a < l.t → a < b → b < length l.s.state.process.threads → is_race l.s.program l.s.state (a, b) ≡ false

-- nor does t with one so far
abbrev pub invariant-row : goal.invariant-row
invariant-row l = (b : ℕ) → l.t < b → b < l.u → is_race l.s.program l.s.state (l.t, b) ≡ false
