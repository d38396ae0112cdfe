use Rattle.std.proofs.Common.{length, arith, rules, sym}
use Rattle.src_meaning.specs.Races.{is_race}
use Rattle.race_watch.proofs.FirstPairs.{find-some, find-none}
use Rattle.race_watch.proofs.pairs.race.Goals as goal

pub returns-then-clash : goal.returns-then-clash
returns-then-clash c =
    let s = c.args.s.now in
    sym (find-some (is_race s.program s.state) (length s.state.process.threads) c.rows.t c.row.u (omega arith) (omega arith) (search rules) (record { rows = c.rows.invariant; row = c.row.invariant }))

pub returns : goal.returns
returns c =
    let s = c.args.s.now in
    sym (find-none (is_race s.program s.state) (length s.state.process.threads) (λ a b order within. c.rows.invariant a b (omega arith) order within))
