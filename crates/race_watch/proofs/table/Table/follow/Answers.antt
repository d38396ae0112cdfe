use Rattle.std.proofs.Common.{subst, sym, ◌∙◌, arith}
use Rattle.race_watch.proofs.Following.{Followed, followed, apart, race_in-state}
use Rattle.race_watch.proofs.Others.{Moved, step-moved}
use Rattle.race_watch.proofs.table.Table.follow.Goals as goal

pub returns-then-made-len : goal.returns-then-made-len
returns-then-made-len c before table none went is =
    let s = c.args.s.now in
    let t = c.args.t.0 in
    let old = c.args.self.now.accesses.items in
    let new = c.renew.new.self.accesses.items in
    let moved = subst (Moved before t) (sym is) (step-moved s.program before t went) in
    let h : Followed s.program before t s.state old new = record {
      known = table.accesses;
      none = none;
      moved = moved;
      same = omega (arith, table.accesses.count);
      made = omega (arith, table.accesses.count);
      is = c.renew.ensures.accesses;
    } in
    let all = followed s.program before t s.state old new h in
    record { accesses = all; race = c.renew.ensures.race (apart s.program before t s.state old new h) ∙ race_in-state s.program s.state new all }
