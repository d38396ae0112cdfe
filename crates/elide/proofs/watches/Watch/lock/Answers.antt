use Rattle.std.proofs.Common.{◌≡◌, ◌<◌, arith, length, true, false}
use Rattle.std.proofs.lemmas.Grind.{common_steps}
use Rattle.line_sets.specs.Sets.{has, takes}
use Rattle.elide.specs.Watches.{watch_limit}
use Rattle.elide.proofs.Held.{room-locked}
use Rattle.elide.proofs.watches.Watch.lock.Goals as goal

pub unwrap-requires : goal.unwrap-requires
unwrap-requires c =
    let free : has c.self.inside.held.items c.args.address ≡ false = grind (arith, common_steps) in
    let room : takes watch_limit c.self.inside.watched c.args.address ≡ true = grind (arith, common_steps) in
    let all = c.self.invariant.1 in
    let enough = c.self.invariant.0 in
    let less : length c.self.inside.held.items < 16 = room-locked c.self.inside.watched c.self.inside.held.items c.args.address all free room in
    c.insert.ensures.succeeds (omega (arith, enough, less))
