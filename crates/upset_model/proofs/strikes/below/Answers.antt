use Rattle.std.proofs.Common.{◌≡◌, ◌^◌, ◌<◌, ◌≤◌, sym, arith}
use Rattle.std.proofs.Math.Nat.{mod-eq_of_lt, pow-le-pow_right}
use Rattle.upset_model.proofs.strikes.below.Goals as goal

pub returns-else-width-lt128 : goal.returns-else-width-lt128
returns-else-width-lt128 c =
    let more : 2 ^ 128 ≤ 2 ^ c.args.width = pow-le-pow_right {n = 2} (omega arith) c.if-width-lt128.false in
    sym (mod-eq_of_lt (omega (arith, more, c.ranges.mask)))
