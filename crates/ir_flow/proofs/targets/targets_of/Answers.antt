use Rattle.std.proofs.Common.{ℕ, refl, get_or}
use Rattle.ir_flow.proofs.Tables.{targets-more}
use Rattle.ir_flow.proofs.targets.targets_of.Goals as goal

pub loop-from-preserved : goal.loop-from-preserved
loop-from-preserved c =
    let d : ℕ × ℕ = (0, 0) in
    targets-more c.args.pairs.now c.loop-from.from-index (get_or c.args.pairs.now c.loop-from.from-index d) d c.args.blocks c.loop-from.table.items c.add_target.new.table.items c.loop-from-test.true refl c.loop-from.invariant c.in_ok-add_target.ensures.count c.in_ok-add_target.ensures.added
